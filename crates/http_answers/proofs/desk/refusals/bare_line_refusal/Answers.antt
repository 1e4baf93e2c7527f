use Rattle.std.proofs.Common.{◌≡◌, codes, rules}
use Rattle.serde_json.specs.Data.{string, number, unsigned, object, member, no_members}
use Rattle.serde_json.specs.View.{view}
use Rattle.serde_json.specs.declared.value.Value.{the_lemmas}
use Rattle.serde_json.proofs.OnLiterals.{serde_json_on_literals}
use Rattle.http_answers.proofs.desk.refusals.bare_line_refusal.Goals as goal

pub returns : goal.returns
unfolding serde_json_on_literals
returns c =
    let built : view c.in_ok-value.value ≡ object (member (codes "line") (number (unsigned c.args.line)) (member (codes "refused") (string c.args.name.now) no_members)) =
    search (rules, the_lemmas) in
    search rules
