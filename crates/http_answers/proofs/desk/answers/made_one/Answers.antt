use Rattle.std.proofs.Common.{◌≡◌, codes, rules}
use Rattle.serde_json.specs.Data.{string, object, member, no_members}
use Rattle.serde_json.specs.View.{view}
use Rattle.serde_json.specs.declared.value.Value.{the_lemmas}
use Rattle.serde_json.proofs.OnLiterals.{serde_json_on_literals}
use Rattle.http_answers.proofs.desk.answers.made_one.Goals as goal

pub returns : goal.returns
unfolding serde_json_on_literals
returns c =
    let built : view c.in_ok-value.value ≡ object (member (codes "made") (string c.in_ok-id.id) no_members) =
    search (rules, the_lemmas) in
    search rules
