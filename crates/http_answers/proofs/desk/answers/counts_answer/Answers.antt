use Rattle.std.proofs.Common.{◌≡◌, codes, rules}
use Rattle.serde_json.specs.Data.{number, unsigned, object, member, no_members}
use Rattle.serde_json.specs.View.{view}
use Rattle.serde_json.specs.declared.value.Value.{the_lemmas}
use Rattle.serde_json.proofs.OnLiterals.{serde_json_on_literals}
use Rattle.http_answers.proofs.desk.answers.counts_answer.Goals as goal

pub returns-clause-answer : goal.returns-clause-answer
unfolding serde_json_on_literals
returns-clause-answer c =
    let built : view c.in_ok-value.value ≡ object ((member (codes "done") (number (unsigned c.done_count-done.result)) (member (codes "undone") (number (unsigned c.undone_count-undone.result)) no_members))) =
    search (rules, the_lemmas) in
    search rules
