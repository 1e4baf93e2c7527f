use Rattle.std.proofs.Common.{refl}
use Rattle.serde_json.proofs.OnLiterals.{serde_json_on_literals}
use Rattle.std.proofs.Common.{lit<}
use Rattle.std.proofs.lemmas.Fmt.{decimal_digit}
use Rattle.http_answers.proofs.answers.worked_answers.examples_of_answers.Goals as goal

pub returns-clause-parked : goal.returns-clause-parked
unfolding serde_json_on_literals
returns-clause-parked c = λ route. refl

pub returns-clause-finished : goal.returns-clause-finished
unfolding serde_json_on_literals
returns-clause-finished c = λ route. refl

pub returns-clause-reopened : goal.returns-clause-reopened
unfolding serde_json_on_literals
returns-clause-reopened c = λ route. refl

pub returns-clause-ignored : goal.returns-clause-ignored
unfolding serde_json_on_literals
returns-clause-ignored c = λ route. refl

pub returns-clause-no_documents : goal.returns-clause-no_documents
unfolding serde_json_on_literals
returns-clause-no_documents c = λ route. refl

pub returns-clause-added : goal.returns-clause-added
unfolding serde_json_on_literals
returns-clause-added c = λ route. rw (decimal_digit 4 (lit< tt)) refl

pub returns-clause-committed : goal.returns-clause-committed
unfolding serde_json_on_literals
returns-clause-committed c = λ route. rw (decimal_digit 1 (lit< tt)) refl

pub returns-clause-snapped : goal.returns-clause-snapped
unfolding serde_json_on_literals
returns-clause-snapped c = λ route. rw (decimal_digit 1 (lit< tt), decimal_digit 2 (lit< tt)) refl

pub returns-clause-decided : goal.returns-clause-decided
unfolding serde_json_on_literals
returns-clause-decided c = λ route. rw (decimal_digit 1 (lit< tt)) refl

pub returns-clause-refused : goal.returns-clause-refused
unfolding serde_json_on_literals
returns-clause-refused c = λ route. refl

pub returns-clause-curated : goal.returns-clause-curated
returns-clause-curated c = λ number view. refl

pub returns-clause-items : goal.returns-clause-items
returns-clause-items c = λ number view. refl
