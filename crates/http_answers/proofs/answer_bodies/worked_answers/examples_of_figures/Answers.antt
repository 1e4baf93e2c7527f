use Rattle.std.proofs.Common.{refl, lit<}
use Rattle.serde_json.proofs.OnLiterals.{serde_json_on_literals}
use Rattle.std.proofs.lemmas.Fmt.{decimal_digit}
use Rattle.http_answers.proofs.answer_bodies.worked_answers.examples_of_figures.Goals as goal

pub returns-clause-parked : goal.returns-clause-parked
unfolding serde_json_on_literals
returns-clause-parked c = refl

pub returns-clause-reopened : goal.returns-clause-reopened
unfolding serde_json_on_literals
returns-clause-reopened c = refl

pub returns-clause-added : goal.returns-clause-added
unfolding serde_json_on_literals
returns-clause-added c = rw (decimal_digit 4 (lit< tt)) refl

pub returns-clause-handed_out : goal.returns-clause-handed_out
unfolding serde_json_on_literals
returns-clause-handed_out c = rw (decimal_digit 0 (lit< tt)) refl

pub returns-clause-snapped : goal.returns-clause-snapped
unfolding serde_json_on_literals
returns-clause-snapped c = rw (decimal_digit 1 (lit< tt), decimal_digit 2 (lit< tt)) refl

pub returns-clause-no_documents : goal.returns-clause-no_documents
unfolding serde_json_on_literals
returns-clause-no_documents c = refl

pub returns-clause-documents : goal.returns-clause-documents
unfolding serde_json_on_literals
returns-clause-documents c = rw (decimal_digit 9 (lit< tt), decimal_digit 0 (lit< tt)) refl
