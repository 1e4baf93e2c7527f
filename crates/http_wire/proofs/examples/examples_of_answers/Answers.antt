use Rattle.std.proofs.Common.{refl}
use Rattle.http_wire.specs.Answers.{answer_bytes_of, answer_head_of, field_line, phrase_of, status_line}
use Rattle.http_wire.proofs.DecimalLemmas.{decimal_3, decimal_13, decimal_21, decimal_200, decimal_400}
use Rattle.http_wire.proofs.UnableLemmas.{unable_parts}
use Rattle.http_wire.proofs.examples.examples_of_answers.Goals as goal

pub returns-clause-made : goal.returns-clause-made
unfolding answer_bytes_of field_line phrase_of status_line
returns-clause-made c = rw (decimal_200, decimal_13, decimal_3) refl

pub returns-clause-bodiless : goal.returns-clause-bodiless
unfolding answer_head_of field_line phrase_of status_line
returns-clause-bodiless c = rw (decimal_200, decimal_13, decimal_3) refl

pub returns-clause-refused : goal.returns-clause-refused
unfolding answer_bytes_of field_line phrase_of status_line
returns-clause-refused c = rw (decimal_400, decimal_21, decimal_3) refl

pub returns-clause-unable : goal.returns-clause-unable
returns-clause-unable c = rw (unable_parts, decimal_3) refl
