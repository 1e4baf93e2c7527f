use Rattle.std.proofs.Common.{◌∙◌, sym}
use Rattle.std.specs.Str.Lines.{lines}
use Rattle.token_columns.proofs.AnswerLemmas.{text_read}
use Rattle.token_columns.proofs.FirstFaultLemmas.{first_fault}
use Rattle.token_columns.proofs.laws.told_faults_are_the_first.Goals as goal

pub returns : goal.returns
returns c conf text bytes number what valid told = first_fault conf text (lines bytes) number what (sym (text_read conf text bytes valid) ∙ told)
