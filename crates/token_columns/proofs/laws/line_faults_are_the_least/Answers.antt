use Rattle.token_columns.proofs.LineFaultLemmas.{read_faultless, told_least}
use Rattle.token_columns.proofs.laws.line_faults_are_the_least.Goals as goal

pub returns-clause-least : goal.returns-clause-least
returns-clause-least c = told_least

pub returns-clause-none : goal.returns-clause-none
returns-clause-none c = read_faultless
