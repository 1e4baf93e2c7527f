use Rattle.project_machine.proofs.OpenLemmas.{own_next}
use Rattle.std.proofs.Common.{◌-◌, arith}
use Rattle.project_machine.specs.History.{begin}
use Rattle.project_machine.specs.Legal.{legal_step}
use Rattle.project_machine.proofs.HistoryLemmas.{front_legal, place_last}
use Rattle.project_machine.proofs.laws.histories_go_on.Goals as goal

pub returns-clause-step : goal.returns-clause-step
returns-clause-step c = λ log caller asked happened legal typed is. legal_step log caller asked happened legal typed is

pub returns-clause-upto : goal.returns-clause-upto
returns-clause-upto c = λ log place legal behind. front_legal (place - begin log) log legal (omega arith)

pub returns-clause-place : goal.returns-clause-place
returns-clause-place c = place_last

pub returns-clause-handed : goal.returns-clause-handed
returns-clause-handed c = own_next
