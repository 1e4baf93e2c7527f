use Rattle.project_machine.proofs.OrderLemmas.{founding_is, roster_is}
use Rattle.project_machine.proofs.RosterLemmas.{counts_stay}
use Rattle.project_machine.proofs.laws.rosters_can_found.Goals as goal

pub returns-clause-founding : goal.returns-clause-founding
returns-clause-founding c = roster_is

pub returns-clause-roster : goal.returns-clause-roster
returns-clause-roster c = founding_is

pub returns-clause-same : goal.returns-clause-same
returns-clause-same c = counts_stay
