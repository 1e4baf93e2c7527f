use Rattle.std.proofs.Common.{◌≡◌, take}
use Rattle.project_state.proofs.FrontLemmas.{annotators_in}
use Rattle.project_reports.proofs.progress.annotator_names.Given as goal

abbrev pub invariant-loop-person : goal.invariant-loop-person
invariant-loop-person l = l.names.items ≡ annotators_in (take l.person-index l.people)
