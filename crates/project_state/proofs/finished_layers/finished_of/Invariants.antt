use Rattle.std.proofs.Common.{map}
use Rattle.layer_model.specs.Snapshots.{row_of}
use Rattle.project_state.proofs.FrontLemmas.{SoFar}
use Rattle.project_state.proofs.finished_layers.finished_of.Given as goal

abbrev pub invariant-loop-person : goal.invariant-loop-person
invariant-loop-person l = SoFar l.people l.document.rows l.person-index (map row_of l.layers.items) l.rater
