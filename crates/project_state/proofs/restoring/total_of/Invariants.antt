use Rattle.std.proofs.Common.{◌≡◌, ◌≤◌, length, take}
use Rattle.std.specs.List.{sum_by}
use Rattle.project_machine.specs.ProjectState.{Document}
use Rattle.project_state.proofs.restoring.total_of.Given as goal

abbrev pub invariant-loop-document : goal.invariant-loop-document
invariant-loop-document l = record {
  so_far : l.total ≡ sum_by (λ (d : Document). length d.text) (take l.document-index l.documents);
  few : l.total ≤ 16777216;
}
