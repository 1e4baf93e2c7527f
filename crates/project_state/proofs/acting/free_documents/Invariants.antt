use Rattle.std.proofs.Common.{◌≡◌, ◌++◌, drop, map, take}
use Rattle.project_machine.specs.History.{freed}
use Rattle.project_state.proofs.acting.free_documents.Given as goal

abbrev pub invariant-loop-document : goal.invariant-loop-document
invariant-loop-document l = l.documents ≡ map freed (take l.document-index l.initial.documents) ++ drop l.document-index l.initial.documents
