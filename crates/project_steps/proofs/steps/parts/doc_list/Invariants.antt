use Rattle.std.proofs.Common.{◌≡◌, take, map}
use Rattle.project_machine.specs.Machine.{line_of}
use Rattle.project_steps.proofs.steps.parts.doc_list.Given as goal

abbrev pub invariant-loop-document : goal.invariant-loop-document
invariant-loop-document l = l.lines.items ≡ map line_of (take l.document-index l.document-items)
