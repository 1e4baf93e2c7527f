use Rattle.layer_core.proofs.SubjectLemmas.{note_of_namers}
use Rattle.layer_core.proofs.first_annotation.first_note.Goals as goal

pub loop-id-init : goal.loop-id-init
loop-id-init c = note_of_namers c.args.layer.now c.args.kind.now c.args.target c.args.namers.now c.requires
