use Rattle.layer_core.proofs.SubjectLemmas.{reference_of_namers}
use Rattle.layer_core.proofs.first_annotation.first_reference.Goals as goal

pub loop-id-init : goal.loop-id-init
loop-id-init c = reference_of_namers c.args.layer.now c.args.target c.args.store.now c.args.entry.now c.args.namers.now c.requires
