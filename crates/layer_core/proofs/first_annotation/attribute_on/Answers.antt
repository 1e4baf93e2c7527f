use Rattle.layer_core.proofs.SubjectLemmas.{attribute_of_namers}
use Rattle.layer_core.proofs.first_annotation.attribute_on.Goals as goal

pub loop-id-init : goal.loop-id-init
loop-id-init c = attribute_of_namers c.args.layer.now c.args.kind.n c.args.target c.args.namers.now c.requires
