use Rattle.checkpoint.proofs.HolderLemmas.{no_held}
use Rattle.checkpoint.proofs.open_shot.OpenShot.new.Goals as goal

pub invariant_of-result : goal.invariant_of-result
invariant_of-result c = no_held c.args.doc c.args.layers c.new.result.items c.new.ensures.items c.requires.two c.requires.few
