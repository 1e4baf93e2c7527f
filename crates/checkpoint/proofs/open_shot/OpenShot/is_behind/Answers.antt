use Rattle.checkpoint.proofs.HolderLemmas.{behind_so}
use Rattle.checkpoint.proofs.open_shot.OpenShot.is_behind.Goals as goal

pub returns : goal.returns
returns c = behind_so c.self.inside.doc c.self.inside.layers c.self.inside.held.items c.as_slice.result.now c.args.who.now c.args.self.now c.come_before.result c.come_before.ensures c.as_slice.ensures.value c.self.view_is
