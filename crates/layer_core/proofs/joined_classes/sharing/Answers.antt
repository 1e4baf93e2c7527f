use Rattle.std.proofs.Common.{◌∙◌}
use Rattle.layer_core.proofs.BackStepLemmas.{sought_same}
use Rattle.layer_core.proofs.joined_classes.sharing.Goals as goal

pub returns : goal.returns
returns c = c.in_ok-found.ensures ∙ sought_same c.args.kind.n c.args.members.now c.in_ok-sought.sought c.args.classes.now c.in_ok-sought.ensures
