use Rattle.std.proofs.Common.{rules}
use Rattle.project_steps.proofs.StepsProofs.ShotLemmas.{taken_hold}
use Rattle.project_steps.proofs.steps.snap.snap.Goals as goal

pub of-layers-requires : goal.of-layers-requires
of-layers-requires c =
    taken_hold c.args.state.now.state c.args.name.now c.number_of.result c.in_ok-finished.finished.items c.requires (search rules) c.number_of.ensures c.in_ok-finished.ensures (search rules)
