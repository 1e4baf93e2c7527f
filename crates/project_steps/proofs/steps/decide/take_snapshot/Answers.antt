use Rattle.project_steps.proofs.StepsProofs.ShotLemmas.{shot_kept}
use Rattle.project_steps.proofs.steps.decide.take_snapshot.Goals as goal

pub view_of-requires : goal.view_of-requires
view_of-requires c = shot_kept c.args.state.now.state c.args.number c.in-Some.taken.now c.requires c.in-Some.ensures
