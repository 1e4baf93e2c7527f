use Rattle.project_steps.proofs.StepsProofs.ShotLemmas.{shots_cohere}
use Rattle.project_steps.proofs.steps.decide.verdict_taken.Goals as goal

pub undecide-requires : goal.undecide-requires
undecide-requires c = shots_cohere c.args.state.now.state c.args.taken.now c.layers.result.now c.well_formed_layers_cohere.ensures c.requires c.layers.ensures
