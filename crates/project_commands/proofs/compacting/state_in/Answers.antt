use Rattle.project_commands.proofs.CompactLemmas.{none_out}
use Rattle.project_commands.proofs.compacting.state_in.Goals as goal

pub state_of-requires : goal.state_of-requires
state_of-requires g c = none_out _ _ c.in_ok-project.ensures.opened
