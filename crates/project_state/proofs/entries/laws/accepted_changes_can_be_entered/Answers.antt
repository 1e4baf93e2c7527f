use Rattle.project_state.proofs.EntriesProofs.WritableLemmas.{can_be_entered}
use Rattle.project_state.proofs.entries.laws.accepted_changes_can_be_entered.Goals as goal

pub returns : goal.returns
returns c = can_be_entered c.unflawed_layers.ensures.unflawed c.accepted_scripts_can_be_written.ensures
