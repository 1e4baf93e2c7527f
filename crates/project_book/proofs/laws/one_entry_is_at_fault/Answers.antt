use Rattle.project_book.proofs.FaultLemmas.{one_at_fault}
use Rattle.project_book.proofs.laws.one_entry_is_at_fault.Goals as goal

pub returns : goal.returns
returns c = one_at_fault c.checkpoints_have_no_fault.ensures.checkpoints c.sound_states_have_checkpoints.ensures c.pieces_are_read_in_one_way.ensures.fault
