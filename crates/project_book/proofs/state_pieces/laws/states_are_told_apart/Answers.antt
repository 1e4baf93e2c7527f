use Rattle.project_book.proofs.StatePiecesProofs.ApartLemmas.{replayed}
use Rattle.project_book.proofs.state_pieces.laws.states_are_told_apart.Goals as goal

pub returns : goal.returns
returns c = replayed c.checkpoints_have_no_fault.ensures.apart
