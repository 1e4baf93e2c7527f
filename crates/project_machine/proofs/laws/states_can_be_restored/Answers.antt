use Rattle.project_machine.proofs.LegalLemmas.{legal_kept, place_some}
use Rattle.project_machine.proofs.laws.states_can_be_restored.Goals as goal

pub returns-clause-kept : goal.returns-clause-kept
returns-clause-kept c = λ log legal. legal_kept log c.unflawed_layers.ensures.unflawed legal

pub returns-clause-restored : goal.returns-clause-restored
returns-clause-restored c = λ log legal accepted free low. record {
  kept = legal_kept log c.unflawed_layers.ensures.unflawed legal;
  accepted = accepted;
  free = free;
  placed = place_some log legal;
  low = low;
}
