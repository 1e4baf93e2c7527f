use Rattle.std.proofs.Common.{◌≡◌, ◌<◌, ◌+◌, ◌*◌, ℕ, get_or, length}
use Rattle.char_documents.specs.Checkpoints.{byte_of}
use Rattle.char_documents.proofs.checkpoints.checkpoints.Given as goal

abbrev pub invariant-loop-number : goal.invariant-loop-number
invariant-loop-number l = record {
  last : l.mark ≡ byte_of l.text (256 * l.number);
  count : length l.marks.items ≡ l.number + 1;
  places : (k : ℕ) → k < l.number + 1 → get_or l.marks.items k 0 ≡ byte_of l.text (256 * k);
}
