use Rattle.std.proofs.Common.{◌≡◌, ◌++◌, length, reverse}
use Rattle.checkpoint.proofs.told_state.stored.Given as goal

abbrev pub invariant-loop-document : goal.invariant-loop-document
invariant-loop-document l = l.rest.items ++ reverse l.stored.items ≡ l.fn.documents.items

abbrev pub decreases-loop-document : goal.decreases-loop-document
decreases-loop-document l = length l.rest.items
