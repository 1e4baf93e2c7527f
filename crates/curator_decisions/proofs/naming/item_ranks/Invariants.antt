use Rattle.std.proofs.Common.{◌≡◌, ℕ, ◌==◌, take}
use Rattle.std.specs.Ordering.{nat_cmp}
use Rattle.std.specs.BTreeSet.{contains}
use Rattle.std.specs.List.{list_any}
use Rattle.curator_decisions.specs.Decisions.{item_rank}
use Rattle.curator_decisions.proofs.naming.item_ranks.Given as goal

abbrev pub invariant-loop-entry : goal.invariant-loop-entry
invariant-loop-entry l = (rank : ℕ) → contains nat_cmp l.ranks rank ≡ list_any (λ entry. item_rank entry.item == rank) (take l.entry-index l.entries)
