use Rattle.std.proofs.Common.{◌≡◌, ℕ, ◌==◌, false, length, take, get_or}
use Rattle.std.specs.List.{list_any}
use Rattle.unanimous_merge.specs.Rows.{firsts_at}
use Rattle.unanimous_merge.proofs.entry.first_entries.Given as goal

abbrev pub invariant-loop-entry : goal.invariant-loop-entry
invariant-loop-entry l = record {
  long : length l.seen.items ≡ l.count;
  seen : (place : ℕ) → get_or l.seen.items place false ≡ list_any (λ other. other.place == place) (take l.entry-index l.entries);
  firsts : l.firsts.items ≡ firsts_at (take l.entry-index l.entries);
}
