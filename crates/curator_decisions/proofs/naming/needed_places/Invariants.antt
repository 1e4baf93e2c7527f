use Rattle.std.proofs.Common.{◌≡◌, ℕ, ◌<◌, false, get_or, length, map, take}
use Rattle.curator_decisions.specs.Naming.{is_needed_at, named_at}
use Rattle.curator_decisions.proofs.naming.needed_places.Given as goal

abbrev pub invariant-loop-held : goal.invariant-loop-held
invariant-loop-held l = record {
  long : length l.flags.items ≡ length l.merged.table;
  needed : (place : ℕ) → place < length l.merged.table → get_or l.flags.items place false ≡ is_needed_at (named_at l.snapshot l.all) (map (λ row. row.items) l.merged.marks.items) l.decisions (take l.held-index l.merged.firsts.items) place;
}
