use Rattle.std.proofs.Common.{◌≡◌, ◌<◌, ℕ, true, get_or, map}
use Rattle.unanimous_merge.specs.declared.entry.Entry.{Entry}
use Rattle.unanimous_merge.specs.Readings.{readings}
use Rattle.unanimous_merge.specs.Rows.{held_at}
use Rattle.curator_decisions.specs.Clashes.{AreApart}
use Rattle.curator_decisions.specs.Placing.{is_in_at}
use Rattle.curator_decisions.proofs.beside.clashes_with_none.Given as goal

abbrev pub invariant-loop-other : goal.invariant-loop-other
invariant-loop-other l =
    (i : ℕ) (d : Entry) → i < l.other-index → is_in_at (map (λ row. row.items) l.comparison.merged.marks.items) l.decisions (get_or l.comparison.merged.firsts.items i d) ≡ true
    → AreApart l.conf (readings l.snapshot) (held_at l.comparison.merged.table l.fn.entry) (held_at l.comparison.merged.table (get_or l.comparison.merged.firsts.items i d))
