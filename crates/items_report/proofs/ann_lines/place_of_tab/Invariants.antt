use Rattle.std.proofs.Common.{◌≡◌, ℕ, ◌<◌, ◌==◌, false, get_or}
use Rattle.items_report.proofs.ann_lines.place_of_tab.Given as goal

-- no TAB stands before the place
abbrev pub invariant-loop-place : goal.invariant-loop-place
invariant-loop-place l = (k : ℕ) → k < l.place → (get_or l.line k 0 == 9) ≡ false
