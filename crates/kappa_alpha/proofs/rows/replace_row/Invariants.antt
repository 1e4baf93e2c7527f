use Rattle.std.proofs.Common.{◌≡◌, ◌+◌, ◌≤◌, length, set}
use Rattle.kappa_alpha.specs.Standing.{over_tokens}
use Rattle.kappa_alpha.specs.Steps.{standing, row_steps}
use Rattle.kappa_alpha.specs.Counted.{Count, IsCount, IsShaped, adds, held}
use Rattle.kappa_alpha.proofs.rows.replace_row.Given as goal

abbrev pub invariant-loop-i : goal.invariant-loop-i
invariant-loop-i g l = record {
  shape : IsShaped l.fn.tallies.raters l.fn.tallies.coincidences.width l.tallies;
  same : length l.column ≡ length l.rows;
  each : (v : Count) → IsCount l.fn.tallies.raters l.fn.tallies.coincidences.width v → held l.tallies v + over_tokens (adds v) (set l.rows l.rater l.before) l.i ≡ held l.fn.tallies v + over_tokens (adds v) (set l.rows l.rater l.after) l.i;
  steps : l.steps ≤ l.fn.steps + row_steps (standing l.rows) l.before l.after l.i;
}
