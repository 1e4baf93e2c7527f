use Rattle.std.proofs.Common.{◌≡◌, ◌<◌, ℕ, false, take}
use Rattle.type_hierarchy.specs.TypeFaults.{is_twice}
use Rattle.type_hierarchy.specs.Indexed.{FindsNames}
use Rattle.type_hierarchy.proofs.tree.gather_names.Given as goal

abbrev pub invariant-loop-place : goal.invariant-loop-place
invariant-loop-place l = record {
  finds : FindsNames (take l.place l.rows) l.places;
  once : (k : ℕ) → k < l.place → is_twice l.rows k ≡ false;
}
