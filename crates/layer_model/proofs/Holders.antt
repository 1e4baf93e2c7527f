-- Two holders whose names ascend.
use Rattle.std.proofs.Common.{◌≡◌, ℕ, List, [], ◌∷◌, arith}
use Rattle.std.specs.Ordering.{nat_cmp}
use Rattle.std.specs.Cmp.Lexicographic.{slice_cmp}
use Rattle.std.specs.List.Sorted.{IsStrictlySortedBy}
use Rattle.std.specs.declared.cmp.Ordering.TheVariants.{Less}
use Rattle.layer_model.specs.Annotations.{Annotations}
use Rattle.layer_model.specs.Snapshots.{AreHolders}

pub two_holders : (first second : List ℕ) (a b : Annotations) → slice_cmp nat_cmp first second ≡ Less → AreHolders ((first, a) ∷ (second, b) ∷ [])
unfolding IsStrictlySortedBy
two_holders first second a b h = record { two = omega arith; few = omega arith; ascending = ((h, tt), (tt, tt)) }
