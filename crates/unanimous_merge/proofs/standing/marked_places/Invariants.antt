use Rattle.std.proofs.Common.{◌≡◌, ℕ, ◌==◌, false, length, take, get_or}
use Rattle.std.specs.List.{list_any}
use Rattle.unanimous_merge.proofs.standing.marked_places.Given as goal

abbrev pub invariant-loop-place : goal.invariant-loop-place
invariant-loop-place l = record {
  long : length l.has.items ≡ l.count;
  has : (place : ℕ) → get_or l.has.items place false ≡ list_any (λ one. one == place) (take l.place-index l.places);
}
