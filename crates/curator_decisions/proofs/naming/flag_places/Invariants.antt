use Rattle.std.proofs.Common.{◌≡◌, ℕ, ◌<◌, ◌||◌, false, get_or, length, take}
use Rattle.curator_decisions.specs.Naming.{has_place}
use Rattle.curator_decisions.proofs.naming.flag_places.Given as goal

abbrev pub invariant-loop-place : goal.invariant-loop-place
invariant-loop-place l = record {
  long : length l.flags.items ≡ length l.initial.flags.items;
  flagged : (place : ℕ) → place < length l.initial.flags.items → get_or l.flags.items place false ≡ (get_or l.initial.flags.items place false || has_place (take l.place-index l.places) place);
}
