use Rattle.std.proofs.Common.{◌≡◌, length, take}
use Rattle.match_scores.specs.Places.{AreHere}
use Rattle.match_scores.proofs.places.marked.Given as goal

abbrev pub invariant-loop-place : goal.invariant-loop-place
invariant-loop-place l = record {
  long : length l.here.items ≡ l.count;
  so_far : AreHere (take l.place-index l.places) l.here.items;
}
