use Rattle.std.proofs.Common.{◌<◌, length}
use Rattle.layer_core.proofs.joined_classes.greatest_place.Given as goal

abbrev pub invariant-loop-place : goal.invariant-loop-place
invariant-loop-place l = l.greatest < length l.classes
