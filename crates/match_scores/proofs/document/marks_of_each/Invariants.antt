use Rattle.std.proofs.Common.{take}
use Rattle.match_scores.specs.Places.{AreMarked}
use Rattle.match_scores.proofs.document.marks_of_each.Given as goal

abbrev pub invariant-loop-layer : goal.invariant-loop-layer
invariant-loop-layer l = AreMarked l.table (take l.layer-index l.layers) l.marks.items
