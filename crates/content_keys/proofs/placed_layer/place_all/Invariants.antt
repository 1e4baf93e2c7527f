use Rattle.content_keys.specs.Places.{AreRight, ArePlaced, IsOfMark}
use Rattle.content_keys.specs.Tables.{AddsOnly, Starts, values}
use Rattle.content_keys.proofs.placed_layer.place_all.Given as goal

abbrev pub invariant-loop-depth : goal.invariant-loop-depth
invariant-loop-depth l = AreRight l.layer l.table l.places × ArePlaced l._depth l.layer l.places × Starts l.initial.table l.table × AddsOnly (IsOfMark l.layer) (values l.initial.table) (values l.table)
