use Rattle.std.proofs.Common.{◌≡◌, false}
use Rattle.content_keys.specs.Places.{AreRight, HavePlaces, IsOfMark, Rounds}
use Rattle.content_keys.specs.Tables.{AddsOnly, Starts, values}
use Rattle.content_keys.proofs.placed_layer.round.Given as goal

abbrev pub invariant-loop-id : goal.invariant-loop-id
invariant-loop-id l = record {
  right : AreRight l.layer l.table l.places;
  rounds : Rounds l.layer l.ids l.initial.places l.places l.id-index;
  grown : Starts l.initial.table l.table;
  only : AddsOnly (IsOfMark l.layer) (values l.initial.table) (values l.table);
  placed : l.waits ≡ false → HavePlaces l.layer l.ids l.places l.id-index;
}
