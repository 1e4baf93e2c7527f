use Rattle.std.proofs.Common.{◌≡◌, ◌<◌, length, map, take, All, slice_index}
use Rattle.content_keys.specs.LayerContents.{class_content, class_contents_of, content_of}
use Rattle.content_keys.specs.Nodes.{IsIn}
use Rattle.content_keys.specs.Places.{AreRight}
use Rattle.content_keys.specs.Tables.{AddsOnly, Starts, values}
use Rattle.content_keys.proofs.placed_layer.place_classes.Given as goal

abbrev pub invariant-loop-class : goal.invariant-loop-class
invariant-loop-class l = record {
  right : AreRight l.layer l.table l.places;
  contents : map (slice_index (values l.table)) l.placed.items ≡ map (class_content (content_of l.layer)) (take l.class-index l.class-items);
  within : All (λ place. place < length l.table) l.placed.items;
  grown : Starts l.initial.table l.table;
  classes : l.class-items ≡ l.layer.classes;
  only : AddsOnly (λ n. IsIn n (class_contents_of l.layer)) (values l.initial.table) (values l.table);
}
