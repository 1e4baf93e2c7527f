use Rattle.std.proofs.Common.{◌≡◌, ◌<◌, length, map, take, All}
use Rattle.content_keys.specs.LayerContents.{content_of}
use Rattle.content_keys.specs.Places.{contents_at}
use Rattle.content_keys.specs.Tables.{values}
use Rattle.content_keys.proofs.placed_layer.listed.Given as goal

abbrev pub invariant-loop-id : goal.invariant-loop-id
invariant-loop-id l =
    (contents_at (values l.table) l.placed.items ≡ map (λ id. (id, content_of l.layer id)) (take l.id-index l.ids)) × All (λ p. p.place < length l.table) l.placed.items
