use Rattle.std.proofs.Common.{◌≡◌, ◌<◌, drop, ◌++◌, map, option_map, All}
use Rattle.content_keys.specs.Carrying.{all_linked}
use Rattle.content_keys.specs.LayerContents.{link_of}
use Rattle.content_keys.specs.Places.{place_of}
use Rattle.content_keys.proofs.placed_layer.links_of.Given as goal

abbrev pub invariant-loop-arg : goal.invariant-loop-arg
invariant-loop-arg l =
    (all_linked (place_of l.places) (map link_of l.args) ≡ option_map (λ r. l.out.items ++ r) (all_linked (place_of l.places) (map link_of (drop l.arg-index l.args))))
    × All (λ p. p.1 < 4294967296) l.out.items
