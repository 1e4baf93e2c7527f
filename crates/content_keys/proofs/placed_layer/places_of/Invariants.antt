use Rattle.std.proofs.Common.{◌≡◌, drop, ◌++◌, option_map}
use Rattle.content_keys.specs.Carrying.{all_moved}
use Rattle.content_keys.specs.Places.{place_of}
use Rattle.content_keys.proofs.placed_layer.places_of.Given as goal

abbrev pub invariant-loop-id : goal.invariant-loop-id
invariant-loop-id l = all_moved (place_of l.places) l.ids ≡ option_map (λ r. l.out.items ++ r) (all_moved (place_of l.places) (drop l.id-index l.ids))
