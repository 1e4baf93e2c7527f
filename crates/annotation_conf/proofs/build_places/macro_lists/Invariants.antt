use Rattle.std.proofs.Common.{◌≡◌, map, take}
use Rattle.annotation_conf.specs.BuildPlaces.{places_held}
use Rattle.annotation_conf.proofs.build_places.macro_lists.Given as goal

abbrev pub invariant-loop-line : goal.invariant-loop-line
invariant-loop-line l = l.lists.items ≡ map (λ macro. places_held l.fn.known l.fn.table macro.holding) (take l.line-index l.fn.known.macros)
