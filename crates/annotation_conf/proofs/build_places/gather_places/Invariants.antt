use Rattle.std.proofs.Common.{◌≡◌, map, take, length}
use Rattle.conf_model.specs.ConfNames.{all_held}
use Rattle.annotation_conf.specs.FileShows.{seen_alternative}
use Rattle.annotation_conf.specs.BuildPlaces.{places_held}
use Rattle.annotation_conf.proofs.build_places.gather_places.Given as goal

abbrev pub invariant-loop-one : goal.invariant-loop-one
invariant-loop-one l =
    l.set.keys ≡ places_held l.known l.table (all_held (take (length l.lists) l.known.macros) (map seen_alternative (take l.one-index l.alternatives)))
