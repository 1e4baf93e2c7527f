use Rattle.std.proofs.Common.{take, map}
use Rattle.annotation_conf.specs.NamePlaces.{seen_declared, FindsPlaces}
use Rattle.annotation_conf.proofs.known_names.gather_places.Given as goal

abbrev pub invariant-loop-place : goal.invariant-loop-place
invariant-loop-place l = FindsPlaces (map seen_declared (take l.place l.lines)) l.places
