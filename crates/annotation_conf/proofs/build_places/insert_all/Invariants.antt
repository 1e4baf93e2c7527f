use Rattle.std.proofs.Common.{◌≡◌, drop}
use Rattle.annotation_conf.specs.BuildPlaces.{inserted}
use Rattle.annotation_conf.proofs.build_places.insert_all.Given as goal

abbrev pub invariant-loop-place : goal.invariant-loop-place
invariant-loop-place l = inserted l.set.keys (drop l.place-index l.places) ≡ inserted l.initial.set.keys l.places
