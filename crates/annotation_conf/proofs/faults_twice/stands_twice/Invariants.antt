use Rattle.std.proofs.Common.{◌≡◌, take, map, false}
use Rattle.conf_model.specs.ConfFaults.{names_of, stands_twice}
use Rattle.annotation_conf.specs.NamePlaces.{seen_declared, FindsPlaces}
use Rattle.annotation_conf.proofs.faults_twice.stands_twice.Given as goal

abbrev pub invariant-loop-place : goal.invariant-loop-place
invariant-loop-place l = record {
  finds : FindsPlaces (map seen_declared (take l.place l.names)) l.places;
  once : stands_twice (names_of (map seen_declared (take l.place l.names))) ≡ false;
}
