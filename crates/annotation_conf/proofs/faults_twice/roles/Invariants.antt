use Rattle.std.proofs.Common.{◌≡◌, take, map}
use Rattle.conf_model.specs.ConfFaults.{names_of}
use Rattle.annotation_conf.specs.FileShows.{seen_pair}
use Rattle.annotation_conf.specs.NamePlaces.{seen_declared}
use Rattle.annotation_conf.proofs.faults_twice.roles.Given as goal

abbrev pub invariant-loop-pair : goal.invariant-loop-pair
invariant-loop-pair l = names_of (map seen_declared l.names.items) ≡ map (λ pair. (seen_pair pair).role) (take l.pair-index l.pairs)
