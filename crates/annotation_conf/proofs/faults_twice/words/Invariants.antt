use Rattle.std.proofs.Common.{◌≡◌, take, map}
use Rattle.conf_model.specs.ConfFaults.{names_of, word_of}
use Rattle.annotation_conf.specs.FileShows.{seen_alternative}
use Rattle.annotation_conf.specs.NamePlaces.{seen_declared}
use Rattle.annotation_conf.proofs.faults_twice.words.Given as goal

abbrev pub invariant-loop-one : goal.invariant-loop-one
invariant-loop-one l = names_of (map seen_declared l.names.items) ≡ map (λ one. word_of (seen_alternative one)) (take l.one-index l.alternatives)
