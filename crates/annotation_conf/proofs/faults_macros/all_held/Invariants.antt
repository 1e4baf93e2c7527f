use Rattle.std.proofs.Common.{◌≡◌, map, take, length}
use Rattle.conf_model.specs.ConfNames.{all_held}
use Rattle.annotation_conf.specs.FileShows.{seen_alternative}
use Rattle.annotation_conf.specs.KnownMacros.{kinds_of}
use Rattle.annotation_conf.proofs.faults_macros.all_held.Given as goal

abbrev pub invariant-loop-alternative : goal.invariant-loop-alternative
invariant-loop-alternative l =
    l.all ≡ kinds_of l.known (all_held (take (length l.kinds) l.known.macros) (map seen_alternative (take l.alternative-index l.alternatives)))
