use Rattle.std.proofs.Common.{◌≡◌, map, take}
use Rattle.conf_model.specs.ConfFaults.{word_of}
use Rattle.annotation_conf.specs.FileShows.{seen_alternative}
use Rattle.annotation_conf.proofs.build_links.names_of.Given as goal

abbrev pub invariant-loop-one : goal.invariant-loop-one
invariant-loop-one l = l.names.items ≡ map (λ one. word_of (seen_alternative one)) (take l.one-index l.alternatives)
