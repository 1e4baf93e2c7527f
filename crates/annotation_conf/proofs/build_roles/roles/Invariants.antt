use Rattle.std.proofs.Common.{◌≡◌, map, take}
use Rattle.conf_model.specs.ConfOf.{role_of}
use Rattle.annotation_conf.specs.FileShows.{seen_pair}
use Rattle.annotation_conf.proofs.build_roles.roles.Given as goal

abbrev pub invariant-loop-pair : goal.invariant-loop-pair
invariant-loop-pair l = l.roles.items ≡ map (λ pair. role_of l.resolver (seen_pair pair)) (take l.pair-index l.pairs)
