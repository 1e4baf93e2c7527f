use Rattle.std.proofs.Common.{◌≡◌, drop}
use Rattle.annotation_conf.specs.BuildTold.{first_values}
use Rattle.annotation_conf.proofs.build_links.values_of.Given as goal

abbrev pub invariant-loop-pair : goal.invariant-loop-pair
invariant-loop-pair l = first_values (drop l.pair-index l.pairs) ≡ first_values l.pairs
