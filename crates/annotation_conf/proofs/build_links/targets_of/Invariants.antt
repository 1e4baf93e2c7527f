use Rattle.std.proofs.Common.{◌≡◌, drop}
use Rattle.annotation_conf.specs.BuildTold.{first_targets}
use Rattle.annotation_conf.proofs.build_links.targets_of.Given as goal

abbrev pub invariant-loop-pair : goal.invariant-loop-pair
invariant-loop-pair l = first_targets (drop l.pair-index l.pairs) ≡ first_targets l.pairs
