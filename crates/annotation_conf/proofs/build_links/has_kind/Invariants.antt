use Rattle.std.proofs.Common.{◌≡◌, take, false}
use Rattle.std.specs.List.{list_any}
use Rattle.annotation_conf.specs.BuildTold.{has_kind_told}
use Rattle.annotation_conf.proofs.build_links.has_kind.Given as goal

abbrev pub invariant-loop-pair : goal.invariant-loop-pair
invariant-loop-pair l = list_any (has_kind_told l.kind) (take l.pair-index l.keyed) ≡ false
