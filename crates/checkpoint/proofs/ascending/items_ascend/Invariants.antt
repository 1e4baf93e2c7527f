use Rattle.std.proofs.Common.{◌<◌}
use Rattle.curator_decisions.specs.Decisions.{item_rank}
use Rattle.checkpoint.proofs.OrderLemmas.{AscendSo}
use Rattle.checkpoint.proofs.ascending.items_ascend.Given as goal

abbrev pub invariant-loop-place : goal.invariant-loop-place
invariant-loop-place l = AscendSo (λ x y. item_rank x.0 < item_rank y.0) l.place l.pairs
