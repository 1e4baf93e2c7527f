use Rattle.std.proofs.Common.{None, sym, subst}
use Rattle.layer_core.specs.Indexes.{IsIndex}
use Rattle.layer_core.specs.Regrouped.{all_joined, all_parted}
use Rattle.layer_core.proofs.BackStepLemmas.{index_with}
use Rattle.layer_core.proofs.ways_back.regroup.Goals as goal

pub returns-then-is_empty-clause-index : goal.returns-then-is_empty-clause-index
returns-then-is_empty-clause-index c = λ index is.
    subst (λ l. IsIndex None l index) (sym c.part_each.ensures) (index_with c.args.layer.now (all_parted c.args.kind.n c.args.out.now c.args.layer.now.classes) None index is)

pub returns-clause-index : goal.returns-clause-index
returns-clause-index c = λ index is.
    subst (λ l. IsIndex None l index) (sym c.in_ok-made.ensures)
    (index_with c.args.layer.now (all_joined c.args.again.now (all_parted c.args.kind.n c.args.out.now c.args.layer.now.classes)) None index is)
