use Rattle.std.proofs.Common.{sym, ◌∙◌, ap, subst}
use Rattle.layer_core.specs.Backs.{IsWayBack}
use Rattle.layer_core.specs.Regrouped.{beside}
use Rattle.layer_core.proofs.outcome.part_told.Goals as goal

pub returns-clause-back : goal.returns-clause-back
returns-clause-back c =
    subst (λ l. IsWayBack c.member_back.result l c.args.layer.now) (sym c.part.ensures.rest)
    (c.member_back.ensures c.args.layer.now c.keeps.ensures.classes (c.beside-stays.ensures ∙ ap (beside c.args.kind.n c.args.id) c.classes.ensures))
