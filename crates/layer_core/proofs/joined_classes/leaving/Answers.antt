use Rattle.std.proofs.Common.{◌∙◌, ap, filter, not}
use Rattle.layer_model.specs.Classes.{ascending, has_rank, rank}
use Rattle.layer_core.proofs.BackStepLemmas.{out_has}
use Rattle.layer_core.proofs.joined_classes.leaving.Goals as goal

pub returns : goal.returns
returns c = λ q.
    out_has q c.args.members.now c.in_ok-all.all.items c.in_ok-out.out.items c.args.again.now c.args.kept.now c.in_ok-all.ensures
    (c.in_ok-out.ensures ∙ ap (filter (λ id. not (has_rank (rank id) (ascending c.args.kept.now.members)))) c.deref.ensures.value)
