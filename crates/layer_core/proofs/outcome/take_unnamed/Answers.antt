use Rattle.std.proofs.Common.{sym, ◌∙◌, ap}
use Rattle.layer_model.specs.Classes.{rank}
use Rattle.layer_model.proofs.ClassGone.{is_held}
use Rattle.layer_core.proofs.GoneLemmas.{gone_absent}
use Rattle.layer_core.proofs.outcome.take_unnamed.Goals as goal

pub returns-then-not-is_held-clause-done : goal.returns-then-not-is_held-clause-done
returns-then-not-is_held-clause-done c =
    gone_absent c.args.layer.now c.take_alone-back.new.layer c.args.id
    (ap (is_held (rank c.args.id)) (sym c.classes.ensures) ∙ sym c.is_held.ensures ∙ c.if-not-is_held.true) c.take_alone-back.ensures.layer
