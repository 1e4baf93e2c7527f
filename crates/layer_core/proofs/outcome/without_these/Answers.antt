use Rattle.std.proofs.Common.{refl, subst}
use Rattle.layer_core.specs.Backs.{AreTaken}
use Rattle.layer_core.proofs.BackStepLemmas.{marks_lead}
use Rattle.layer_core.proofs.outcome.without_these.Goals as goal

pub returns-clause-back : goal.returns-clause-back
returns-clause-back c =
    marks_lead c.in_ok-taken.taken c.in_ok-taken.taken c.take_all_away.new.layer c.args.layer.now
    (subst (AreTaken c.in_ok-taken.taken c.take_all_away.new.layer) c.in_ok-made.ensures c.in_ok-taken.ensures.taken) refl
