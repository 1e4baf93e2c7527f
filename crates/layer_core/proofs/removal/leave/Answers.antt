use Rattle.std.proofs.Common.{◌∙◌, ap}
use Rattle.layer_core.specs.Regrouped.{beside}
use Rattle.layer_core.proofs.BackStepLemmas.{left_stays}
use Rattle.layer_core.proofs.removal.leave.Goals as goal

pub returns-clause-back : goal.returns-clause-back
returns-clause-back c =
    left_stays c.args.id c.args.kind c.args.left.now.items c.push_left.new.left.items c.beside-stays.result c.args.layer.now.classes c.part.new.self.classes c.keeps.ensures.classes.ordered
    (c.beside-stays.ensures ∙ ap (beside c.args.kind.n c.args.id) c.classes.ensures) c.push_left.ensures.items (ap (λ l. l.classes) c.part.ensures.rest)
