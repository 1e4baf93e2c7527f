use Rattle.std.proofs.Common.{[], ◌∷◌, ◌++◌, ◌∙◌, ap}
use Rattle.layer_core.proofs.BackStepLemmas.{taken_more}
use Rattle.layer_core.proofs.removal.take_next.Goals as goal

pub returns-clause-taken : goal.returns-clause-taken
returns-clause-taken c = λ earlier are.
    taken_more c.args.all.now.items c.push_reserved.new.self.items c.in_ok-taken.taken c.take_held.new.layer c.args.layer.now earlier are c.in_ok-taken.ensures.taken
    (c.push_reserved.ensures.items ∙ ap (λ xs. xs ++ c.in_ok-taken.taken ∷ []) c.try_reserve.ensures.items)
