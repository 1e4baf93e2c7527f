use Rattle.std.proofs.Common.{[], ◌∷◌, ◌++◌, ◌∙◌, ap}
use Rattle.layer_core.proofs.BackStepLemmas.{one_leads}
use Rattle.layer_core.proofs.outcome.take_one.Goals as goal

pub returns-clause-back : goal.returns-clause-back
returns-clause-back c =
    one_leads c.from_vec.result c.in_ok-taken.taken c.take_away.new.layer c.args.layer.now
    (c.from_vec.ensures ∙ c.push_reserved.ensures.items ∙ ap (λ xs. xs ++ c.in_ok-taken.taken ∷ []) c.in_ok-all.ensures.items) c.in_ok-taken.ensures.taken
