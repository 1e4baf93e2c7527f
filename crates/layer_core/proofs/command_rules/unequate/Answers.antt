use Rattle.std.proofs.Common.{[], ◌∷◌, ◌∙◌, ap}
use Rattle.layer_rules.specs.MarkRules.{Wanted, first_unwanted}
use Rattle.layer_core.proofs.OwnLemmas.{pairs}
use Rattle.layer_core.proofs.command_rules.unequate.Goals as goal

pub returns : goal.returns
returns c =
    pairs c.undeclared_relation.result c.no_equivalence.result c.missing.result c.unwanted.result c.not_in_class.result
    c.or-named.result c.or-there.result c.or.result c.or-2.result c.or-named.ensures c.or-there.ensures c.or.ensures c.or-2.ensures
    c.undeclared_relation.ensures c.no_equivalence.ensures c.missing.ensures
    (c.unwanted.ensures ∙ ap (λ fits. let wanted : Wanted = record { id = c.args.id; fits = fits } in first_unwanted (wanted ∷ [])) c.is_member.ensures) c.not_in_class.ensures
