use Rattle.std.proofs.Common.{◌≡◌, true, Some, sym, ◌∙◌, ap, subst}
use Rattle.std.proofs.lemmas.Bool.{false≢true}
use Rattle.std.specs.FinMap as finite
use Rattle.layer_model.proofs.Maps.{inserted, looked_up, missing}
use Rattle.layer_model.proofs.Numbers.{fits_inserted}
use Rattle.layer_model.proofs.numbered.Numbered.replace.Goals as goal

pub unreachable-requires : goal.unreachable-requires
unreachable-requires g c =
    false≢true (sym (missing c.args.number c.self.inside.map.entries (sym c.in-Ok-None.ensures.old ∙ c.in-Ok-None.field-0-is))
    ∙ subst (λ m. finite.contains_key m c.args.number ≡ true) (sym c.self.view_is) c.requires.there)

pub unreachable-requires-in-Err : goal.unreachable-requires-in-Err
unreachable-requires-in-Err g c =
    false≢true (sym (missing c.args.number c.self.inside.map.entries c.in-Err.ensures.absent)
    ∙ subst (λ m. finite.contains_key m c.args.number ≡ true) (sym c.self.view_is) c.requires.there)

pub invariant_of-self : goal.invariant_of-self
invariant_of-self g c =
    fits_inserted _ _ c.args.number c.args.value c.in-Ok-Some.ensures.updates.0 c.self.invariant
    (c.self.invariant c.args.number (subst (λ m. finite.contains_key m c.args.number ≡ true) (sym c.self.view_is) c.requires.there))

pub returns-clause-replaced : goal.returns-clause-replaced
returns-clause-replaced g c =
    rw (← c.self.view_is) (looked_up c.args.number c.self.inside.map.entries ∙ sym c.in-Ok-Some.ensures.old ∙ c.in-Ok-Some.field-0-is ∙ ap Some (sym c.in-Ok-Some.before-is))

pub returns-clause-rest : goal.returns-clause-rest
returns-clause-rest g c = rw (← c.self.view_is) (inserted _ _ c.args.number c.args.value c.in-Ok-Some.ensures.updates.0)
