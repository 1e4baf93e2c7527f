use Rattle.std.proofs.Common.{sym, ◌∙◌}
use Rattle.layer_model.proofs.Maps.{looked_up, removed}
use Rattle.layer_model.proofs.Numbers.{fits_removed}
use Rattle.layer_model.proofs.numbered.Numbered.take.Goals as goal

pub invariant_of-self : goal.invariant_of-self
invariant_of-self g c = fits_removed _ _ c.args.number c.remove.ensures.updates.0 c.self.invariant

pub returns-clause-taken : goal.returns-clause-taken
returns-clause-taken g c = rw (← c.self.view_is) (c.remove.ensures.value ∙ sym (looked_up c.args.number c.self.inside.map.entries))

pub returns-clause-rest : goal.returns-clause-rest
returns-clause-rest g c = rw (← c.self.view_is) (removed _ _ c.args.number c.remove.ensures.updates.0)
