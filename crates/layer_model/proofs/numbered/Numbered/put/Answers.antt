use Rattle.layer_model.proofs.Maps.{inserted}
use Rattle.layer_model.proofs.Numbers.{fits_inserted}
use Rattle.layer_model.proofs.numbered.Numbered.put.Goals as goal

pub invariant_of-self-2 : goal.invariant_of-self-2
invariant_of-self-2 g c = fits_inserted _ _ c.args.number c.args.value c.in_ok-insert.ensures.updates.0 c.self.invariant c.requires

pub returns-clause-ok : goal.returns-clause-ok
returns-clause-ok g c = rw (← c.self.view_is) (inserted _ _ c.args.number c.args.value c.in_ok-insert.ensures.updates.0)
