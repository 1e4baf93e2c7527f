use Rattle.std.proofs.Common.{sym, ◌∙◌}
use Rattle.layer_model.proofs.Maps.{looked_up}
use Rattle.layer_model.proofs.numbered.Numbered.get.Goals as goal

pub returns : goal.returns
returns g c = rw (← c.self.view_is) (c.get.ensures.value ∙ sym (looked_up c.args.number c.self.inside.map.entries))
