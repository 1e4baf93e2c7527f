use Rattle.std.proofs.Common.{◌∙◌, arith}
use Rattle.layer_model.proofs.Numbers.{few, counted}
use Rattle.layer_model.proofs.numbered.Numbered.count.Goals as goal

pub overflow_cast-result : goal.overflow_cast-result
overflow_cast-result g c = omega (arith, few c.self.inside.map.entries c.len.ensures.ordered c.self.invariant, c.len.ensures.len)

pub returns : goal.returns
returns g c = rw (← c.self.view_is) (c.len.ensures.len ∙ counted c.self.inside.map.entries c.len.ensures.ordered)
