use Rattle.std.proofs.Common.{◌∙◌}
use Rattle.layer_model.proofs.IdSets.{found}
use Rattle.layer_model.proofs.id_set.IdSet.has.Goals as goal

pub returns : goal.returns
returns c = rw (← c.self.view_is, ← c.rank.ensures) (c.contains_key.ensures ∙ found c.self.inside.ids.entries c.rank.result c.self.invariant)
