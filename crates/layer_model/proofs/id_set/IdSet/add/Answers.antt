use Rattle.layer_model.proofs.IdSets.{placed, own_placed}
use Rattle.layer_model.proofs.id_set.IdSet.add.Goals as goal

pub invariant_of-self-2 : goal.invariant_of-self-2
invariant_of-self-2 c = rw (c.in_ok-insert.ensures.entries, c.rank.ensures) (own_placed c.self.inside.ids.entries c.args.id c.self.invariant)

pub returns : goal.returns
returns c = rw (← c.self.view_is, c.in_ok-insert.ensures.entries, c.rank.ensures) (placed c.self.inside.ids.entries c.args.id c.self.invariant)
