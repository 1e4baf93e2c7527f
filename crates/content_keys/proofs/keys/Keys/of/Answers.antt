use Rattle.content_keys.proofs.BuiltLemmas.{coherent_built}
use Rattle.content_keys.proofs.SearchLemmas.{placed_rise}
use Rattle.content_keys.specs.Tables.{values}
use Rattle.content_keys.proofs.keys.Keys.of.Goals as goal

pub placed_in-requires : goal.placed_in-requires
placed_in-requires c = coherent_built c.args.layer.now c.requires

pub invariant_of-result : goal.invariant_of-result
invariant_of-result c = (c.in_ok-placed.ensures.within, placed_rise c.args.layer.now (values c.placed_in.new.table) c.in_ok-placed.placed.items c.in_ok-placed.ensures.contents)
