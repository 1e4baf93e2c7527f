use Rattle.curator_decisions.proofs.BesideLemmas.{beside_is}
use Rattle.curator_decisions.proofs.beside.stands_beside.Goals as goal

pub returns-then-clashes_with_none : goal.returns-then-clashes_with_none
returns-then-clashes_with_none c few =
    beside_is c.args.snapshot.now c.args.comparison.now c.requires c.args.conf.now c.args.decisions.now c.args.entry (c.clashes_with_none.ensures c.if-clashes_with_none.true) (c.has_room.ensures few)
