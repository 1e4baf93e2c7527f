use Rattle.std.proofs.Common.{Some}
use Rattle.turn_hall.proofs.TurnLemmas.{head_rest, lent}
use Rattle.turn_hall.proofs.turn.ask_held.Goals as goal

pub slot_mut-slot-requires : goal.slot_mut-slot-requires
slot_mut-slot-requires g c = (c.requires.table, (Some c.requires.held.book, head_rest _ _ c.requires.held.is))

pub returns-clause-asked : goal.returns-clause-asked
returns-clause-asked g c = lent g.K.Keeper.faults g.K.Keeper.faultless c.args.seat.now.me.1 _ _ _ _ _ _ _ _ c.slot_mut-slot.ensures.value c.requires.held c.ask_in.ensures
