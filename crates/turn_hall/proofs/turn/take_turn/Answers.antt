use Rattle.std.proofs.Common.{arith, ap, ◌∙◌}
use Rattle.turn_hall.proofs.StepLemmas.{draws}
use Rattle.turn_hall.proofs.TurnLemmas.{gives_on, turned}
use Rattle.turn_hall.proofs.turn.take_turn.Goals as goal

pub fetch_add-ticket-requires : goal.fetch_add-ticket-requires
fetch_add-ticket-requires g c = (c.requires.table.0, (let w = c.requires.table.1 in omega arith), draws _ _ _ _ c.requires.idle.0.0 c.requires.room.0 c.requires.room.1)

pub fetch_add-requires : goal.fetch_add-requires
fetch_add-requires g c = (
  c.ask_held-reply.ensures.table ∙ (c.wait_for_turn.ensures.table ∙ (c.fetch_add-ticket.ensures.0 ∙ c.requires.table.0)),
  (let w = c.requires.table.1 in omega arith),
  gives_on g.K.Keeper.faults g.K.Keeper.faultless _ _ _ _ c.wait_for_turn.new.seat.me _ _ _ _ _ _ _ c.wait_for_turn.ensures.takes c.ask_held-reply.ensures.asked c.ask_held-reply.ensures.view,
)

pub returns-clause-turn : goal.returns-clause-turn
returns-clause-turn g c =
    (turned g.K.Keeper.faults g.K.Keeper.faultless c.args.seat.now.me.0 c.fetch_add-ticket.result c.fetch_add-ticket.new.seat.me c.wait_for_turn.new.seat.me c.ask_held-reply.new.seat.me c.fetch_add.new.seat.me _ _ _ _ _ _ c.requires.room.0 (ap (λ m. m.0) c.fetch_add-ticket.ensures.2) c.wait_for_turn.ensures.takes c.ask_held-reply.ensures.asked c.ask_held-reply.ensures.view c.fetch_add.ensures.2).turn

pub returns-clause-empty : goal.returns-clause-empty
returns-clause-empty g c =
    (turned g.K.Keeper.faults g.K.Keeper.faultless c.args.seat.now.me.0 c.fetch_add-ticket.result c.fetch_add-ticket.new.seat.me c.wait_for_turn.new.seat.me c.ask_held-reply.new.seat.me c.fetch_add.new.seat.me _ _ _ _ _ _ c.requires.room.0 (ap (λ m. m.0) c.fetch_add-ticket.ensures.2) c.wait_for_turn.ensures.takes c.ask_held-reply.ensures.asked c.ask_held-reply.ensures.view c.fetch_add.ensures.2).empty
