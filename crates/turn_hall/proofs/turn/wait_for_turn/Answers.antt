use Rattle.std.proofs.Common.{arith, ap, ◌∙◌, sym, subst, Some}
use Rattle.turn_hall.specs.Views.{View}
use Rattle.turn_hall.specs.Steps.{Takes}
use Rattle.turn_hall.proofs.StepLemmas.{looks}
use Rattle.turn_hall.proofs.turn.wait_for_turn.Goals as goal

pub load-turn-requires : goal.load-turn-requires
load-turn-requires g c =
    let me = c.loop.invariant.me in (
      c.loop.invariant.table ∙ c.requires.table.0,
      (let w = c.requires.table.1 in omega arith),
      looks _ g.K.Keeper.faults _ _ _ c.args.ticket (ap (λ m. m.0.ticket) me ∙ c.requires.waits.0) (ap (λ m. m.0.taken) me ∙ c.requires.waits.1) (ap (λ m. m.1) me ∙ c.requires.waits.2),
    )

pub returns-then-turn-ticket-clause-takes : goal.returns-then-turn-ticket-clause-takes
returns-then-turn-ticket-clause-takes g c =
    let me = c.loop.invariant.me in
    subst (λ (v : View). Takes g.K.Keeper.faults v c.load-turn.new.seat.me) (ap (λ m. m.0) me)
    (c.load-turn.ensures.2.0 (ap (λ m. m.0.ticket) me ∙ (c.requires.waits.0 ∙ ap Some (sym c.if-turn-ticket.true))))
