use Rattle.std.proofs.Common.{ap, ◌∙◌, sym, ◌≡◌, refl}
use Rattle.turn_hall.specs.Passes.{view_of}
use Rattle.turn_hall.proofs.TurnLemmas.{few_turn}
use Rattle.turn_hall.proofs.pass.Pass.ask.Goals as goal

pub returns-clause-few : goal.returns-clause-few
returns-clause-few g c =
    let was : c.into_seat-seat.result.me.0 ≡ c.args.self.now.knows = sym (ap view_of c.into_seat-seat.ensures.2) ∙ (ap (λ b. view_of b.views) c.replace.ensures.value ∙ ap (λ p. p.knows) c.self.view_is) in
    few_turn c.args.self.now (record { hall = c.args.self.now.hall; knows = _ }) _ _ _ _ _ _ _ _ was (sym (ap view_of c.into_badge.ensures.2)) c.take_turn-reply.ensures.turn
