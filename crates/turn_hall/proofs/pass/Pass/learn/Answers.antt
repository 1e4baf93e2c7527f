use Rattle.std.proofs.Common.{rules, arith, ap, ◌∙◌, sym, ◌≡◌, ◌<◌, subst}
use Rattle.turn_hall.specs.Views.{View}
use Rattle.turn_hall.specs.Passes.{view_of}
use Rattle.turn_hall.proofs.PassLemmas.{hears}
use Rattle.turn_hall.proofs.StepLemmas.{learns}
use Rattle.turn_hall.proofs.TellLemmas.{learnt_as}
use Rattle.turn_hall.proofs.pass.Pass.learn.Goals as goal

pub join_seat-requires : goal.join_seat-requires
join_seat-requires g c =
    let mine : c.into_seat-seat.result.me.0 ≡ view_of c.self.inside.badge.views = sym (ap view_of c.into_seat-seat.ensures.2) ∙ ap (λ b. view_of b.views) c.replace.ensures.value in
    let theirs : c.into_seat.result.me.0 ≡ view_of c.note.inside.badge.views = sym (ap view_of c.into_seat.ensures.2) in
    let some_part : 0 < (view_of c.self.inside.badge.views).stands_for = (let a = c.self.invariant.stands_is in let b = c.self.invariant.some_part in omega arith) in
    let w = c.hall.invariant.0 in (
      search rules,
      search rules,
      search rules,
      omega arith,
      hears _ _ _ _ _ (ap (λ (v : View). v.ticket) theirs ∙ c.note.invariant.idle.0) (ap (λ (v : View). v.first) theirs ∙ c.note.invariant.second) (ap (λ (v : View). v.stands_for) theirs ∙ c.note.invariant.no_part) (subst (λ (v : View). 0 < v.stands_for) (sym mine) some_part),
    )

pub load-self-inside-requires : goal.load-self-inside-requires
load-self-inside-requires g c = let w = c.hall.invariant.0 in (search rules, omega arith, learns _ _ _ _)

pub returns-clause-knows : goal.returns-clause-knows
returns-clause-knows g c =
    let mine : c.into_seat-seat.result.me.0 ≡ c.args.self.now.knows = sym (ap view_of c.into_seat-seat.ensures.2) ∙ (ap (λ b. view_of b.views) c.replace.ensures.value ∙ ap (λ p. p.knows) c.self.view_is) in
    let theirs : c.into_seat.result.me.0 ≡ c.args.note.knows = sym (ap view_of c.into_seat.ensures.2) ∙ ap (λ p. p.knows) c.note.view_is in
    learnt_as _ _ _ _ _ c.join_seat.new.seat.me c.load-self-inside.new.seat.me mine theirs (ap (λ m. m.0) c.join_seat.ensures.2) c.load-self-inside.ensures.2 c.into_badge.ensures.2
