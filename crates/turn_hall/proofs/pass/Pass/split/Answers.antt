use Rattle.std.proofs.Common.{rules, arith, ap, ◌∙◌, sym, ◌≡◌, ◌<◌, subst}
use Rattle.turn_hall.specs.Views.{View}
use Rattle.turn_hall.specs.Passes.{view_of}
use Rattle.turn_hall.proofs.PassLemmas.{cuts}
use Rattle.turn_hall.proofs.pass.Pass.split.Goals as goal

pub split_seat-other-requires : goal.split_seat-other-requires
split_seat-other-requires g c =
    let mine : c.into_seat-seat.result.me.0 ≡ view_of c.self.inside.badge.views = sym (ap view_of c.into_seat-seat.ensures.2) ∙ ap (λ b. view_of b.views) c.replace-badge.ensures.value in
    let known : c.into_seat-seat.result.me.0 ≡ c.args.self.now.knows = mine ∙ ap (λ p. p.knows) c.self.view_is in
    let some_part : 0 < (view_of c.self.inside.badge.views).stands_for = (let a = c.self.invariant.stands_is in let b = c.self.invariant.some_part in omega arith) in
    let w = c.hall.invariant.0 in (
      search rules,
      omega arith,
      cuts _ _ _ (ap (λ (v : View). v.first) known ∙ c.requires.first) (subst (λ (v : View). v.splits < 255) (sym known) c.requires.few) (subst (λ (v : View). 0 < v.stands_for) (sym mine) some_part),
    )
