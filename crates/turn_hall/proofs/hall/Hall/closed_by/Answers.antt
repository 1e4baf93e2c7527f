use Rattle.std.proofs.Common.{◌+◌, ap, ◌∙◌, sym, ◌≡◌}
use Rattle.turn_hall.specs.Views.{View}
use Rattle.turn_hall.specs.Passes.{view_of}
use Rattle.turn_hall.proofs.PassLemmas.{closes}
use Rattle.turn_hall.proofs.TellLemmas.{open_none, shut_book}
use Rattle.turn_hall.proofs.hall.Hall.closed_by.Goals as goal

pub unreachable-requires : goal.unreachable-requires
unreachable-requires g c =
    let known : c.into_seat.result.me.0 ≡ c.args.pass.knows = sym (ap view_of c.into_seat.ensures.2) ∙ ap (λ p. p.knows) c.pass.view_is in
    let idle : c.into_seat.result.me.0 ≡ view_of c.pass.inside.badge.views = sym (ap view_of c.into_seat.ensures.2) in
    open_none _ _ _ _ (closes _ _ _ _ _ c.close_with-closed.ensures.values.2 (ap (λ (v : View). v.first) known ∙ c.requires.first) (ap (λ (v : View). v.ticket) idle ∙ c.pass.invariant.idle.0)
    (ap (λ (v : View). v.stands_for) known ∙ (c.requires.all ∙ ap (λ (v : View). v.splits + 1) (sym known)))) c.take-slot.ensures.value c.in-None.is

pub returns : goal.returns
returns g c =
    let known : c.into_seat.result.me.0 ≡ c.args.pass.knows = sym (ap view_of c.into_seat.ensures.2) ∙ ap (λ p. p.knows) c.pass.view_is in
    let idle : c.into_seat.result.me.0 ≡ view_of c.pass.inside.badge.views = sym (ap view_of c.into_seat.ensures.2) in
    shut_book _ _ _ _ _ _ _ (ap (λ h. h.opening) c.self.view_is) known (closes _ _ _ _ _ c.close_with-closed.ensures.values.2 (ap (λ (v : View). v.first) known ∙ c.requires.first) (ap (λ (v : View). v.ticket) idle ∙ c.pass.invariant.idle.0)
    (ap (λ (v : View). v.stands_for) known ∙ (c.requires.all ∙ ap (λ (v : View). v.splits + 1) (sym known)))) c.take-slot.ensures.value c.in-Some.is
