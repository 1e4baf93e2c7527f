-- What a visitor has seen and its own places go on, and so do those of a pass.
use Rattle.std.proofs.Common.{◌≡◌, List, [], ◌++◌, refl, sym, ◌∙◌, ap, subst, append_assoc}
use Rattle.std.proofs.lemmas.List.{append-nil}
use mathlib.Core.List.{IsPrefix}
use Rattle.project_machine.specs.Asking.{Visiting}
use Rattle.turn_hall.specs.Passes.{PassValue, IsSamePass, badge_of, visiting_of}
use Rattle.serve_command.specs.Doors.Workers.{Continues, Served}

prefix_self : {X : Type 0} (xs : List X) → IsPrefix xs xs
prefix_self xs = ([], append-nil xs)

prefix_through : {X : Type 0} (xs ys zs : List X) → IsPrefix xs ys → IsPrefix ys zs → IsPrefix xs zs
prefix_through {X} xs ys zs (more, e) (others, f) = (more ++ others, sym (append_assoc xs more others) ∙ (ap (λ (l : List X). l ++ others) e ∙ f))

-- at first it is as it was
pub continues_self : (v : Visiting) → Continues v v
continues_self v = record { badge = refl; seen = prefix_self v.seen; mine = prefix_self v.mine }

-- and from then on it goes on
pub continues_through : (u v w : Visiting) → Continues u v → Continues v w → Continues u w
continues_through u v w first next = record {
  badge = next.badge ∙ first.badge;
  seen = prefix_through u.seen v.seen w.seen first.seen next.seen;
  mine = prefix_through u.mine v.mine w.mine first.mine next.mine;
}

-- a pass was lent to a visitor, which went on with what the pass knew
pub served_pass : ((old new : PassValue) → badge_of new ≡ badge_of old → IsSamePass old new) → (old new : PassValue) (lent back : Visiting)
    → lent ≡ visiting_of old → visiting_of new ≡ back → Continues lent back → Served old new
served_pass same old new lent back is_old is_new on =
    let here : Continues (visiting_of old) back = subst (λ (v : Visiting). Continues v back) is_old on in
    let there : Continues (visiting_of old) (visiting_of new) = subst (λ (v : Visiting). Continues (visiting_of old) v) (sym is_new) here in
    record { same = same old new there.badge; seen = there.seen; mine = there.mine }
