-- What a pass learns, and what it tells as a visitor.
use Rattle.std.proofs.Common.{◌≡◌, ℕ, zero, suc, ◌+◌, List, [], ◌∷◌, Option, Some, None, Bool, true, false, refl, sym, ap, ◌∙◌, subst, arith}
use mathlib.Core.List.{IsPrefix}
use mathlib.Core.Option as m
use mathlib.Core.Option.{some-injective}
use lib.ListN.{get_elem?}
use Rattle.atomic_table.specs.Seated.{TableId}
use Rattle.project_machine.specs.Requests.{Asked, Answered, Happened}
use Rattle.project_machine.specs.History.{begin, last}
use Rattle.project_machine.specs.Legal.{HasRoom}
use Rattle.project_machine.specs.Asking.{IsVisiting, Visited}
use Rattle.project_book.specs.Keeping.{BookValue}
use Rattle.turn_hall.specs.Views.{View}
use Rattle.turn_hall.specs.Counts.{one_if, times, ArePlacesOf}
use Rattle.turn_hall.specs.Steps.{both, heard, Learns}
use Rattle.turn_hall.specs.Turns.{IsTurn}
use Rattle.turn_hall.specs.Passes.{PassValue, view_of, hall_number, badge_of, visiting_of, IsClosed, IsSamePass, Joined, Learnt}
use Rattle.turn_hall.proofs.PrefixLemmas.{both_longer}
use Rattle.turn_hall.proofs.PlaceLemmas.{times_merged, ascend_once, increasing, lie_within}
use Rattle.turn_hall.proofs.PassLemmas.{IsLeft}
use Rattle.turn_hall.proofs.StepLemmas.{M}

-- ---- a pass that took in another

joined : {K : Type 0} (u v : View) (m n : M K) → m.0 ≡ both u v → Learns m n → Joined u v n.0
joined u v m n is l =
    let back : n.0 ≡ m.0 = ap (λ x. x.0) l.same in
    let same : n.0 ≡ both u v = back ∙ is in
    let each = both_longer u.seen v.seen (subst (λ (w : View). IsPrefix w.shorter w.seen) is l.shorter) in
    let places : ArePlacesOf n.0.seen n.0.mine = subst (λ (w : View). ArePlacesOf w.seen w.mine) (sym back) l.mine in
    let mine : (p : ℕ) → times p n.0.mine ≡ times p u.mine + times p v.mine = λ p. ap (λ (w : View). times p w.mine) same ∙ times_merged p u.mine v.mine in record {
      is = same;
      first_seen = subst (λ (w : View). IsPrefix u.seen w.seen) (sym same) each.0;
      second_seen = subst (λ (w : View). IsPrefix v.seen w.seen) (sym same) each.1;
      mine = mine;
      once = λ p. let o = ascend_once p (begin n.0.seen) (last n.0.seen) n.0.mine places in let e = mine p in omega arith;
      places = places;
    }

pub joined_as : {K : Type 0} (u v u' v' : View) (vs : List View) (m n : M K) → u ≡ u' → v ≡ v' → m.0 ≡ both u v → Learns m n → vs ≡ n.0 ∷ [] → Joined u' v' (view_of vs)
joined_as u v u' v' vs m n e f is l at = subst (Joined u' v') (sym (ap view_of at)) (joined u' v' m n (is ∙ (λ i. both (e i) (f i))) l)

pub learnt_as : {K : Type 0} (u v u' v' : View) (vs : List View) (m n : M K) → u ≡ u' → v ≡ v' → m.0 ≡ heard u v → Learns m n → vs ≡ n.0 ∷ [] → Learnt u' v' (view_of vs)
learnt_as u v u' v' vs m n e f is l at =
    let is' : m.0 ≡ heard u' v' = is ∙ (λ i. heard (e i) (f i)) in
    let same : view_of vs ≡ heard u' v' = ap view_of at ∙ (ap (λ x. x.0) l.same ∙ is') in
    let each = both_longer u'.seen v'.seen (subst (λ (w : View). IsPrefix w.shorter w.seen) is' l.shorter) in record {
      is = same;
      first_seen = subst (λ (w : View). IsPrefix u'.seen w.seen) (sym same) each.0;
      second_seen = subst (λ (w : View). IsPrefix v'.seen w.seen) (sym same) each.1;
    }

-- ---- a pass as a visitor

pub visiting_pass : (p : PassValue) → HasRoom p.knows.seen → ArePlacesOf p.knows.seen p.knows.mine → IsVisiting (visiting_of p)
visiting_pass p short mine = record {
  short = short;
  ascending = increasing (begin p.knows.seen) (last p.knows.seen) p.knows.mine mine;
  within = lie_within p.knows.seen (begin p.knows.seen) p.knows.mine (omega arith) mine;
}

pub visited_pass : (hall hall' : TableId) (v v' w w' : View) (caller : List ℕ) (asked : Asked) (answer : Answered) (place steps_old steps_new : ℕ) → hall' ≡ hall → v ≡ v' → w ≡ w' → IsTurn v w caller asked answer place steps_old steps_new → Visited (visiting_of (record { hall = hall; knows = v' })) (visiting_of (record { hall = hall'; knows = w' })) caller asked answer
visited_pass hall hall' v v' w w' caller asked answer place steps_old steps_new same is_v is_w t =
    subst (λ (z : View). Visited (visiting_of (record { hall = hall; knows = z })) (visiting_of (record { hall = hall'; knows = w' })) caller asked answer) is_v
    (subst (λ (z : View). Visited (visiting_of (record { hall = hall; knows = v })) (visiting_of (record { hall = hall'; knows = z })) caller asked answer) is_w
    record {
      replied = record { others = t.others; stepped = t.step; mine_is = t.mine };
      room = t.room;
      badge = λ i. one_if (t.first i) ∷ t.splits i ∷ t.stands i ∷ hall_number (same i);
      later = t.later;
      cause = t.cause;
      stays_spent = t.stays_spent;
      legal = λ _. t.legal;
      short = λ _. t.short;
    })

one_if_same : (a b : Bool) → one_if a ≡ one_if b → a ≡ b
one_if_same true true e = refl
one_if_same true false e = absurd (omega arith)
one_if_same false true e = absurd (omega arith)
one_if_same false false e = refl

abbrev at : ℕ → List ℕ → ℕ
at n [] = 0
at zero (x ∷ xs) = x
at (suc n) (x ∷ xs) = at n xs

abbrev behind : ℕ → List ℕ → List ℕ
behind zero xs = xs
behind (suc n) [] = []
behind (suc n) (x ∷ xs) = behind n xs

-- passes that tell the same numbers are of the same hall, and tell the same three values
pub same_pass : (p q : PassValue) → badge_of q ≡ badge_of p → IsSamePass p q
same_pass p q e = record {
  hall = λ i. record { words = at 3 (e i); slots = at 4 (e i); views_name = at 5 (e i); atom = at 6 (e i); block = at 7 (e i); offset = at 8 (e i); slot_names = behind 9 (e i) };
  first = one_if_same q.knows.first p.knows.first (ap (at 0) e);
  splits = ap (at 1) e;
  stands = ap (at 2) e;
}

-- ---- a hall that was closed

module _ {K : Type 0} where
  shut : (first_log : List Happened) (v : View) (xs : List (Option (BookValue K))) (o : Option (BookValue K)) → IsLeft first_log v xs → get_elem? xs 0 ≡ m.some o → IsLeft first_log v (o ∷ [])
  shut first_log v xs o c at = subst (IsLeft first_log v) (c.slot ∙ ap (λ z. z ∷ []) (some-injective (Some c.book) o (sym (ap (λ l. get_elem? l 0) c.slot) ∙ at))) c

  abbrev nothing : List (Option (BookValue K))
  nothing = None ∷ []

  none_left : (b : BookValue K) → nothing ≡ Some b ∷ [] → ⊥
  none_left b e = cc

  pub open_none : (first_log : List Happened) (v : View) (xs : List (Option (BookValue K))) (o : Option (BookValue K)) → IsLeft first_log v xs → get_elem? xs 0 ≡ m.some o → o ≡ None → ⊥
  open_none first_log v xs o c at none = let d = subst (λ (z : Option (BookValue K)). IsLeft first_log v (z ∷ [])) none (shut first_log v xs o c at) in none_left d.book d.slot

  abbrev one : BookValue K → List (Option (BookValue K))
  one b = Some b ∷ []

  only : (b d : BookValue K) → one b ≡ one d → d ≡ b
  only b d e = cc

  pub shut_book : (l first_log : List Happened) (u v : View) (xs : List (Option (BookValue K))) (o : Option (BookValue K)) (b : BookValue K) → l ≡ first_log → u ≡ v → IsLeft l u xs → get_elem? xs 0 ≡ m.some o → o ≡ Some b → IsClosed first_log v b
  shut_book l first_log u v xs o b same known c at is =
      let d = subst (λ (log : List Happened). IsLeft log v (one b)) same (subst (λ (w : View). IsLeft l w (one b)) known (subst (λ (z : Option (BookValue K)). IsLeft l u (z ∷ [])) is (shut l u xs o c at))) in
      subst (IsClosed first_log v) (only b d.book d.slot) d.closed
