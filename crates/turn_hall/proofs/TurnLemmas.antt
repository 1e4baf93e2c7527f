-- One turn, put together of its steps.
use Rattle.std.proofs.Common.{◌≡◌, ◌||◌, ℕ, ◌+◌, ◌%◌, ◌^◌, ◌<◌, ◌≤◌, nat_le, true, List, [], ◌∷◌, ◌++◌, Option, refl, sym, ap, ◌∙◌, subst, inl, inr, arith, Bool, false}
use Rattle.std.proofs.lemmas.Bool.{le-leb}
use mathlib.Core.Logic.{dite}
use mathlib.Core.List.{IsPrefix}
use native.Mathlib.Decide.{dec_le}
use Rattle.atomic_table.specs.Table.{rest, Allows}
use Rattle.project_machine.specs.Requests.{Asked, Answered, Happened}
use Rattle.project_machine.specs.Legal.{IsLegal}
use Rattle.project_machine.specs.Asking.{IsStep, gained}
use Rattle.project_machine.proofs.HistoryLemmas.{legal_some}
use Rattle.project_book.specs.Keeping.{BookValue}
use Rattle.project_book.specs.Visits.{own_steps, steps_behind}
use Rattle.project_book.proofs.VisitLemmas.{few_own, moves_by}
use Rattle.turn_hall.specs.Passes.{PassValue, visiting_of}
use Rattle.turn_hall.specs.Views.{View}
use Rattle.turn_hall.specs.Rule.{Holds}
use Rattle.turn_hall.specs.Steps.{drawing, taking, giving, Takes, Gives}
use Rattle.turn_hall.specs.Turns.{AsksHeld, AsksIn, HasBook, IsAskedBook, IsTurn}
use Rattle.turn_hall.proofs.GrowthLemmas.{IsGrown, grown_by}
use Rattle.turn_hall.proofs.StepLemmas.{M, gives_back, giving_places, book_same, book_in}

pub head_rest : {X : Type 0} (c : List (ℕ × X)) (x : X) → c ≡ (0, x) ∷ [] → c ≡ (0, x) ∷ rest c
head_rest c x e = e ∙ ap (λ r. (0, x) ∷ r) (sym (ap rest e))

or_right : (a b : Bool) → b ≡ true → (a || b) ≡ true
or_right true b e = refl
or_right false b e = e

module _ {K : Type 0} (faults : K → ℕ) (faultless : K → Type 0) where
  pub lent : (held : List (ℕ × Option (BookValue K))) (x y : Option (BookValue K)) (caller : List ℕ) (asked : Asked) (answer : Answered) (place steps_old steps_new : ℕ) → held ≡ (0, x) ∷ rest held → HasBook held → AsksIn faults faultless x y caller asked answer place steps_old steps_new → AsksHeld faults faultless held ((0, y) ∷ rest held) caller asked answer place steps_old steps_new
  lent held x y caller asked answer place steps_old steps_new e has a = record {
    old = a.old;
    new = a.new;
    was = e ∙ (λ i. (0, a.was i) ∷ ap rest has.is i);
    now = λ i. (0, a.now i) ∷ ap rest has.is i;
    asks = a.asks;
  }

  grown : (old new : BookValue K) (caller : List ℕ) (asked : Asked) (answer : Answered) (place steps_old steps_new : ℕ) → IsAskedBook faults faultless old new caller asked answer place steps_old steps_new → IsGrown old.log new.log
  grown old new caller asked answer place steps_old steps_new a = grown_by old.log new.log caller asked answer (legal_some old.log a.was) a.step

  pub gives_on : (opening : List Happened) (slots id : ℕ) (v : View) (n1 n2 : M K) (caller : List ℕ) (asked : Asked) (answer : Answered) (place steps_old steps_new : ℕ) → Takes faults v n1 → AsksHeld faults faultless n1.1 n2.1 caller asked answer place steps_old steps_new → n2.0 ≡ n1.0
      → Allows (Holds opening) slots id n2 0 (λ x. (x + 1) % 2 ^ 64) (λ r. Gives faults n2)
  gives_on opening slots id v n1 n2 caller asked answer place steps_old steps_new t a same =
      let is : t.book ≡ a.old = book_same (ap book_in (sym t.held ∙ a.was)) in
      gives_back opening faults slots id n2 a.new t.book.log (faults t.book.keeper) (ap (λ u. u.taken) (same ∙ t.view)) a.now (subst (λ (b : BookValue K). IsGrown b.log a.new.log) (sym is) (grown a.old a.new caller asked answer place steps_old steps_new a.asks))

  turn_of : (v : View) (t : ℕ) (old new : BookValue K) (caller : List ℕ) (asked : Asked) (answer : Answered) (place steps_old steps_new : ℕ) → 0 < v.room → IsPrefix v.seen old.log → IsAskedBook faults faultless old new caller asked answer place steps_old steps_new
      → IsTurn v (giving (taking (drawing v t) old.log (faults old.keeper)) old.log (faults old.keeper) new.log (faults new.keeper)) caller asked answer place steps_old steps_new
  turn_of v t old new caller asked answer place steps_old steps_new room p a =
      let later = a.keeper.later in record {
        others = p.0;
        step = subst (λ l. IsStep l caller asked answer new.log) (sym p.1) a.step;
        was = subst IsLegal (sym p.1) a.was;
        mine = ap (λ (l : List Happened). v.mine ++ gained l new.log) (sym p.1);
        places = λ mine. giving_places v old.log new.log p mine (grown old new caller asked answer place steps_old steps_new a);
        legal = a.legal;
        short = a.room;
        placed = a.placed;
        few = subst (λ l. steps_new ≤ steps_old + steps_behind l new.log) (sym p.1) a.few;
        room = omega arith;
        drawn = refl;
        cause = λ k.
            let r = a.keeper.cause.rose k in
            dite (dec_le 18446744073709551615 (faults new.keeper)) (λ e. inr (or_right v.spent (nat_le 18446744073709551615 (faults new.keeper)) (le-leb 18446744073709551615 (faults new.keeper) e))) (λ e. inl (omega arith));
        later = omega arith;
        stays_spent = λ e. ap (λ b. b || nat_le 18446744073709551615 (faults new.keeper)) e;
        idle = (refl, refl);
        first = refl;
        splits = refl;
        stands = refl;
      }

  -- the turn, and no book is left with the seat
  pub record IsTurned (v : View) (n : M K) (caller : List ℕ) (asked : Asked) (answer : Answered) (place steps_old steps_new : ℕ) : Type 0 where
    pub turn : IsTurn v n.0 caller asked answer place steps_old steps_new
    pub empty : n.1 ≡ []

  pub turned : (v : View) (t : ℕ) (m1 n1 n2 n3 : M K) (caller : List ℕ) (asked : Asked) (answer : Answered) (place steps_old steps_new : ℕ) → 0 < v.room → m1.0 ≡ drawing v t → Takes faults m1.0 n1 → AsksHeld faults faultless n1.1 n2.1 caller asked answer place steps_old steps_new → n2.0 ≡ n1.0 → Gives faults n2 n3
      → IsTurned v n3 caller asked answer place steps_old steps_new
  turned v t m1 n1 n2 n3 caller asked answer place steps_old steps_new room drew takes a same gives =
      let is : takes.book ≡ a.old = book_same (ap book_in (sym takes.held ∙ a.was)) in
      let view : n2.0 ≡ taking (drawing v t) a.old.log (faults a.old.keeper) = same ∙ (takes.view ∙ (λ i. taking (drew i) (is i).log (faults (is i).keeper))) in
      let begins : IsPrefix v.seen a.old.log = subst (λ (b : BookValue K). IsPrefix v.seen b.log) is (subst (λ (u : View). IsPrefix u.seen takes.book.log) drew takes.begins) in
      let w = giving (taking (drawing v t) a.old.log (faults a.old.keeper)) a.old.log (faults a.old.keeper) a.new.log (faults a.new.keeper) in
      let after : n3 ≡ (giving n2.0 a.old.log (faults a.old.keeper) a.new.log (faults a.new.keeper), []) = gives a.new a.old.log (faults a.old.keeper) a.now (ap (λ u. u.taken) view) in
      let ends : n3.0 ≡ w = ap (λ x. x.0) after ∙ ap (λ (u : View). giving u a.old.log (faults a.old.keeper) a.new.log (faults a.new.keeper)) view in record {
        turn = subst (λ (u : View). IsTurn v u caller asked answer place steps_old steps_new) (sym ends) (turn_of v t a.old a.new caller asked answer place steps_old steps_new room begins a.asks);
        empty = ap (λ x. x.1) after;
      }

-- ---- the steps of a turn

-- a turn takes the steps of the pass's own change at most
pub few_turn : (old new : PassValue) (v w : View) (caller : List ℕ) (asked : Asked) (answer : Answered) (place steps_old steps_new : ℕ) → v ≡ old.knows → w ≡ new.knows → IsTurn v w caller asked answer place steps_old steps_new
    → steps_new ≤ steps_old + own_steps (visiting_of old) (visiting_of new)
few_turn old new v w caller asked answer place steps_old steps_new was is turn =
    let mine : new.knows.mine ≡ old.knows.mine ++ gained (v.seen ++ turn.others) new.knows.seen =
    ap (λ (u : View). u.mine) (sym is) ∙ (turn.mine ∙ ((λ i. (was i).mine ++ gained (v.seen ++ turn.others) (is i).seen))) in
    few_own (visiting_of old) (visiting_of new) (v.seen ++ turn.others) steps_old steps_new
    (moves_by (v.seen ++ turn.others) new.knows.seen caller asked answer (subst (λ (u : View). IsStep (v.seen ++ turn.others) caller asked answer u.seen) is turn.step))
    mine (subst (λ (u : View). steps_new ≤ steps_old + steps_behind (v.seen ++ turn.others) u.seen) is turn.few)
