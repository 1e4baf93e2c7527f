-- Each step of a request keeps the rule of the hall.
use Rattle.std.proofs.Common.{◌≡◌, ◌≢◌, ℕ, ◌+◌, ◌%◌, ◌^◌, ◌<◌, ◌≤◌, List, [], ◌∷◌, ◌++◌, set, get_or, Option, Some, None, refl, sym, ap, ◌∙◌, subst, ⊎_elim, arith}
use mathlib.Core.Option as m
use mathlib.Core.Option.{some-injective}
use mathlib.Core.Logic.{dite}
use mathlib.Core.List.{IsPrefix}
use native.Mathlib.Decide.{ℕ_discrete}
use lib.ListN.{get_elem?}
use lib.Seq.{set-get_or}
use Rattle.atomic_table.specs.Table.{State, Me, keeps, takes, gives, rest, stepped, Allows}
use Rattle.atomic_table.proofs.Lists.{at_set, set_again}
use Rattle.project_machine.specs.Requests.{Happened}
use Rattle.project_machine.specs.History.{begin, last}
use Rattle.project_machine.specs.Asking.{gained}
use Rattle.project_book.specs.Keeping.{BookValue}
use Rattle.turn_hall.specs.Views.{View}
use Rattle.turn_hall.specs.Counts.{total, same, within, times, one_if_some, is_ticket, has_ticket, has_taken, has_place, drawn_of, stands_of, splits_of, first_of, AscendWithin, ArePlacesOf}
use Rattle.turn_hall.specs.Rule.{IsSlot, Fits, Holds}
use Rattle.turn_hall.specs.Steps.{drawing, taking, giving, Draws, Looks, Gives, Learns}
use Rattle.turn_hall.proofs.TotalLemmas.{total_set, total_one, total_two, total_le, finds}
use Rattle.turn_hall.proofs.PrefixLemmas.{prefix_self, prefix_trans}
use Rattle.turn_hall.proofs.PlaceLemmas.{times_append, ascend_append}
use Rattle.turn_hall.proofs.GrowthLemmas.{IsGrown, goes_on, places_go_on}

pub all_set : (G : View → Type 0) (vs : List View) (id : ℕ) (w : View) → G w → ((j : ℕ) (u : View) → j ≢ id → get_elem? vs j ≡ m.some u → G u) → (j : ℕ) (u : View) → get_elem? (set vs id w) j ≡ m.some u → G u
all_set G vs id w mine others j u e = ⊎_elim (λ (x : (j ≡ id) × (w ≡ u)). subst G x.1 mine) (λ (x : (j ≢ id) × (get_elem? vs j ≡ m.some u)). others j u x.0 x.1) (at_set vs id j w u e)

pub total_same : (f : View → ℕ) (vs : List View) (j : ℕ) (v w : View) → get_elem? vs j ≡ m.some v → f w ≡ f v → total f (set vs j w) ≡ total f vs
total_same f vs j v w at e = let r = total_set f vs j v w at in omega arith

total_plus : (f : View → ℕ) (vs : List View) (id : ℕ) (v w : View) (x y z : ℕ) → get_elem? vs id ≡ m.some v → total f vs ≡ x → f w ≡ f v + y → z ≡ x + y → total f (set vs id w) ≡ z
total_plus f vs id v w x y z at t e s = let r = total_set f vs id v w at in omega arith

pub none_some : {A : Type 0} (o : Option A) (x : A) → o ≡ None → o ≡ Some x → ⊥
none_some o x p q = cc

-- what was taken, and the count
abbrev log_in : Option (List Happened × ℕ) → List Happened
log_in None = []
log_in (Some x) = x.0

abbrev count_in : Option (List Happened × ℕ) → ℕ
count_in None = 0
count_in (Some x) = x.1

some_of : {A : Type 0} (o : Option A) → 0 < one_if_some o → (x : A) × (o ≡ Some x)
some_of None h = absurd (omega arith)
some_of (Some x) h = (x, refl)

module _ {K : Type 0} where
  -- the book is at home
  pub record IsHome (homes : List (m.Option (Option (BookValue K)))) (history : List Happened) : Type 0 where
    pub book : BookValue K
    pub is : homes ≡ m.some (Some book) ∷ []
    pub log : book.log ≡ history

  pub home : (homes : List (m.Option (Option (BookValue K)))) (history : List Happened) (out : ℕ) → IsSlot homes history out → out ≢ 1 → IsHome homes history
  home [] history out s n = absurd s
  home (m.none ∷ []) history out s n = absurd (n s)
  home (m.some None ∷ []) history out s n = absurd s
  home (m.some (Some b) ∷ []) history out s n = record { book = b; is = refl; log = s.0 }
  home (m.none ∷ y ∷ zs) history out s n = absurd s
  home (m.some None ∷ y ∷ zs) history out s n = absurd s
  home (m.some (Some b) ∷ y ∷ zs) history out s n = absurd s

  away : (homes : List (m.Option (Option (BookValue K)))) (history : List Happened) (out : ℕ) → IsSlot homes history out → 0 < out → (homes ≡ m.none ∷ []) × (out ≡ 1)
  away [] history out s n = absurd s
  away (m.none ∷ []) history out s n = (refl, s)
  away (m.some None ∷ []) history out s n = absurd s
  away (m.some (Some b) ∷ []) history out s n = let e = s.1 in absurd (omega arith)
  away (m.none ∷ y ∷ zs) history out s n = absurd s
  away (m.some None ∷ y ∷ zs) history out s n = absurd s
  away (m.some (Some b) ∷ y ∷ zs) history out s n = absurd s

  zero_of : (homes : List (m.Option (Option (BookValue K)))) (history : List Happened) (out : ℕ) (b : BookValue K) → homes ≡ m.some (Some b) ∷ [] → IsSlot homes history out → out ≡ 0
  zero_of homes history out b e s = (subst (λ (l : List (m.Option (Option (BookValue K)))). IsSlot l history out) e s).1

abbrev pub St : Type 0 → Type 0
St K = State (Option (BookValue K)) View

abbrev pub M : Type 0 → Type 0
M K = Me (Option (BookValue K)) View

here : (v : View) (t : ℕ) → v.ticket ≡ Some t → has_ticket t v ≡ 1
here v t e = let a : is_ticket t v.ticket ≡ same t t = ap (is_ticket t) e in omega arith

abbrev pub book_in : {K : Type 0} → List (ℕ × Option (BookValue K)) → Option (BookValue K)
book_in [] = None
book_in (x ∷ xs) = x.1

pub book_same : {K : Type 0} {a b : BookValue K} → Some a ≡ Some b → a ≡ b
book_same e = cc

-- the places that a view has once it gave the book back
pub giving_places : (v : View) (log now : List Happened) → IsPrefix v.seen log → ArePlacesOf v.seen v.mine → IsGrown log now → ArePlacesOf now (v.mine ++ gained log now)
giving_places v log now seen mine grown =
    let before : ArePlacesOf log v.mine = places_go_on v.seen log v.mine seen mine in
    let low : begin log ≤ last log = omega arith in
    let first = grown.first in
    ascend_append (begin now) (last log) (last now) v.mine (gained log now) (omega arith) grown.later (subst (λ n. AscendWithin n (last log) v.mine) (sym first) before) grown.ascend

module _ {K : Type 0} (opening : List Happened) where
  bound : (s : St K) (h : Holds opening s) → h.next ≤ 1099511627776
  bound s h =
      let le = total_le drawn_of stands_of s.views (λ j v e. let d = (h.fits j v e).drawn in omega arith) in
      let a = h.drawn in let b = h.stand in let c = h.cut in
      omega arith

  -- a step that changes nothing
  unmoved : (s : St K) (id : ℕ) (cs : List (ℕ × Option (BookValue K))) (v : View) → get_elem? s.views id ≡ m.some v → Holds opening s → Holds opening (stepped s 0 (get_or s.words 0 0) id cs v keeps)
  unmoved s id cs v at h =
      subst (λ (ws : List ℕ). Holds opening record { words = ws; homes = s.homes; views = set s.views id v }) (sym (set-get_or s.words 0 0))
      (subst (λ (vs : List View). Holds opening record { words = s.words; homes = s.homes; views = vs }) (sym (set_again s.views id v at)) h)

  drawn : (s : St K) (h : Holds opening s) (id : ℕ) (v : View) → get_elem? s.views id ≡ m.some v → v.ticket ≡ None → 0 < v.room → 0 < v.stands_for
      → Holds opening record { words = set s.words 1 ((h.next + 1) % 2 ^ 64); homes = s.homes; views = set s.views id (drawing v h.next) }
  drawn s h id v at none room stands =
      let w = drawing v h.next in
      let b = bound s h in
      let f = h.fits id v at in record {
        turn = h.turn;
        next = h.next + 1;
        history = h.history;
        words = ap (λ l. set l 1 ((h.next + 1) % 2 ^ 64)) h.words ∙ ap (λ (k : ℕ). h.turn ∷ k ∷ []) (omega arith);
        turns = (let t = h.turns in omega arith);
        tickets = λ t.
            let e = total_set (has_ticket t) s.views id v w at in
            let z : is_ticket t v.ticket ≡ 0 = ap (is_ticket t) none in
            let o = h.tickets t in
            let p = h.turns in
            omega arith;
        book = subst (IsSlot s.homes h.history) (sym (total_same has_taken s.views id v w at refl)) h.book;
        founded = h.founded;
        begun = h.begun;
        places = λ p. total_same (has_place p) s.views id v w at refl ∙ h.places p;
        drawn = (let e = total_set drawn_of s.views id v w at in let d = h.drawn in omega arith);
        stand = (let e = total_same stands_of s.views id v w at refl in let g = total_same splits_of s.views id v w at refl in let d = h.stand in omega arith);
        cut = (let g = total_same splits_of s.views id v w at refl in let d = h.cut in omega arith);
        firsts = total_same first_of s.views id v w at refl ∙ h.firsts;
        fits = all_set (Fits h.turn h.history) s.views id w
            record {
              seen = f.seen;
              shorter = f.shorter;
              mine = f.mine;
              taken = λ log count e. absurd (none_some v.ticket h.turn none (f.taken log count e).0);
              room = (let r = f.room in omega arith);
              drawn = (let r = f.drawn in omega arith);
              note = λ z. absurd (omega arith);
              splits = f.splits;
            }
            (λ j u _ e. h.fits j u e);
      }

  pub draws : (slots id : ℕ) (me : M K) → me.0.ticket ≡ None → 0 < me.0.room → 0 < me.0.stands_for → Allows (Holds opening) slots id me 1 (λ n. (n + 1) % 2 ^ 64) (Draws me)
  draws slots id me none room stands s h long at small =
      let n : get_or s.words 1 0 ≡ h.next = ap (λ l. get_or l 1 0) h.words in (
        drawing me.0 (get_or s.words 1 0),
        keeps,
        tt,
        subst (λ (k : ℕ). Holds opening record { words = set s.words 1 ((k + 1) % 2 ^ 64); homes = s.homes; views = set s.views id (drawing me.0 k) }) (sym n) (drawn s h id me.0 at none room stands),
        refl,
      )

  -- where the turn is a view's own and it has not taken the book, none has
  free : (s : St K) (h : Holds opening s) (id : ℕ) (v : View) → get_elem? s.views id ≡ m.some v → v.ticket ≡ Some h.turn → v.taken ≡ None → total has_taken s.views ≢ 1
  free s h id v at has none one =
      let r = finds has_taken s.views (omega arith) in
      let x = some_of r.view.taken r.some_of in
      let theirs = (h.fits r.at r.view r.there).taken x.0.0 x.0.1 x.1 in
      dite (ℕ_discrete r.at id)
      (λ e.
      let is : m.some r.view ≡ m.some v = sym r.there ∙ (ap (λ (k : ℕ). get_elem? s.views k) e ∙ at) in
      let same_view : r.view ≡ v = some-injective r.view v is in
      none_some v.taken x.0 none (ap (λ (u : View). u.taken) (sym same_view) ∙ x.1))
      (λ n.
      let two = total_two (has_ticket h.turn) s.views r.at id r.view v n r.there at in
      let a = here r.view h.turn theirs.0 in
      let b = here v h.turn has in
      let t = h.tickets h.turn in
      absurd (omega arith))

  took : (faults : K → ℕ) (s : St K) (h : Holds opening s) (id : ℕ) (v : View) → get_elem? s.views id ≡ m.some v → v.ticket ≡ Some h.turn → v.taken ≡ None → (b : BookValue K) → s.homes ≡ m.some (Some b) ∷ [] → b.log ≡ h.history → total has_taken s.views ≡ 0
      → Holds opening record { words = set s.words 0 (get_or s.words 0 0); homes = set s.homes 0 m.none; views = set s.views id (taking v b.log (faults b.keeper)) }
  took faults s h id v at has none b homes log zeros =
      let w = taking v b.log (faults b.keeper) in
      let f = h.fits id v at in
      let out = total has_taken (set s.views id w) in record {
        turn = h.turn;
        next = h.next;
        history = h.history;
        words = ap (λ l. set l 0 (get_or l 0 0)) h.words;
        turns = h.turns;
        tickets = λ t. total_same (has_ticket t) s.views id v w at refl ∙ h.tickets t;
        book = subst (λ (l : List (m.Option (Option (BookValue K)))). IsSlot (set l 0 m.none) h.history out) (sym homes)
            (let e = total_set has_taken s.views id v w at in let z : one_if_some v.taken ≡ 0 = ap one_if_some none in omega arith);
        founded = h.founded;
        begun = h.begun;
        places = λ p. total_same (has_place p) s.views id v w at refl ∙ h.places p;
        drawn = h.drawn ∙ sym (total_same drawn_of s.views id v w at refl);
        stand = (let e = total_same stands_of s.views id v w at refl in let g = total_same splits_of s.views id v w at refl in let d = h.stand in omega arith);
        cut = (let g = total_same splits_of s.views id v w at refl in let d = h.cut in omega arith);
        firsts = total_same first_of s.views id v w at refl ∙ h.firsts;
        fits = all_set (Fits h.turn h.history) s.views id w
            record {
              seen = f.seen;
              shorter = f.shorter;
              mine = f.mine;
              taken = λ l count e. (has, (sym (ap log_in e) ∙ log));
              room = f.room;
              drawn = f.drawn;
              note = f.note;
              splits = f.splits;
            }
            (λ j u _ e. h.fits j u e);
      }

  pub looks : (faults : K → ℕ) (slots id : ℕ) (me : M K) (t : ℕ) → me.0.ticket ≡ Some t → me.0.taken ≡ None → me.1 ≡ [] → Allows (Holds opening) slots id me 0 (λ n. n) (Looks faults me)
  looks faults slots id me t has none empty s h long at small =
      let n : get_or s.words 0 0 ≡ h.turn = ap (λ l. get_or l 0 0) h.words in
      dite (ℕ_discrete t h.turn)
      (λ e.
      let mine : me.0.ticket ≡ Some h.turn = has ∙ ap Some e in
      let at_home = home s.homes h.history (total has_taken s.views) h.book (free s h id me.0 at mine none) in
      let b = at_home.book in (
        taking me.0 b.log (faults b.keeper),
        takes 0 (Some b),
        ap (λ l. get_elem? l 0) at_home.is,
        took faults s h id me.0 at mine none b at_home.is at_home.log (zero_of s.homes h.history (total has_taken s.views) b at_home.is h.book),
        (
          (λ _. record { book = b; held = ap (λ l. (0, Some b) ∷ l) empty; view = refl; begins = subst (IsPrefix me.0.seen) (sym at_home.log) (h.fits id me.0 at).seen }),
          (λ other. absurd (other (mine ∙ ap Some (sym n)))),
        ),
      ))
      (λ other. (
        me.0,
        keeps,
        tt,
        unmoved s id me.1 me.0 at h,
        ((λ is. absurd (other (let q : t ≡ get_or s.words 0 0 = cc in q ∙ n))), λ _. refl),
      ))

  pub learns : (slots id : ℕ) (me : M K) → Allows (Holds opening) slots id me 0 (λ n. n) (λ r. Learns me)
  learns slots id me s h long at small =
      let f = h.fits id me.0 at in (
        me.0,
        keeps,
        tt,
        unmoved s id me.1 me.0 at h,
        record {
          same = refl;
          shorter = f.shorter;
          mine = f.mine;
          few = (let a = total_one stands_of s.views id me.0 at in let b = h.stand in let c = h.cut in omega arith);
        },
      )

  given : (faults : K → ℕ) (s : St K) (h : Holds opening s) (id : ℕ) (v : View) → get_elem? s.views id ≡ m.some v → (b : BookValue K) (log : List Happened) (count : ℕ)
      → v.taken ≡ Some (log, count) → IsGrown log b.log
      → Holds opening record { words = set s.words 0 ((get_or s.words 0 0 + 1) % 2 ^ 64); homes = set s.homes 0 (m.some (Some b)); views = set s.views id (giving v log count b.log (faults b.keeper)) }
  given faults s h id v at b log count taken grown =
      let w = giving v log count b.log (faults b.keeper) in
      let f = h.fits id v at in
      let tk = f.taken log count taken in
      let one : has_taken v ≡ 1 = ap one_if_some taken in
      let most = total_one has_taken s.views id v at in
      let gone = away s.homes h.history (total has_taken s.views) h.book (omega arith) in
      let out = total has_taken (set s.views id w) in
      let left : out ≡ 0 = (let e = total_set has_taken s.views id v w at in let g = gone.1 in omega arith) in
      let mine_now = here v h.turn tk.0 in
      let some_ticket = total_one (has_ticket h.turn) s.views id v at in
      let ticket_now = h.tickets h.turn in
      let below : h.turn < h.next = omega arith in
      let limit = bound s h in
      let pre : IsPrefix h.history b.log = subst (λ (l : List Happened). IsPrefix l b.log) tk.1 grown.more in
      let seen : IsPrefix v.seen log = subst (IsPrefix v.seen) (sym tk.1) f.seen in
      let ends : last log ≡ last h.history = ap last tk.1 in
      let later = grown.later in
      let old : last opening ≤ last h.history = (goes_on opening h.history h.founded h.begun).1 in
      let others : (j : ℕ) (u : View) → j ≢ id → get_elem? s.views j ≡ m.some u → has_taken u ≡ 0
      = λ j u apart e. (let two = total_two has_taken s.views j id u v apart e at in let g = gone.1 in omega arith) in record {
        turn = h.turn + 1;
        next = h.next;
        history = b.log;
        words = ap (λ l. set l 0 ((get_or l 0 0 + 1) % 2 ^ 64)) h.words ∙ ap (λ (k : ℕ). k ∷ h.next ∷ []) (omega arith);
        turns = omega arith;
        tickets = λ t.
            let e = total_set (has_ticket t) s.views id v w at in
            let z : is_ticket t v.ticket ≡ same t h.turn = ap (is_ticket t) tk.0 in
            let o = h.tickets t in
            omega arith;
        book = subst (λ (l : List (m.Option (Option (BookValue K)))). IsSlot (set l 0 (m.some (Some b))) b.log out) (sym gone.0) (refl, left);
        founded = h.founded;
        begun = prefix_trans opening h.history b.log h.begun pre;
        places = λ p.
            total_plus (has_place p) s.views id v w (within (last opening + 1) (last h.history + 1) p) (times p (gained log b.log)) (within (last opening + 1) (last b.log + 1) p) at (h.places p) (times_append p v.mine (gained log b.log))
            (let g = grown.places p in omega arith);
        drawn = h.drawn ∙ sym (total_same drawn_of s.views id v w at refl);
        stand = (let e = total_same stands_of s.views id v w at refl in let g = total_same splits_of s.views id v w at refl in let q = h.stand in omega arith);
        cut = (let g = total_same splits_of s.views id v w at refl in let q = h.cut in omega arith);
        firsts = total_same first_of s.views id v w at refl ∙ h.firsts;
        fits = all_set (Fits (h.turn + 1) b.log) s.views id w
            record {
              seen = prefix_self b.log;
              shorter = (b.log, refl);
              mine = giving_places v log b.log seen f.mine grown;
              taken = λ l n e. absurd (none_some {A = List Happened × ℕ} None (l, n) refl e);
              room = f.room;
              drawn = f.drawn;
              note = λ z. absurd (none_some v.ticket h.turn (f.note z).2 tk.0);
              splits = f.splits;
            }
            (λ j u apart e. let g = h.fits j u e in record {
              seen = prefix_trans u.seen h.history b.log g.seen pre;
              shorter = g.shorter;
              mine = g.mine;
              taken = λ l n ex. absurd (let z = others j u apart e in let o : has_taken u ≡ 1 = ap one_if_some ex in omega arith);
              room = g.room;
              drawn = g.drawn;
              note = g.note;
              splits = g.splits;
            });
      }

  pub gives_back : (faults : K → ℕ) (slots id : ℕ) (me : M K) (b : BookValue K) (log : List Happened) (count : ℕ) → me.0.taken ≡ Some (log, count) → me.1 ≡ (0, Some b) ∷ [] → IsGrown log b.log
      → Allows (Holds opening) slots id me 0 (λ n. (n + 1) % 2 ^ 64) (λ r. Gives faults me)
  gives_back faults slots id me b log count taken held grown s h long at small = (
    giving me.0 log count b.log (faults b.keeper),
    gives,
    tt,
    subst (λ (cs : List (ℕ × Option (BookValue K))). Holds opening (stepped s 0 ((get_or s.words 0 0 + 1) % 2 ^ 64) id cs (giving me.0 log count b.log (faults b.keeper)) gives)) (sym held)
        (given faults s h id me.0 at b log count taken grown),
    λ b' log' count' held' taken'.
        let e1 : b ≡ b' = book_same (ap book_in (sym held ∙ held')) in
        let e2 : log ≡ log' = ap log_in (sym taken ∙ taken') in
        let e3 : count ≡ count' = ap count_in (sym taken ∙ taken') in
        let r : rest me.1 ≡ [] = ap rest held in
        λ i. (giving me.0 (e2 i) (e3 i) (e1 i).log (faults (e1 i).keeper), r i),
  )
