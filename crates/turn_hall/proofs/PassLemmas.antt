-- Split, note, join, learn and close keep the rule of the hall, and what its last state shows.
use Rattle.std.proofs.Common.{◌≡◌, ◌≢◌, ◌||◌, ℕ, zero, suc, ◌+◌, ◌*◌, ◌^◌, ◌<◌, ◌≤◌, List, [], ◌∷◌, ◌++◌, length, set, Option, Some, None, Bool, true, false, refl, sym, ap, ◌∙◌, subst, ⊎_elim, arith}
use mathlib.Core.Option as m
use mathlib.Core.Option.{some-injective, some-ne-none}
use mathlib.Core.List.{IsPrefix}
use lib.ListN.{get_elem?}
use Rattle.atomic_table.specs.Table.{Splits, Joins, Final, Seen, opening}
use Rattle.atomic_table.proofs.Lists.{at_set, at_snoc}
use Rattle.project_machine.specs.Requests.{Happened}
use Rattle.project_machine.specs.History.{begin, last}
use Rattle.project_book.specs.Keeping.{BookValue}
use Rattle.project_book.specs.Visits.{places_above}
use Rattle.turn_hall.specs.Views.{View, first_view, blank}
use Rattle.turn_hall.specs.Counts.{total, within, times, one_if, one_if_some, is_ticket, has_ticket, has_taken, has_place, drawn_of, stands_of, splits_of, first_of, ArePlacesOf}
use Rattle.turn_hall.specs.Rule.{IsSlot, Fits, Holds}
use Rattle.turn_hall.specs.Steps.{longer, shorter, merged, split_from, split_off, noted, both, heard}
use Rattle.turn_hall.specs.Passes.{IsClosed}
use Rattle.turn_hall.proofs.TotalLemmas.{total_set, total_snoc, total_two, total_only}
use Rattle.turn_hall.proofs.PrefixLemmas.{prefix_self, longer_prefix, shorter_longer, both_longer}
use Rattle.turn_hall.proofs.PlaceLemmas.{times_merged, merged_none, ascend_merged, ascend_between, all_between}
use Rattle.turn_hall.proofs.GrowthLemmas.{places_go_on}
use Rattle.turn_hall.proofs.StepLemmas.{all_set, none_some, home, St}

off : (b : Bool) → one_if b ≡ 0 → b ≡ false
off true e = absurd (omega arith)
off false e = refl

on : (b : Bool) → b ≡ true → one_if b ≡ 1
on b e = ap one_if e

or_none : (b : Bool) → (b || b) ≡ b
or_none true = refl
or_none false = refl

-- the total after a split
total_cut : (f : View → ℕ) (vs : List View) (id : ℕ) (v l r : View) → get_elem? vs id ≡ m.some v → total f (set vs id l ++ r ∷ []) + f v ≡ total f vs + f l + f r
total_cut f vs id v l r at = let a = total_set f vs id v l at in let b = total_snoc f (set vs id l) r in omega arith

same_total : (x fv t fl fr : ℕ) → x + fv ≡ t + fl + fr → fl + fr ≡ fv → x ≡ t
same_total x fv t fl fr e q = omega arith

all_snoc : (G : View → Type 0) (vs : List View) (r : View) → ((j : ℕ) (u : View) → get_elem? vs j ≡ m.some u → G u) → G r → (j : ℕ) (u : View) → get_elem? (vs ++ r ∷ []) j ≡ m.some u → G u
all_snoc G vs r all mine j u e = ⊎_elim (λ (x : get_elem? vs j ≡ m.some u). all j u x) (λ (x : r ≡ u). subst G x mine) (at_snoc vs r u j e)

-- a view that begins beside another: it has no ticket and no place
begins : (turn : ℕ) (history : List Happened) (v r : View) → Fits turn history v → r.seen ≡ v.seen → r.shorter ≡ [] → r.mine ≡ [] → r.faults ≡ 0 → r.ticket ≡ None → r.taken ≡ None → r.drawn ≡ 0 → r.splits ≡ 0 → r.first ≡ false → r.room ≤ 2 ^ 32 → r.room ≤ 2 ^ 32 * r.stands_for → Fits turn history r
begins turn history v r f seen short mine faults ticket taken drawn splits first room most = record {
  seen = subst (λ l. IsPrefix l history) (sym seen) f.seen;
  shorter = subst (λ l. IsPrefix l r.seen) (sym short) (r.seen, refl);
  mine = subst (ArePlacesOf r.seen) (sym mine) tt;
  taken = λ log count e. absurd (none_some r.taken (log, count) taken e);
  room = room;
  drawn = omega arith;
  note = λ _. (mine, faults, ticket, first);
  splits = λ _. splits;
}

no_some : (o : Option (List Happened × ℕ)) → ((log : List Happened) (count : ℕ) → o ≡ Some (log, count) → ⊥) → one_if_some o ≡ 0
no_some None f = refl
no_some (Some x) f = absurd (f x.0 x.1 refl)

idle_taken : (turn : ℕ) (history : List Happened) (w : View) → Fits turn history w → w.ticket ≡ None → has_taken w ≡ 0
idle_taken turn history w f none = no_some w.taken (λ log count e. none_some w.ticket turn none (f.taken log count e).0)

blank_fits : (turn : ℕ) (history : List Happened) → Fits turn history blank
blank_fits turn history = record {
  seen = (history, refl);
  shorter = ([], refl);
  mine = tt;
  taken = λ log count e. absurd (none_some {A = List Happened × ℕ} None (log, count) refl e);
  room = omega arith;
  drawn = omega arith;
  note = λ _. (refl, refl, refl, refl);
  splits = λ _. refl;
}

-- the total after a join
total_join : (f : View → ℕ) (vs : List View) (id other : ℕ) (v w b c : View) → get_elem? vs id ≡ m.some v → get_elem? (set vs id b) other ≡ m.some w → f b + f c ≡ f v + f w → total f (set (set vs id b) other c) ≡ total f vs
total_join f vs id other v w b c at there same = let x = total_set f vs id v b at in let y = total_set f (set vs id b) other w c there in omega arith

single : {A : Type 0} (xs : List A) (y : A) → length xs ≡ 1 → get_elem? xs 0 ≡ m.some y → xs ≡ y ∷ []
single [] y l e = absurd (omega arith)
single (x ∷ []) y l e = ap (λ z. z ∷ []) (some-injective x y e)
single (x ∷ z ∷ zs) y l e = absurd (omega arith)

-- the places of a view that took in another, which had others
joined_places : (v w : View) (history : List Happened) → IsPrefix v.seen history → IsPrefix w.seen history → ArePlacesOf v.seen v.mine → ArePlacesOf w.seen w.mine → ((p : ℕ) → times p v.mine + times p w.mine ≤ 1) → ArePlacesOf (longer v.seen w.seen) (merged v.mine w.mine)
joined_places v w history vs ws vm wm once =
    let l = longer v.seen w.seen in
    let each = both_longer v.seen w.seen (shorter_longer v.seen w.seen history vs ws) in
    ascend_merged (begin l) (last l) v.mine w.mine (places_go_on v.seen l v.mine each.0 vm) (places_go_on w.seen l w.mine each.1 wm) once

-- the places of the last pass are all those above the opening's
all_mine : (first_log : List Happened) (v : View) (log : List Happened) → IsPrefix v.seen log → ArePlacesOf v.seen v.mine → ((p : ℕ) → times p v.mine ≡ within (last first_log + 1) (last log + 1) p) → v.mine ≡ places_above (last first_log) log
all_mine first_log v log seen mine all =
    all_between (last first_log) (last log) v.mine
    (ascend_between (begin log) (last first_log) (last log) (last log) v.mine (places_go_on v.seen log v.mine seen mine) (λ p h. let t = all p in (omega arith, omega arith)))
    all

-- what is left of a hall
pub record IsLeft {K : Type 0} (first_log : List Happened) (v : View) (slots : List (Option (BookValue K))) : Type 0 where
  pub book : BookValue K
  pub slot : slots ≡ Some book ∷ []
  pub closed : IsClosed first_log v book

module _ {K : Type 0} (first_log : List Happened) where
  abbrev Rule : St K → Type 0
  Rule = Holds first_log

  -- no place is two views' own
  disjoint : (s : St K) (h : Rule s) (id other : ℕ) (v w : View) → other ≢ id → get_elem? s.views id ≡ m.some v → get_elem? s.views other ≡ m.some w → (p : ℕ) → times p v.mine + times p w.mine ≤ 1
  disjoint s h id other v w apart at there p = let two = total_two (has_place p) s.views other id w v apart there at in let all = h.places p in omega arith

  -- the other views are no first pass
  alone : (s : St K) (h : Rule s) (id : ℕ) (v : View) → get_elem? s.views id ≡ m.some v → v.first ≡ true → total splits_of s.views ≡ v.splits
  alone s h id v at first =
      total_only splits_of s.views id v at
      (λ j u apart e.
      let two = total_two first_of s.views j id u v apart e at in
      let a = h.firsts in
      let b = on v.first first in
      (h.fits j u e).splits (off u.first (omega arith)))

  parts : (s : St K) (h : Rule s) (id : ℕ) (v l r : View) → get_elem? s.views id ≡ m.some v
      → ((p : ℕ) → has_ticket p l + has_ticket p r ≡ has_ticket p v) → has_taken l + has_taken r ≡ has_taken v → ((p : ℕ) → has_place p l + has_place p r ≡ has_place p v) → l.drawn + r.drawn ≡ v.drawn
      → l.stands_for + r.stands_for + v.splits ≡ v.stands_for + l.splits + r.splits → total splits_of s.views + l.splits + r.splits ≤ 255 + v.splits → first_of l + first_of r ≡ first_of v
      → Fits h.turn h.history l → Fits h.turn h.history r
      → Rule record { words = s.words; homes = s.homes; views = set s.views id l ++ r ∷ [] }
  parts s h id v l r at tickets taken places drawn stands splits firsts left right = record {
    turn = h.turn;
    next = h.next;
    history = h.history;
    words = h.words;
    turns = h.turns;
    tickets = λ t. (let e = total_cut (has_ticket t) s.views id v l r at in let q = tickets t in same_total _ _ _ _ _ e q) ∙ h.tickets t;
    book = subst (IsSlot s.homes h.history) (sym (let e = total_cut has_taken s.views id v l r at in same_total _ _ _ _ _ e taken)) h.book;
    founded = h.founded;
    begun = h.begun;
    places = λ p. (let e = total_cut (has_place p) s.views id v l r at in let q = places p in same_total _ _ _ _ _ e q) ∙ h.places p;
    drawn = h.drawn ∙ sym (let e = total_cut drawn_of s.views id v l r at in same_total _ _ _ _ _ e drawn);
    stand = (let e = total_cut stands_of s.views id v l r at in let g = total_cut splits_of s.views id v l r at in let d = h.stand in omega arith);
    cut = (let g = total_cut splits_of s.views id v l r at in omega arith);
    firsts = (let e = total_cut first_of s.views id v l r at in same_total _ _ _ _ _ e firsts) ∙ h.firsts;
    fits = all_snoc (Fits h.turn h.history) (set s.views id l) r (all_set (Fits h.turn h.history) s.views id l left (λ j u _ e. h.fits j u e)) right;
  }

  pub cuts : (id : ℕ) (v : View) → v.first ≡ true → v.splits < 255 → 0 < v.stands_for → Splits Rule id v (split_from v) (split_off v)
  cuts id v first few stands s h at =
      let f = h.fits id v at in
      let own = alone s h id v at first in
      parts s h id v (split_from v) (split_off v) at (λ p. omega arith) (omega arith) (λ p. omega arith) (omega arith) (omega arith) (omega arith) (omega arith)
      record {
        seen = f.seen;
        shorter = f.shorter;
        mine = f.mine;
        taken = f.taken;
        room = f.room;
        drawn = f.drawn;
        note = f.note;
        splits = λ e. absurd (let a = ap one_if first in let b = ap one_if e in omega arith);
      }
      (begins h.turn h.history v (split_off v) f refl refl refl refl refl refl refl refl refl f.room (let r = f.room in omega arith))

  pub notes : (id : ℕ) (v : View) → Splits Rule id v v (noted v)
  notes id v s h at =
      let f = h.fits id v at in
      let c = h.cut in
      parts s h id v v (noted v) at (λ p. omega arith) (omega arith) (λ p. omega arith) (omega arith) (omega arith) (omega arith) (omega arith) f
      (begins h.turn h.history v (noted v) f refl refl refl refl refl refl refl refl refl (omega arith) (omega arith))

  pub joins : (id : ℕ) (v : View) (other : ℕ) (w : View) → w.ticket ≡ None → w.first ≡ false → 0 < v.stands_for → Joins Rule id v other w (both v w) blank
  joins id v other w none second stands s h at apart there =
      let b = both v w in
      let was : get_elem? s.views other ≡ m.some w = ⊎_elim (λ (x : (other ≡ id) × (b ≡ w)). absurd (apart x.0)) (λ (x : (other ≢ id) × (get_elem? s.views other ≡ m.some w)). x.1) (at_set s.views id other b w there) in
      let f = h.fits id v at in
      let g = h.fits other w was in
      let uncut = g.splits second in
      let same_of : (q : View → ℕ) → q b + q blank ≡ q v + q w → total q (set (set s.views id b) other blank) ≡ total q s.views = λ q e. total_join q s.views id other v w b blank at there e in record {
        turn = h.turn;
        next = h.next;
        history = h.history;
        words = h.words;
        turns = h.turns;
        tickets = λ t. same_of (has_ticket t) (let e : is_ticket t w.ticket ≡ 0 = ap (is_ticket t) none in omega arith) ∙ h.tickets t;
        book = subst (IsSlot s.homes h.history) (sym (same_of has_taken (let e = idle_taken h.turn h.history w g none in omega arith))) h.book;
        founded = h.founded;
        begun = h.begun;
        places = λ p. same_of (has_place p) (let e = times_merged p v.mine w.mine in omega arith) ∙ h.places p;
        drawn = h.drawn ∙ sym (same_of drawn_of (omega arith));
        stand = same_of stands_of (omega arith) ∙ (h.stand ∙ ap (λ n. n + 1) (sym (same_of splits_of (omega arith))));
        cut = (let e = same_of splits_of (omega arith) in let c = h.cut in omega arith);
        firsts = same_of first_of (let e = ap one_if second in omega arith) ∙ h.firsts;
        fits = all_set (Fits h.turn h.history) (set s.views id b) other blank (blank_fits h.turn h.history)
            (λ j u _ e. all_set (Fits h.turn h.history) s.views id b
            record {
              seen = longer_prefix v.seen w.seen h.history f.seen g.seen;
              shorter = shorter_longer v.seen w.seen h.history f.seen g.seen;
              mine = joined_places v w h.history f.seen g.seen f.mine g.mine (disjoint s h id other v w apart at was);
              taken = f.taken;
              room = f.room;
              drawn = (let x = f.drawn in let y = g.drawn in omega arith);
              note = λ z. absurd (omega arith);
              splits = f.splits;
            }
            (λ i y _ e'. h.fits i y e') j u e);
      }

  pub hears : (id : ℕ) (v : View) (other : ℕ) (w : View) → w.ticket ≡ None → w.first ≡ false → w.stands_for ≡ 0 → 0 < v.stands_for → Joins Rule id v other w (heard v w) blank
  hears id v other w none second noted stands s h at apart there =
      let was : get_elem? s.views other ≡ m.some w = ⊎_elim (λ (x : (other ≡ id) × (heard v w ≡ w)). absurd (apart x.0)) (λ (x : (other ≢ id) × (get_elem? s.views other ≡ m.some w)). x.1) (at_set s.views id other (heard v w) w there) in
      let f = h.fits id v at in
      let g = h.fits other w was in
      let n = g.note noted in
      let m1 : merged v.mine w.mine ≡ v.mine = ap (merged v.mine) n.0 ∙ merged_none (begin v.seen) (last v.seen) v.mine f.mine in
      let f1 : v.faults + w.faults ≡ v.faults = (let e = n.1 in omega arith) in
      let d1 : v.drawn + w.drawn ≡ v.drawn = (let e = g.drawn in omega arith) in
      let s1 : v.stands_for + w.stands_for ≡ v.stands_for = omega arith in
      let same : both v w ≡ heard v w = λ i. record v { seen = longer v.seen w.seen; shorter = shorter v.seen w.seen; mine = m1 i; faults = f1 i; spent = v.spent || w.spent; drawn = d1 i; stands_for = s1 i } in
      subst (λ (b : View). Rule record { words = s.words; homes = s.homes; views = set (set s.views id b) other blank }) same
      (joins id v other w none second stands s h at apart (subst (λ (b : View). get_elem? (set s.views id b) other ≡ m.some w) (sym same) there))

  pub closes : (id : ℕ) (v : View) (ws : List ℕ) (xs : List (Option (BookValue K))) → Final (Seen Rule id v) ws xs → v.first ≡ true → v.ticket ≡ None → v.stands_for ≡ v.splits + 1 → IsLeft first_log v xs
  closes id v ws xs fin first none all =
      let s : St K = fin.0 in
      let h : Rule s = fin.1.0 in
      let at : get_elem? s.views id ≡ m.some v = fin.1.1 in
      let own = alone s h id v at first in
      let f = h.fits id v at in
      let idle : (j : ℕ) (u : View) → j ≢ id → get_elem? s.views j ≡ m.some u → u.stands_for ≡ 0
      = λ j u apart e. (let two = total_two stands_of s.views j id u v apart e at in let d = h.stand in omega arith) in
      let out : total has_taken s.views ≡ 0 = total_only has_taken s.views id v at (λ j u apart e. idle_taken h.turn h.history u (h.fits j u e) ((h.fits j u e).note (idle j u apart e)).2) ∙ idle_taken h.turn h.history v f none in
      let here = home s.homes h.history (total has_taken s.views) h.book (λ e. omega arith) in
      let seen : IsPrefix v.seen here.book.log = subst (IsPrefix v.seen) (sym here.log) f.seen in record {
        book = here.book;
        slot = single xs (Some here.book) (sym fin.3 ∙ ap length here.is) (fin.4 0 (Some here.book) (ap (λ l. get_elem? l 0) here.is));
        closed = record {
          begun = subst (IsPrefix first_log) (sym here.log) h.begun;
          seen = seen;
          mine = all_mine first_log v here.book.log seen f.mine
              (λ p.
              let e = total_only (has_place p) s.views id v at (λ j u apart e. ap (times p) ((h.fits j u e).note (idle j u apart e)).0) in
              sym e ∙ (h.places p ∙ ap (λ (l : List Happened). within (last first_log + 1) (last l + 1) p) (sym here.log)));
        };
      }

  pub opens : (b : BookValue K) → b.log ≡ first_log → 0 < length first_log → Rule (opening (0 ∷ 0 ∷ []) (Some b ∷ []) (first_view first_log))
  opens b log some = record {
    turn = 0;
    next = 0;
    history = first_log;
    words = refl;
    turns = omega arith;
    tickets = λ t. omega arith;
    book = (log, refl);
    founded = some;
    begun = prefix_self first_log;
    places = λ p. omega arith;
    drawn = refl;
    stand = refl;
    cut = omega arith;
    firsts = refl;
    fits = one;
  }
    where
      one : (j : ℕ) (u : View) → get_elem? (first_view first_log ∷ []) j ≡ m.some u → Fits 0 first_log u
      one zero u e = subst (Fits 0 first_log) (some-injective (first_view first_log) u e) record {
        seen = prefix_self first_log;
        shorter = (first_log, refl);
        mine = tt;
        taken = λ log count e. absurd (none_some {A = List Happened × ℕ} None (log, count) refl e);
        room = omega arith;
        drawn = omega arith;
        note = λ z. absurd (omega arith);
        splits = λ z. refl;
      }
      one (suc j) u e = absurd (some-ne-none u (sym e))
