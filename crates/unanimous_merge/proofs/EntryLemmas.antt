-- The annotations of all holders, and the first of each place.
use Rattle.std.proofs.Common.{◌≡◌, ℕ, suc, ◌+◌, ◌<◌, Bool, true, false, ◌||◌, not, cond, eqb, List, [], ◌∷◌, ◌++◌, map, length, get_or, take, set, get_or-set_same, get_or-set_other, append_assoc, refl, sym, ap, ◌∙◌, subst, arith, inl, inr, All}
use Rattle.std.proofs.lemmas.Bool.Decides.{eqb_tells}
use Rattle.std.proofs.lemmas.List.{map-append, take_more, length-take-le}
use Rattle.std.proofs.lemmas.List.Elements.{filter-append}
use Rattle.std.specs.List.{filter, list_any}
use Rattle.content_keys.specs.declared.placed_layer.Placed.{Placed}
use Rattle.content_keys.specs.declared.placed_layer.PlacedLayer.{PlacedLayer}
use Rattle.unanimous_merge.specs.declared.entry.Entry.{Entry}
use Rattle.unanimous_merge.specs.Rows.{entries_by, entries_from, firsts_at}
use Rattle.unanimous_merge.proofs.ListLemmas.{any_append, any_default, length_map}

append_none : {X : Type 0} (xs : List X) → xs ++ [] ≡ xs
append_none [] = refl
append_none (x ∷ xs) = ap (λ ys. x ∷ ys) (append_none xs)

entries_push : (h : ℕ) (xs : List (List Placed)) (p : List Placed) → entries_from h (xs ++ p ∷ []) ≡ entries_from h xs ++ entries_by (h + length xs) p
entries_push h [] p = let n : h ≡ h + 0 = omega arith in append_none (entries_by h p) ∙ ap (λ k. entries_by k p) n
entries_push h (x ∷ xs) p =
    let n : suc h + length xs ≡ h + suc (length xs) = omega arith in
    ap (λ ys. entries_by h x ++ ys) (entries_push (suc h) xs p)
    ∙ sym (append_assoc (entries_by h x) (entries_from (suc h) xs) (entries_by (suc h + length xs) p))
    ∙ ap (λ k. (entries_by h x ++ entries_from (suc h) xs) ++ entries_by k p) n

abbrev pub marks_of : PlacedLayer → List Placed
marks_of row = row.marks.items

-- the annotations of one holder more
pub entries_more : (rows : List PlacedLayer) (i : ℕ) (row : PlacedLayer) → i < length rows → row ≡ get_or rows i row → (old new : List Entry) (placed : List Placed) → placed ≡ row.marks.items
    → old ≡ entries_from 0 (map marks_of (take i rows)) → new ≡ old ++ entries_by i placed → new ≡ entries_from 0 (map marks_of (take (i + 1) rows))
entries_more rows i row h at old new placed is so_far pushed =
    let front : List (List Placed) = map marks_of (take i rows) in
    let whole : map marks_of (take (i + 1) rows) ≡ front ++ row.marks.items ∷ [] =
    ap (map marks_of) (take_more rows i row h) ∙ map-append marks_of (take i rows) (get_or rows i row ∷ []) ∙ ap (λ r. front ++ marks_of r ∷ []) (sym at) in
    let long : length front ≡ i = length_map marks_of (take i rows) ∙ length-take-le i rows (omega arith) in
    let n : 0 + length front ≡ i = omega arith in
    pushed ∙ (λ j. so_far j ++ entries_by i (is j)) ∙ sym (ap (entries_from 0) whole ∙ entries_push 0 front row.marks.items ∙ ap (λ k. entries_from 0 front ++ entries_by k row.marks.items) n)

-- ---- the first of each place

abbrev at_place : ℕ → Entry → Bool
at_place place entry = eqb entry.place place

turned : (a b : ℕ) → eqb a b ≡ eqb b a
turned a b = elim (eqb_tells a b) [
  | inl p ↦ elim (eqb_tells b a) [ inl q ↦ p.0 ∙ sym q.0 | inr q ↦ absurd (q.1 (sym p.1)) ]
  | inr p ↦ elim (eqb_tells b a) [ inl q ↦ absurd (p.1 (sym q.1)) | inr q ↦ p.0 ∙ sym q.0 ]
]

-- what one more before it leaves of the last
left_over : (x e : Entry) (b : Bool) → filter (λ o. not (eqb o.place x.place)) (cond b [] (e ∷ [])) ≡ cond (eqb x.place e.place || b) [] (e ∷ [])
left_over x e b =
    elim b as (λ s. filter (λ o. not (eqb o.place x.place)) (cond s [] (e ∷ [])) ≡ cond (eqb x.place e.place || s) [] (e ∷ [])) [
      | true ↦ elim (eqb x.place e.place) as (λ t. [] ≡ cond (t || true) [] (e ∷ [])) [ true ↦ refl | false ↦ refl ]
      | false ↦ ap (λ t. cond (not t) (e ∷ []) []) (turned e.place x.place) ∙ unless (eqb x.place e.place)
    ]
  where
    unless : (t : Bool) → cond (not t) (e ∷ []) [] ≡ cond (t || false) [] (e ∷ [])
    unless true = refl
    unless false = refl

pub firsts_push : (xs : List Entry) (e : Entry) → firsts_at (xs ++ e ∷ []) ≡ firsts_at xs ++ cond (list_any (at_place e.place) xs) [] (e ∷ [])
firsts_push [] e = refl
firsts_push (x ∷ xs) e =
    ap (λ ys. x ∷ filter (λ o. not (eqb o.place x.place)) ys) (firsts_push xs e)
    ∙ ap (λ ys. x ∷ ys) (filter-append (λ (o : Entry). not (eqb o.place x.place)) (firsts_at xs) (cond (list_any (at_place e.place) xs) [] (e ∷ [])))
    ∙ ap (λ ys. x ∷ (filter (λ o. not (eqb o.place x.place)) (firsts_at xs) ++ ys)) (left_over x e (list_any (at_place e.place) xs))

or_false : (b : Bool) → (b || false) ≡ b
or_false true = refl
or_false false = refl

or_true : (b : Bool) → (b || true) ≡ true
or_true true = refl
or_true false = refl

-- one annotation more
module _ (entries : List Entry) (i : ℕ) (e : Entry) (h : i < length entries) (at : e ≡ get_or entries i e) (count : ℕ) (within : All (λ o. o.place < count) entries)
    (seen : List Bool) (long : length seen ≡ count) (so_far : (q : ℕ) → get_or seen q false ≡ list_any (at_place q) (take i entries)) (here : Bool) (is : here ≡ get_or seen e.place here) where
  more : take i entries ++ e ∷ [] ≡ take (i + 1) entries
  more = sym (take_more entries i e h ∙ ap (λ o. take i entries ++ o ∷ []) (sym at))

  small : e.place < length seen
  small = let l : e.place < count = subst (λ o. o.place < count) (sym at) (within i e h) in omega arith

  known : list_any (at_place e.place) (take i entries) ≡ here
  known = sym (so_far e.place) ∙ any_default seen e.place false here small ∙ sym is

  others : (q : ℕ) → (e.place ≡ q → ⊥) → get_or seen q false ≡ list_any (at_place q) (take (i + 1) entries)
  others q n = elim (eqb_tells e.place q) [
    | inl p ↦ absurd (n p.1)
    | inr p ↦ so_far q ∙ sym (ap (list_any (at_place q)) (sym more) ∙ any_append (at_place q) (take i entries) e ∙ ap (λ b. list_any (at_place q) (take i entries) || b) p.0 ∙ or_false (list_any (at_place q) (take i entries)))
  ]

  itself : (q : ℕ) → e.place ≡ q → list_any (at_place q) (take (i + 1) entries) ≡ true
  itself q p = elim (eqb_tells e.place q) [
    | inl t ↦ ap (list_any (at_place q)) (sym more) ∙ any_append (at_place q) (take i entries) e ∙ ap (λ b. list_any (at_place q) (take i entries) || b) t.0 ∙ or_true (list_any (at_place q) (take i entries))
    | inr t ↦ absurd (t.1 p)
  ]

  pub seen_put : (q : ℕ) → get_or (set seen e.place true) q false ≡ list_any (at_place q) (take (i + 1) entries)
  seen_put q = elim (eqb_tells e.place q) [
    | inl p ↦ ap (λ k. get_or (set seen e.place true) k false) (sym p.1) ∙ get_or-set_same seen e.place true false small ∙ sym (itself q p.1)
    | inr p ↦ get_or-set_other seen e.place q true false (λ s. p.1 (sym s)) ∙ others q p.1
  ]

  pub seen_kept : here ≡ true → (q : ℕ) → get_or seen q false ≡ list_any (at_place q) (take (i + 1) entries)
  seen_kept t q = elim (eqb_tells e.place q) [
    | inl p ↦ ap (λ k. get_or seen k false) (sym p.1) ∙ so_far e.place ∙ known ∙ t ∙ sym (itself q p.1)
    | inr p ↦ others q p.1
  ]

  pub firsts_put : here ≡ false → (old new : List Entry) → old ≡ firsts_at (take i entries) → new ≡ old ++ e ∷ [] → new ≡ firsts_at (take (i + 1) entries)
  firsts_put f old new so pushed =
      pushed ∙ ap (λ ys. ys ++ e ∷ []) so ∙ sym (ap firsts_at (sym more) ∙ firsts_push (take i entries) e ∙ ap (λ b. firsts_at (take i entries) ++ cond b [] (e ∷ [])) (known ∙ f))

  pub firsts_kept : here ≡ true → (old : List Entry) → old ≡ firsts_at (take i entries) → old ≡ firsts_at (take (i + 1) entries)
  firsts_kept t old so =
      so ∙ sym (ap firsts_at (sym more) ∙ firsts_push (take i entries) e ∙ ap (λ b. firsts_at (take i entries) ++ cond b [] (e ∷ [])) (known ∙ t) ∙ append_none (firsts_at (take i entries)))
