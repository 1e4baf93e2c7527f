-- The places of a sort, and what two lists of places have in common.
use Rattle.std.proofs.Common.{◌≡◌, ℕ, ◌+◌, ◌<◌, ◌≤◌, ◌^◌, Bool, true, false, not, cond, ◌||◌, List, [], ◌∷◌, map, length, get_or, set, replicate, take, All, refl, sym, ap, subst, ◌∙◌, arith, eqb, inl, inr}
use Rattle.std.specs.List.{filter, count_by, list_any}
use Rattle.std.specs.FinMap as finite
use Rattle.std.proofs.lemmas.List.{length-map, get_or-set_same, get_or-set_other, get_or-replicate, get_or_past, length-append, length-replicate}
use Rattle.std.proofs.lemmas.List.Elements.{All-head, All-tail, All-map, All-filter}
use Rattle.std.proofs.lemmas.List.Sums.{sum_by-cons, length-filter, count_by-le-length}
use Rattle.std.proofs.lemmas.List.Folds.{list_any_more}
use Rattle.std.proofs.lemmas.Bool.{cases_lt, cases_eq, eq-eqb, ne_eqb, or_right}
use Rattle.std.proofs.lemmas.Bool.Decides.{eqb_tells}
use Rattle.mark_base.specs.declared.ann_id.AnnId.{AnnId}
use Rattle.layer_model.specs.Annotations.{Annotations}
use Rattle.content_keys.specs.declared.placed_layer.Placed.{Placed}
use Rattle.content_keys.specs.LayerContents.{contents_of}
use Rattle.content_keys.specs.Places.{contents_at}
use Rattle.match_scores.specs.declared.sort.Sort.{Sort}
use Rattle.match_scores.specs.declared.places.Places.{Places}
use Rattle.match_scores.specs.Matches.{contents_of_sort, count_alone, count_shared, is_of_sort, stands_in}
use Rattle.match_scores.specs.Places.{ArePlaces, AreHere, IsFew, is_here, places_of}

-- no content has two places
abbrev pub Differ : List ℕ → Type 0
Differ contents = (i j : ℕ) → i < length contents → j < length contents → get_or contents i 0 ≡ get_or contents j 0 → i ≡ j

-- ---- the places of a sort

-- the contents at the places of a sort are those of the marks of the sort
places_read : (contents : List ℕ) (sort : Sort) (marks : List Placed) → map (λ place. get_or contents place 0) (places_of sort marks) ≡ map (λ (e : AnnId × ℕ). e.1) (filter (λ (e : AnnId × ℕ). is_of_sort sort e.0.kind) (contents_at contents marks))
places_read contents sort [] = refl
places_read contents sort (m ∷ ms) =
    let rest : List Placed = filter (λ (x : Placed). is_of_sort sort x.id.kind) ms in
    let others : List (AnnId × ℕ) = filter (λ (e : AnnId × ℕ). is_of_sort sort e.0.kind) (contents_at contents ms) in
    elim (is_of_sort sort m.id.kind) as (λ b. map (λ place. get_or contents place 0) (map (λ (x : Placed). x.place) (cond b (m ∷ rest) rest)) ≡ map (λ (e : AnnId × ℕ). e.1) (cond b ((m.id, get_or contents m.place 0) ∷ others) others)) [
      | true ↦ ap (λ l. get_or contents m.place 0 ∷ l) (places_read contents sort ms)
      | false ↦ places_read contents sort ms
    ]

-- so they are those of a layer that was placed
pub places_are : (contents : List ℕ) (sort : Sort) (marks : List Placed) (layer : Annotations) → contents_at contents marks ≡ contents_of layer → map (λ place. get_or contents place 0) (places_of sort marks) ≡ contents_of_sort layer sort
unfolding contents_of_sort
places_are contents sort marks layer e =
    places_read contents sort marks ∙ ap (λ es. map (λ (e : AnnId × ℕ). e.1) (filter (λ (e : AnnId × ℕ). is_of_sort sort e.0.kind) es)) e

pub places_within : (n : ℕ) (sort : Sort) (marks : List Placed) → All (λ (m : Placed). m.place < n) marks → All (λ place. place < n) (places_of sort marks)
places_within n sort marks h =
    All-map (λ place. place < n) (λ (m : Placed). m.place) (filter (λ (m : Placed). is_of_sort sort m.id.kind) marks)
    (All-filter (λ (m : Placed). is_of_sort sort m.id.kind) (λ (m : Placed). m.place < n) marks h)

-- ---- marks at places

or_none : (x : Bool) → (x || false) ≡ x
or_none true = refl
or_none false = refl

pub marked_none : (count : ℕ) → AreHere [] (replicate count false)
unfolding stands_in
marked_none count = λ place.
    elim (cases_lt place count) [
      | inl h ↦ get_or-replicate count place false false h
      | inr h ↦ get_or_past (replicate count false) place false (omega (arith, length-replicate count false))
    ]

pub marked_more : (places : List ℕ) (here : List Bool) (i p : ℕ) → i < length places → p ≡ get_or places i 0 → p < length here → AreHere (take i places) here → AreHere (take (i + 1) places) (set here p true)
unfolding stands_in
marked_more places here i p h is inside so_far = λ place.
    let before : Bool = list_any (λ other. eqb other place) (take i places) in
    let more : list_any (λ other. eqb other place) (take (i + 1) places) ≡ (before || eqb (get_or places i 0) place) = list_any_more (λ other. eqb other place) places i 0 h in
    elim (cases_eq place p) [
      | inl e ↦
          let hit : eqb (get_or places i 0) place ≡ true = eq-eqb (get_or places i 0) place (sym is ∙ sym e) in
          ap (λ k. get_or (set here p true) k false) e ∙ get_or-set_same here p true false inside ∙ sym (more ∙ or_right before (eqb (get_or places i 0) place) hit)
      | inr ne ↦
          let miss : eqb (get_or places i 0) place ≡ false = ne_eqb (get_or places i 0) place (λ e. ne (sym e ∙ sym is)) in
          get_or-set_other here p place true false ne ∙ so_far place ∙ sym (more ∙ ap (λ b. before || b) miss ∙ or_none before)
    ]

-- ---- counts

-- two tests that pass together are one
same_test : (a b c d : ℕ) → (a ≡ b → c ≡ d) → (c ≡ d → a ≡ b) → eqb a b ≡ eqb c d
same_test a b c d there back =
    elim (eqb_tells a b) [
      | inl p ↦ elim (eqb_tells c d) [
        | inl q ↦ p.0 ∙ sym q.0
        | inr q ↦ absurd (q.1 (there p.1))
      ]
      | inr p ↦ elim (eqb_tells c d) [
        | inl q ↦ absurd (p.1 (back q.1))
        | inr q ↦ p.0 ∙ sym q.0
      ]
    ]

-- a place stands among places exactly where its content stands among theirs
stands_at : (contents : List ℕ) → Differ contents → (places : List ℕ) → All (λ place. place < length contents) places → (place : ℕ) → place < length contents → stands_in places place ≡ stands_in (map (λ p. get_or contents p 0) places) (get_or contents place 0)
unfolding stands_in
stands_at contents differ [] within place h = refl
stands_at contents differ (p ∷ ps) within place h =
    let here : p < length contents = All-head (λ place. place < length contents) p ps within in
    let test : eqb p place ≡ eqb (get_or contents p 0) (get_or contents place 0) =
    same_test p place (get_or contents p 0) (get_or contents place 0) (λ e. ap (λ k. get_or contents k 0) e) (λ e. differ p place here h e) in
    let rest : list_any (λ other. eqb other place) ps ≡ list_any (λ other. eqb other (get_or contents place 0)) (map (λ p. get_or contents p 0) ps) =
    stands_at contents differ ps (All-tail (λ place. place < length contents) p ps within) place h in
    cc

-- a count of a list and of its image, where the tests agree
count_agree : (p q : ℕ → Bool) (f : ℕ → ℕ) (xs : List ℕ) → All (λ x. p x ≡ q (f x)) xs → count_by p xs ≡ count_by q (map f xs)
count_agree p q f [] h = refl
count_agree p q f (x ∷ xs) h =
    sum_by-cons (λ x. cond (p x) 1 0) x xs
    ∙ (λ i. cond (All-head (λ x. p x ≡ q (f x)) x xs h i) 1 0 + count_agree p q f xs (All-tail (λ x. p x ≡ q (f x)) x xs h) i)
    ∙ sym (sum_by-cons (λ y. cond (q y) 1 0) (f x) (map f xs))

module _ (contents : List ℕ) (differ : Differ contents) (sort : Sort) (l m : Annotations) (P Q : Places) (here : ArePlaces contents l sort P) (there : ArePlaces contents m sort Q) where
  -- each place of the one is marked by the other exactly where its content stands there
  agrees : All (λ place. is_here Q.here.items place ≡ stands_in (map (λ p. get_or contents p 0) Q.list.items) (get_or contents place 0)) P.list.items
  agrees = λ k d h. there.here (get_or P.list.items k d) ∙ stands_at contents differ Q.list.items there.within (get_or P.list.items k d) (here.within k d h)

  pub shared_is : count_by (λ place. is_here Q.here.items place) P.list.items ≡ count_shared (contents_of_sort l sort) (contents_of_sort m sort)
  unfolding count_shared
  shared_is =
      count_agree (λ place. is_here Q.here.items place) (λ c. stands_in (map (λ p. get_or contents p 0) Q.list.items) c) (λ p. get_or contents p 0) P.list.items agrees
      ∙ (λ i. count_by (λ c. stands_in (there.contents i) c) (here.contents i))

  pub alone_is : count_by (λ place. not (is_here Q.here.items place)) P.list.items ≡ count_alone (contents_of_sort l sort) (contents_of_sort m sort)
  unfolding count_alone
  alone_is =
      count_agree (λ place. not (is_here Q.here.items place)) (λ c. not (stands_in (map (λ p. get_or contents p 0) Q.list.items) c)) (λ p. get_or contents p 0) P.list.items (λ k d h. ap not (agrees k d h))
      ∙ (λ i. count_by (λ c. not (stands_in (there.contents i) c)) (here.contents i))

-- ---- few annotations

pub sort_few : (l : Annotations) (sort : Sort) → length (contents_of_sort l sort) ≤ length (contents_of l)
unfolding contents_of_sort
sort_few l sort =
    let p : AnnId × ℕ → Bool = λ e. is_of_sort sort e.0.kind in
    omega (arith, length-map (filter p (contents_of l)) (λ (e : AnnId × ℕ). e.1), length-filter p (contents_of l), count_by-le-length p (contents_of l))

pub contents_few : (l : Annotations) → finite.len l.spans < 2 ^ 32 → finite.len l.events < 2 ^ 32 → finite.len l.relations < 2 ^ 32 → finite.len l.attributes < 2 ^ 32 → finite.len l.legacy < 2 ^ 32 → finite.len l.normals < 2 ^ 32 → IsFew l
unfolding IsFew
contents_few l a b c d e f =
    simp (length-map, length-append) (omega (arith, finite.len-entries l.spans, finite.len-entries l.events, finite.len-entries l.relations, finite.len-entries l.attributes, finite.len-entries l.legacy, finite.len-entries l.normals))

-- ---- what was placed of a sort

pub placed_sort : (table : List ℕ) (layer : Annotations) (sort : Sort) (marks seen : List Placed) (P : Places) → seen ≡ marks → contents_at table marks ≡ contents_of layer → All (λ (m : Placed). m.place < length table) marks → P.list.items ≡ places_of sort seen → AreHere P.list.items P.here.items → ArePlaces table layer sort P
placed_sort table layer sort marks seen P same contents within list here =
    let e : P.list.items ≡ places_of sort marks = list ∙ ap (places_of sort) same in
    let W : List ℕ → Type 0 = λ l. All (λ place. place < length table) l in
    record {
      contents = ap (map (λ place. get_or table place 0)) e ∙ places_are table sort marks layer contents;
      within = subst W (sym e) (places_within (length table) sort marks within);
      here = here;
    }
