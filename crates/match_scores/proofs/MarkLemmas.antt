-- The places of layers, as the table grows and as layers come and go.
use Rattle.std.proofs.Common.{◌≡◌, ℕ, ◌+◌, ◌*◌, ◌<◌, ◌≤◌, not, List, [], ◌∷◌, ◌++◌, replicate, map, length, length-set, length-take, get_or, set, All, refl, sym, ap, ◌∙◌, arith, subst, inl, inr, Option, Some, None}
use Rattle.std.specs.Option.{IfSome}
use Rattle.std.proofs.lemmas.List.{get_or-set_same, get_or-set_other, get_or-take, get_or_append_left, get_or_push, length_push, length-replicate, get_or-replicate, get_or_past}
use Rattle.std.proofs.lemmas.Nat.{mul-add-lt, same_from_place}
use Rattle.std.specs.List.{count_by}
use Rattle.std.proofs.lemmas.List.Elements.{All-head, All-tail}
use Rattle.std.proofs.lemmas.Bool.{cases_eq, cases_lt}
use Rattle.layer_model.specs.Annotations.{Annotations}
use Rattle.layer_model.specs.Coherent.{IsCoherent}
use Rattle.content_keys.specs.Tables.{Starts}
use Rattle.match_scores.specs.declared.sort.Sort.{Sort}
use Rattle.match_scores.specs.declared.sort.Sort.TheVariants.{Spans, Events, Relations}
use Rattle.match_scores.specs.declared.places.Places.{Places}
use Rattle.match_scores.specs.declared.layer_in_table.Marks.{Marks}
use Rattle.match_scores.specs.declared.tally.Tallies.{Tallies}
use Rattle.match_scores.specs.Matches.{Part, Both, FirstOnly, SecondOnly, matched}
use Rattle.match_scores.specs.Standing.{Layers, layer_of}
use Rattle.match_scores.specs.Places.{AreCoherent, AreMarked, ArePlaces, IsMarked, Moves, count_places, is_here, marks_at, met, places_in}
use Rattle.match_scores.specs.Counted.{Shifts}
use Rattle.match_scores.specs.Tallies.{IsSquare, cell, no_tallies, part_of, read}
use Rattle.match_scores.proofs.PlaceLemmas.{Differ, alone_is, shared_is}

-- ---- a table that grows keeps the places

module _ (old new : List ℕ) (grown : Starts old new) where
  longer : length old ≤ length new
  longer = omega (arith, length-take (length old) new, ap length grown)

  kept : (i : ℕ) → i < length old → get_or new i 0 ≡ get_or old i 0
  kept i h = sym (get_or-take (length old) new i 0 h) ∙ ap (λ l. get_or l i 0) grown

  all_kept : (places : List ℕ) → All (λ place. place < length old) places → map (λ place. get_or new place 0) places ≡ map (λ place. get_or old place 0) places
  all_kept [] h = refl
  all_kept (p ∷ ps) h =
      λ i. kept p (All-head (λ place. place < length old) p ps h) i ∷ all_kept ps (All-tail (λ place. place < length old) p ps h) i

  places_kept : (l : Annotations) (sort : Sort) (P : Places) → ArePlaces old l sort P → ArePlaces new l sort P
  places_kept l sort P a = record {
    contents = all_kept P.list.items a.within ∙ a.contents;
    within = λ k d h. let w : get_or P.list.items k d < length old = a.within k d h in let w' : length old ≤ length new = longer in omega arith;
    here = a.here;
  }

  marks_kept : (o : Option Annotations) (m : Option Marks) → IsMarked old o m → IsMarked new o m
  marks_kept None None h = h
  marks_kept None (Some m) h = h
  marks_kept (Some l) None h = h
  marks_kept (Some l) (Some m) h = record { whole = h.whole; sorts = λ sort. places_kept l sort (places_in m sort) (h.sorts sort); few = h.few; size = h.size }

  pub marked_kept : (layers : Layers) (marks : List (Option Marks)) → AreMarked old layers marks → AreMarked new layers marks
  marked_kept layers marks a = record { long = a.long; each = λ rater h. marks_kept (layer_of layers rater) (get_or marks rater None) (a.each rater h) }

-- ---- one layer in the place of another

pub marked_set : (contents : List ℕ) (layers : Layers) (marks : List (Option Marks)) (rater : ℕ) (o : Option Annotations) (m : Option Marks) → AreMarked contents layers marks → rater < length layers → IsMarked contents o m → AreMarked contents (set layers rater o) (set marks rater m)
marked_set contents layers marks rater o m a h here = record {
  long = length-set marks rater m ∙ a.long ∙ sym (length-set layers rater o);
  each = λ k l.
      let inside : k < length layers = omega (arith, length-set layers rater o) in
      let long = a.long in
      elim (cases_eq k rater) [
        | inl e ↦
            let P : ℕ → Type 0 = λ j. IsMarked contents (get_or (set layers rater o) j None) (get_or (set marks rater m) j None) in
            let there : P rater = rw (get_or-set_same layers rater o None h, get_or-set_same marks rater m None (omega (arith, a.long))) here in
            subst P (sym e) there
        | inr ne ↦ rw (get_or-set_other layers rater k o None ne, get_or-set_other marks rater k m None ne) (a.each k inside)
      ];
}

-- ---- counts by places are counts by contents

pub met_is : (contents : List ℕ) → Differ contents → (sort : Sort) (part : Part) (o p : Option Annotations) (m n : Option Marks) → IsMarked contents o m → IsMarked contents p n → met sort part m n ≡ matched sort part o p
unfolding met matched
met_is contents differ sort part None p None n h k = refl
met_is contents differ sort part None p (Some m) n h k = absurd h
met_is contents differ sort part (Some l) p None n h k = absurd h
met_is contents differ sort part (Some l) None (Some m) None h k = refl
met_is contents differ sort part (Some l) None (Some m) (Some n) h k = absurd k
met_is contents differ sort part (Some l) (Some j) (Some m) None h k = absurd k
met_is contents differ sort Both (Some l) (Some j) (Some m) (Some n) h k = shared_is contents differ sort l j (places_in m sort) (places_in n sort) (h.sorts sort) (k.sorts sort)
met_is contents differ sort FirstOnly (Some l) (Some j) (Some m) (Some n) h k = alone_is contents differ sort l j (places_in m sort) (places_in n sort) (h.sorts sort) (k.sorts sort)
met_is contents differ sort SecondOnly (Some l) (Some j) (Some m) (Some n) h k = alone_is contents differ sort j l (places_in n sort) (places_in m sort) (k.sorts sort) (h.sorts sort)

-- of two raters of a document
pub met_at : (contents : List ℕ) → Differ contents → (layers : Layers) (marks : List (Option Marks)) → AreMarked contents layers marks → (a b : ℕ) (sort : Sort) (part : Part) → a < length layers → b < length layers → met sort part (marks_at marks a) (marks_at marks b) ≡ matched sort part (layer_of layers a) (layer_of layers b)
met_at contents differ layers marks are a b sort part ha hb =
    met_is contents differ sort part (layer_of layers a) (layer_of layers b) (marks_at marks a) (marks_at marks b) (are.each a ha) (are.each b hb)

-- the counts change with the layers as with their places
pub moves_shift : (contents : List ℕ) → Differ contents → (raters : ℕ) (old new : List Tallies) (layers others : Layers) (marks after : List (Option Marks)) → AreMarked contents layers marks → AreMarked contents others after → length layers ≡ raters → length others ≡ raters → Moves raters old new marks after → Shifts raters old new layers others
moves_shift contents differ raters old new layers others marks after are will long long' moves = λ a b sort part h k.
    let e = met_at contents differ layers marks are a b sort part (omega arith) (omega arith) in
    let f = met_at contents differ others after will a b sort part (omega arith) (omega arith) in
    ap (λ n. cell raters new a b sort part + n) (sym e) ∙ moves a b sort part h k ∙ ap (λ n. cell raters old a b sort part + n) f

-- ---- what stands

whole_of : (table : List ℕ) (o : Option Annotations) (m : Option Marks) → IsMarked table o m → IfSome o IsCoherent
whole_of table None m h = tt
whole_of table (Some l) None h = absurd h
whole_of table (Some l) (Some m) h = h.whole

pub coherent_of : (contents : List ℕ) (layers : Layers) (marks : List (Option Marks)) → AreMarked contents layers marks → AreCoherent layers
coherent_of contents layers marks are = λ rater.
    let P : Option Annotations → Type 0 = λ o. IfSome o IsCoherent in
    elim (cases_lt rater (length layers)) [
      | inl h ↦ whole_of contents (layer_of layers rater) (get_or marks rater None) (are.each rater h)
      | inr h ↦ subst P (sym (get_or_past layers rater None h)) tt
    ]

-- one layer more
pub marked_push : (table : List ℕ) (layers : Layers) (marks : List (Option Marks)) (o : Option Annotations) (m : Option Marks) → AreMarked table layers marks → IsMarked table o m → AreMarked table (layers ++ o ∷ []) (marks ++ m ∷ [])
marked_push table layers marks o m are here = record {
  long = length_push marks m ∙ ap (λ n. n + 1) are.long ∙ sym (length_push layers o);
  each = λ rater h.
      let long = are.long in
      let more : rater < length layers + 1 = omega (arith, length_push layers o) in
      elim (cases_lt rater (length layers)) [
        | inl l ↦
            let l' : rater < length marks = omega arith in
            rw (get_or_append_left layers (o ∷ []) None rater l, get_or_append_left marks (m ∷ []) None rater l') (are.each rater l)
        | inr l ↦
            let e : length layers ≡ rater = omega arith in
            let e' : length marks ≡ rater = omega arith in
            rw (get_or_push layers o None rater e, get_or_push marks m None rater e') here
      ];
}

pub marked_none : (table : List ℕ) → AreMarked table [] []
marked_none table = record { long = refl; each = λ rater h. absurd (omega arith) }

pub vacant_marked : (table : List ℕ) (raters : ℕ) → AreMarked table (replicate raters None) (replicate raters None)
vacant_marked table raters = record {
  long = length-replicate {A = Option Marks} raters None ∙ sym (length-replicate {A = Option Annotations} raters None);
  each = λ rater h.
      let inside : rater < raters = omega (arith, length-replicate {A = Option Annotations} raters None) in
      rw (get_or-replicate {A = Option Annotations} raters rater None None inside, get_or-replicate {A = Option Marks} raters rater None None inside) tt;
}

-- ---- tallies

pub nothing_read : (sort : Sort) (part : Part) → read no_tallies sort part ≡ 0
nothing_read Spans Both = refl
nothing_read Spans FirstOnly = refl
nothing_read Spans SecondOnly = refl
nothing_read Events Both = refl
nothing_read Events FirstOnly = refl
nothing_read Events SecondOnly = refl
nothing_read Relations Both = refl
nothing_read Relations FirstOnly = refl
nothing_read Relations SecondOnly = refl

pub met_first_none : (sort : Sort) (part : Part) (o p : Option Marks) → o ≡ None → read no_tallies sort part ≡ met sort part o p
unfolding met
met_first_none sort part o p e = nothing_read sort part ∙ ap (λ q. met sort part q p) (sym e)

second_none : (sort : Sort) (part : Part) (o : Option Marks) → met sort part o None ≡ 0
unfolding met
second_none sort part None = refl
second_none sort part (Some m) = refl

pub met_second_none : (sort : Sort) (part : Part) (o p : Option Marks) → p ≡ None → read no_tallies sort part ≡ met sort part o p
met_second_none sort part o p e = nothing_read sort part ∙ sym (second_none sort part o) ∙ ap (λ q. met sort part o q) (sym e)

pub met_read : (o p : Option Marks) (m n : Marks) → o ≡ Some m → p ≡ Some n → (r : Tallies) → ((part : Part) → part_of r.spans part ≡ count_places part m.spans n.spans) → ((part : Part) → part_of r.events part ≡ count_places part m.events n.events) → ((part : Part) → part_of r.relations part ≡ count_places part m.relations n.relations) → (sort : Sort) (part : Part) → read r sort part ≡ met sort part o p
unfolding met
met_read o p m n ho hp r s e t Spans part = s part ∙ (λ i. met Spans part (sym ho i) (sym hp i))
met_read o p m n ho hp r s e t Events part = e part ∙ (λ i. met Events part (sym ho i) (sym hp i))
met_read o p m n ho hp r s e t Relations part = t part ∙ (λ i. met Relations part (sym ho i) (sym hp i))

pub tally_read : (P Q : Places) (both first second : ℕ) → both ≡ count_by (λ place. is_here Q.here.items place) P.list.items → first ≡ count_by (λ place. not (is_here Q.here.items place)) P.list.items → second ≡ count_by (λ place. not (is_here P.here.items place)) Q.list.items → (part : Part) → part_of (record { both = both; first_only = first; second_only = second }) part ≡ count_places part P Q
tally_read P Q both first second b f s Both = b
tally_read P Q both first second b f s FirstOnly = f
tally_read P Q both first second b f s SecondOnly = s

pub marks_sorts : (table : List ℕ) (layer : Annotations) (m : Marks) → ArePlaces table layer Spans m.spans → ArePlaces table layer Events m.events → ArePlaces table layer Relations m.relations → (sort : Sort) → ArePlaces table layer sort (places_in m sort)
marks_sorts table layer m s e r Spans = s
marks_sorts table layer m s e r Events = e
marks_sorts table layer m s e r Relations = r

pub moved_read : (self less more r : Tallies) → ((part : Part) → part_of r.spans part + part_of less.spans part ≡ part_of self.spans part + part_of more.spans part) → ((part : Part) → part_of r.events part + part_of less.events part ≡ part_of self.events part + part_of more.events part) → ((part : Part) → part_of r.relations part + part_of less.relations part ≡ part_of self.relations part + part_of more.relations part) → (sort : Sort) (part : Part) → read r sort part + read less sort part ≡ read self sort part + read more sort part
moved_read self less more r s e t Spans part = s part
moved_read self less more r s e t Events part = e part
moved_read self less more r s e t Relations part = t part

-- ---- cells

pub cell_here : (raters : ℕ) (totals : List Tallies) (a b : ℕ) (t : Tallies) (sort : Sort) (part : Part) → IsSquare raters totals → a < raters → b < raters → cell raters (set totals (a * raters + b) t) a b sort part ≡ read t sort part
unfolding cell
cell_here raters totals a b t sort part square ha hb =
    let inside : a * raters + b < length totals = rw square (mul-add-lt a raters b raters ha hb) in
    ap (λ x. read x sort part) (get_or-set_same totals (a * raters + b) t no_tallies inside)

pub cell_other : (raters : ℕ) (totals : List Tallies) (a b p q : ℕ) (t : Tallies) (sort : Sort) (part : Part) → b < raters → q < raters → ((p ≡ a) × (q ≡ b) → ⊥) → cell raters (set totals (a * raters + b) t) p q sort part ≡ cell raters totals p q sort part
unfolding cell
cell_other raters totals a b p q t sort part hb hq ne =
    ap (λ x. read x sort part) (get_or-set_other totals (a * raters + b) (p * raters + q) t no_tallies (λ e. ne (same_from_place p q a b raters hq hb e)))

empty_at : (n k : ℕ) → get_or (replicate n no_tallies) k no_tallies ≡ no_tallies
empty_at n k =
    elim (cases_lt k n) [
      | inl h ↦ get_or-replicate n k no_tallies no_tallies h
      | inr h ↦ get_or_past (replicate n no_tallies) k no_tallies (omega (arith, length-replicate n no_tallies))
    ]

pub empty_cells : (raters n : ℕ) (totals : List Tallies) → totals ≡ replicate n no_tallies → (a b : ℕ) (sort : Sort) (part : Part) → cell raters totals a b sort part ≡ 0
unfolding cell
empty_cells raters n totals e a b sort part =
    ap (λ l. read (get_or l (a * raters + b) no_tallies) sort part) e ∙ ap (λ x. read x sort part) (empty_at n (a * raters + b)) ∙ nothing_read sort part
