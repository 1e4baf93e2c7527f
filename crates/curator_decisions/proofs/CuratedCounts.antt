-- How many annotations of a letter a layer has, and how many of them are items.
use Rattle.std.proofs.Common.{◌≡◌, ℕ, zero, suc, ◌+◌, ◌<◌, ◌*◌, ◌≤◌, ◌⊎◌, ◌==◌, ◌&&◌, min, eq-eqb, Bool, true, false, cond, T, List, [], ◌∷◌, ◌++◌, map, length, slice_get, refl, sym, ◌∙◌, ap, subst, inl, inr, Option, Some, None, is_some, arith}
use Rattle.std.specs.Option.{option_map, option_map_or, option_and_then}
use Rattle.std.specs.List.{count_by}
use Rattle.std.specs.Ordering.{nat_cmp, is_lt}
use Rattle.std.specs.Cmp.{ranked}
use Rattle.std.specs.declared.cmp.Ordering.TheVariants.{Less, Equal, Greater}
use Rattle.std.specs.Map.{keys_of}
use Rattle.std.specs.FinMap as finite
use Rattle.std.specs.FinMap.{entries_sorted}
use Rattle.std.specs.FinMap.Entries.{below_all, is_sorted}
use Rattle.mark_base.specs.declared.ann_id.AnnId.{AnnId}
use Rattle.mark_base.specs.declared.ann_id.Kind.{Kind}
use Rattle.mark_base.specs.declared.ann_id.Kind.TheVariants as letter
use Rattle.mark_base.specs.ReadIds.{id_at}
use Rattle.layer_model.specs.declared.mark.Mark.{Mark}
use Rattle.layer_model.specs.declared.mark.Mark.TheVariants as marked
use Rattle.layer_model.specs.declared.rule.Rule.TheVariants.{LayerFull}
use Rattle.layer_model.specs.declared.flaw.FlawPlace.TheVariants as at
use Rattle.layer_model.specs.Annotations.{Annotations}
use Rattle.layer_model.specs.Classes.{letter_place, rank}
use Rattle.layer_model.specs.Layers.{IsLayer, mark_at, mark_of, numbers}
use Rattle.layer_model.specs.LayerIds.{ids_of_letter}
use Rattle.layer_rules.specs.LayerRules.{counted_letter, counted_with, is_id, layer_full}
use Rattle.layer_rules.specs.WellFormed.{Never, at_layer_full}
use Rattle.content_keys.specs.Nodes.{IsIn}
use Rattle.content_keys.specs.LayerContents.{content_of, ids_of}
use Rattle.content_keys.proofs.BagLemmas.{map-IsIn, IsIn-either}
use Rattle.unanimous_merge.specs.Items.{Held, held_by, held_from, leaders}
use Rattle.unanimous_merge.specs.Readings.{contents, reading_of, readings}
use Rattle.unanimous_merge.proofs.ListLemmas.{length_map}
use Rattle.curator_decisions.specs.Curated.{count_of_letter, curated_letter, letter_of_item}
use Rattle.curator_decisions.specs.Decisions.{Decided, is_in, items_in}
use Rattle.curator_decisions.proofs.CuratedItems.{count_firsts, is_less, left, right}
use Rattle.curator_decisions.proofs.ListLemmas.{bit, count_append, count_cons, count_filter}
use Rattle.curator_decisions.proofs.CuratedOwn.{count_map}
use Rattle.curator_decisions.proofs.CuratedParts.{Row, has_key, has_marked, so_none}

-- ---- what stands under a number of a letter

record IsFound (l : Annotations) (kind counted : Kind) (id : AnnId) : Type 0 where
  mark : Mark
  there : mark_at l id ≡ Some mark
  together : counted_with l id.kind ≡ counted_with l counted

-- the numbers of a layer are those of IDs
abbrev pub NumbersOfIds : Annotations → Type 0
NumbersOfIds l = (kind : Kind) (n : ℕ) (mark : Mark) → mark_of l kind n ≡ Some mark → n ≤ 999999999

pub layer_fits : (l : Annotations) → IsLayer l → NumbersOfIds l
layer_fits l is letter.Text n mark e = is.spans n (has_marked l letter.Text n mark e)
layer_fits l is letter.Event n mark e = is.events n (has_marked l letter.Event n mark e)
layer_fits l is letter.Relation n mark e = is.relations n (has_marked l letter.Relation n mark e)
layer_fits l is letter.Attribute n mark e = is.attributes n (has_marked l letter.Attribute n mark e)
layer_fits l is letter.Legacy n mark e = is.legacy n (has_marked l letter.Legacy n mark e)
layer_fits l is letter.Normal n mark e = is.normals n (has_marked l letter.Normal n mark e)
layer_fits l is letter.Note n mark e = is.notes n (has_marked l letter.Note n mark e)

found : {V : Type 0} (l : Annotations) (kind counted : Kind) (wrap : V → Mark) (m : finite.FinMap nat_cmp V) → ((n : ℕ) → mark_of l kind n ≡ option_map wrap (finite.get m n)) → NumbersOfIds l → counted_with l kind ≡ counted_with l counted
    → (id : AnnId) → IsIn id (map (id_at kind) (finite.keys m)) → IsFound l kind counted id
found {V} l kind counted wrap m same fits together id k =
    let r : (n : ℕ) × (IsIn n (finite.keys m) × (id ≡ id_at kind n)) = map-IsIn (id_at kind) id (finite.keys m) k in
    let there : finite.contains_key m r.0 ≡ true = has_key m r.0 r.1.0 in
    subst (IsFound l kind counted) (sym r.1.1) (by r.0 (finite.get m r.0) refl there)
  where
    by : (n : ℕ) (o : Option V) → finite.get m n ≡ o → is_some (finite.get m n) ≡ true → IsFound l kind counted (id_at kind n)
    by n None e t = absurd (let f : false ≡ true = sym (ap is_some e) ∙ t in cc)
    by n (Some v) e t =
        let is : mark_of l kind n ≡ Some (wrap v) = same n ∙ ap (option_map wrap) e in
        let small : n ≤ 999999999 = fits kind n (wrap v) is in
        let number : min n 999999999 ≡ n = omega arith in
        record { mark = wrap v; there = ap (mark_of l kind) number ∙ is; together = together }

any_found : (l : Annotations) → NumbersOfIds l → (counted : Kind) (id : AnnId) → IsIn id (counted_with l counted) → IsFound l counted counted id ⊎ IsFound l letter.Legacy counted id ⊎ IsFound l letter.Attribute counted id
any_found l fits letter.Text id k = inl (found l letter.Text letter.Text marked.Span l.spans (λ n. refl) fits refl id k)
any_found l fits letter.Event id k = inl (found l letter.Event letter.Event marked.Event l.events (λ n. refl) fits refl id k)
any_found l fits letter.Relation id k = inl (found l letter.Relation letter.Relation marked.Relation l.relations (λ n. refl) fits refl id k)
any_found l fits letter.Attribute id k = elim (IsIn-either id (ids_of_letter l letter.Attribute) (ids_of_letter l letter.Legacy) k) [
  | inl a ↦ inl (found l letter.Attribute letter.Attribute marked.Attribute l.attributes (λ n. refl) fits refl id a)
  | inr b ↦ inr (inl (found l letter.Legacy letter.Attribute marked.Attribute l.legacy (λ n. refl) fits refl id b))
]
any_found l fits letter.Legacy id k = elim (IsIn-either id (ids_of_letter l letter.Attribute) (ids_of_letter l letter.Legacy) k) [
  | inl a ↦ inr (inr (found l letter.Attribute letter.Legacy marked.Attribute l.attributes (λ n. refl) fits refl id a))
  | inr b ↦ inl (found l letter.Legacy letter.Legacy marked.Attribute l.legacy (λ n. refl) fits refl id b)
]
any_found l fits letter.Normal id k = inl (found l letter.Normal letter.Normal marked.Normal l.normals (λ n. refl) fits refl id k)
any_found l fits letter.Note id k = inl (found l letter.Note letter.Note marked.Note l.notes (λ n. refl) fits refl id k)

-- ---- a layer has at most 10,000 of each sort

some_within : {X : Type 0} (xs : List X) (i : ℕ) (o : Option X) → slice_get xs i ≡ o → (length xs ≤ i) ⊎ ((x : X) × (IsIn x xs × (slice_get xs i ≡ Some x)))
some_within [] i o e = inl (omega arith)
some_within (x ∷ xs) zero o e = inr (x, (inl refl, refl))
some_within (x ∷ xs) (suc i) o e = elim (some_within xs i o e) [
  | inl h ↦ inl (omega arith)
  | inr r ↦ inr (r.0, (inr r.1.0, r.1.1))
]

full : (l : Annotations) → Never (at_layer_full l) → (kind counted : Kind) (id : AnnId) → slice_get (counted_with l counted) 10000 ≡ Some id → IsFound l kind counted id → ⊥
full l nowhere kind counted id e f =
    so_none (option_map_or (is_id id) (slice_get (counted_with l id.kind) 10000) false) (LayerFull (counted_letter id.kind))
    (ap (λ ids. option_map_or (is_id id) (slice_get ids 10000) false) f.together ∙ ap (λ o. option_map_or (is_id id) o false) e ∙ eq-eqb (rank id) (rank id) refl)
    (sym (ap (option_and_then (layer_full l id)) f.there) ∙ nowhere (at.Mark id))

pub few_counted : (l : Annotations) → NumbersOfIds l → Never (at_layer_full l) → (kind : Kind) → length (counted_with l kind) ≤ 10000
few_counted l fits nowhere kind = elim (some_within (counted_with l kind) 10000 (slice_get (counted_with l kind) 10000) refl) [
  | inl h ↦ h
  | inr r ↦ absurd (elim (any_found l fits kind r.0 r.1.0) [
    | inl a ↦ full l nowhere kind kind r.0 r.1.1 a
    | inr b ↦ elim b [ inl m ↦ full l nowhere letter.Legacy kind r.0 r.1.1 m | inr m ↦ full l nowhere letter.Attribute kind r.0 r.1.1 m ]
  ])
]

-- ---- how many items of a letter there are

abbrev pub at_letter : ℕ → AnnId → Bool
at_letter place id = letter_place (curated_letter id.kind) == place

count_letter : (place : ℕ) (kind : Kind) (ns : List ℕ) → count_by (at_letter place) (map (id_at kind) ns) ≡ cond (letter_place (curated_letter kind) == place) (length ns) 0
count_letter place kind [] = elim (letter_place (curated_letter kind) == place) as (λ b. (let z : ℕ = 0 in z) ≡ cond b 0 0) [ true ↦ refl | false ↦ refl ]
count_letter place kind (n ∷ ns) =
    count_cons (at_letter place) (id_at kind n) (map (id_at kind) ns) ∙ ap (λ k. cond (letter_place (curated_letter kind) == place) 1 0 + k) (count_letter place kind ns)
    ∙ elim (letter_place (curated_letter kind) == place) as (λ b. bit b + cond b (length ns) 0 ≡ cond b (suc (length ns)) 0) [ true ↦ omega arith | false ↦ omega arith ]

abbrev some_of : ℕ → Annotations → Kind → ℕ
some_of place l kind = cond (letter_place (curated_letter kind) == place) (length (numbers l kind)) 0

count_ids : (place : ℕ) (l : Annotations)
    → count_by (at_letter place) (ids_of l) ≡ some_of place l letter.Text + (some_of place l letter.Event + (some_of place l letter.Relation + (some_of place l letter.Attribute + (some_of place l letter.Legacy + (some_of place l letter.Normal + 0)))))
count_ids place l =
    step letter.Text _ _ (step letter.Event _ _ (step letter.Relation _ _ (step letter.Attribute _ _ (step letter.Legacy _ _ (step letter.Normal [] 0 refl)))))
  where
    step : (kind : Kind) (ys : List AnnId) (rest : ℕ) → count_by (at_letter place) ys ≡ rest → count_by (at_letter place) (map (id_at kind) (numbers l kind) ++ ys) ≡ some_of place l kind + rest
    step kind ys rest e = count_append (at_letter place) (map (id_at kind) (numbers l kind)) ys ∙ (λ i. count_letter place kind (numbers l kind) i + e i)

pub length_letters : (l : Annotations) (kind : Kind) → length (ids_of_letter l kind) ≡ length (numbers l kind)
length_letters l kind = length_map (id_at kind) (numbers l kind)

pub length_append : {X : Type 0} (xs ys : List X) → length (xs ++ ys) ≡ length xs + length ys
length_append [] ys = omega arith
length_append (x ∷ xs) ys = let r : length (xs ++ ys) ≡ length xs + length ys = length_append xs ys in omega arith

pub few_ids : (l : Annotations) → ((kind : Kind) → length (counted_with l kind) ≤ 10000) → (kind : Kind) → count_by (at_letter (letter_place kind)) (ids_of l) ≤ 10000
few_ids l few letter.Text = let h : length (ids_of_letter l letter.Text) ≤ 10000 = few letter.Text in omega (arith, count_ids 0 l, h, length_letters l letter.Text)
few_ids l few letter.Event = let h : length (ids_of_letter l letter.Event) ≤ 10000 = few letter.Event in omega (arith, count_ids 1 l, h, length_letters l letter.Event)
few_ids l few letter.Relation = let h : length (ids_of_letter l letter.Relation) ≤ 10000 = few letter.Relation in omega (arith, count_ids 2 l, h, length_letters l letter.Relation)
few_ids l few letter.Attribute =
    let h : length (ids_of_letter l letter.Attribute ++ ids_of_letter l letter.Legacy) ≤ 10000 = few letter.Attribute in
    omega (arith, count_ids 3 l, h, length_append (ids_of_letter l letter.Attribute) (ids_of_letter l letter.Legacy), length_letters l letter.Attribute, length_letters l letter.Legacy)
few_ids l few letter.Legacy = omega (arith, count_ids 4 l)
few_ids l few letter.Normal = let h : length (ids_of_letter l letter.Normal) ≤ 10000 = few letter.Normal in omega (arith, count_ids 5 l, h, length_letters l letter.Normal)
few_ids l few letter.Note = omega (arith, count_ids 6 l)

-- so many of a letter of one holder
few_own : (row : Row) (n : ℕ) → ((kind : Kind) → length (counted_with row.1 kind) ≤ 10000) → (kind : Kind) → count_of_letter kind (held_by n (contents (reading_of row.1))) ≤ 10000
few_own row n few kind =
    let a : count_of_letter kind (held_by n (contents (reading_of row.1))) ≡ count_by (λ (e : AnnId × ℕ). letter_place (curated_letter e.0.kind) == letter_place kind) (contents (reading_of row.1)) =
    count_map (λ (e : AnnId × ℕ). let z : Held = record { holder = n; id = e.0; content = e.1 } in z) (λ held. letter_place (letter_of_item held) == letter_place kind) (contents (reading_of row.1)) in
    let b : count_by (λ (e : AnnId × ℕ). letter_place (curated_letter e.0.kind) == letter_place kind) (contents (reading_of row.1)) ≡ count_by (at_letter (letter_place kind)) (ids_of row.1) =
    count_map (λ (id : AnnId). let z : AnnId × ℕ = (id, content_of row.1 id) in z) (λ (e : AnnId × ℕ). letter_place (curated_letter e.0.kind) == letter_place kind) (ids_of row.1) in
    omega (arith, a, b, few_ids row.1 few kind)

few_held : (rows : List Row) (n : ℕ) → ((row : Row) → IsIn row rows → (kind : Kind) → length (counted_with row.1 kind) ≤ 10000) → (kind : Kind) → count_of_letter kind (held_from n (map contents (readings rows))) ≤ 10000 * length rows
few_held [] n few kind = let z : count_of_letter kind [] ≡ 0 = refl in omega arith
few_held (row ∷ rows) n few kind =
    let a : count_of_letter kind (held_by n (contents (reading_of row.1))) ≤ 10000 = few_own row n (few row (inl refl)) kind in
    let b : count_of_letter kind (held_from (suc n) (map contents (readings rows))) ≤ 10000 * length rows = few_held rows (suc n) (λ r k. few r (inr k)) kind in
    omega (arith, a, b, count_append (λ held. letter_place (letter_of_item held) == letter_place kind) (held_by n (contents (reading_of row.1))) (held_from (suc n) (map contents (readings rows))))

-- there is an ID for each item of fewer than 100,000 layers
pub few_in : (rows : List Row) (decided : Decided) → length rows < 100000 → ((row : Row) → IsIn row rows → (kind : Kind) → length (counted_with row.1 kind) ≤ 10000) → (kind : Kind) → count_of_letter kind (items_in (readings rows) decided) ≤ 999999999
few_in rows decided short few kind =
    let every : List Held = held_from 0 (map contents (readings rows)) in
    let a : count_of_letter kind (items_in (readings rows) decided) ≤ count_of_letter kind (leaders (readings rows)) = count_filter (λ held. letter_place (letter_of_item held) == letter_place kind) (is_in (readings rows) decided) (leaders (readings rows)) in
    let b : count_of_letter kind (leaders (readings rows)) ≤ count_of_letter kind (held_from 0 (map contents (readings rows))) = count_firsts (λ held. letter_place (letter_of_item held) == letter_place kind) (held_from 0 (map contents (readings rows))) in
    let c : count_of_letter kind (held_from 0 (map contents (readings rows))) ≤ 10000 * length rows = few_held rows 0 few kind in
    omega arith

-- ---- numbers between 1 and 10,000 are at most so many

bounded : {V : Type 0} (low : ℕ) (es : List (ℕ × V)) → low ≤ 10000 → T (is_sorted nat_cmp es) → T (below_all nat_cmp low es) → ((n : ℕ) → IsIn n (keys_of es) → n ≤ 10000) → low + length es ≤ 10000
bounded low [] small up above all = omega arith
bounded low (e ∷ es) small up above all =
    let first : low < e.0 = is_less low e.0 (left _ _ above) in
    let here : e.0 ≤ 10000 = all e.0 (inl refl) in
    let rest : e.0 + length es ≤ 10000 = bounded e.0 es here (right _ _ up) (left _ _ up) (λ n k. all n (inr k)) in
    omega arith

above_none : {V : Type 0} (es : List (ℕ × V)) → ((n : ℕ) → IsIn n (keys_of es) → 0 < n) → T (below_all nat_cmp 0 es)
above_none [] h = tt
above_none (e ∷ es) h = both _ _ (less 0 e.0 (h e.0 (inl refl))) (above_none es (λ n k. h n (inr k)))
  where
    both : (a b : Bool) → T a → T b → T (a && b)
    both true b p q = q
    both false b p q = p

    less : (a b : ℕ) → a < b → T (is_lt (nat_cmp a b))
    less a b l = elim (nat_cmp a b) as (λ r. r ≡ nat_cmp a b → T (is_lt r)) [
      | Less ↦ λ w. tt
      | Equal ↦ λ w. absurd (let e : a ≡ b = ranked a b Equal w in omega arith)
      | Greater ↦ λ w. absurd (let e : b < a = ranked a b Greater w in omega arith)
    ] refl

-- a map whose numbers are 1 to 10,000 has at most so many
pub few_keys : {V : Type 0} (m : finite.FinMap nat_cmp V) → ((n : ℕ) → IsIn n (finite.keys m) → (0 < n) × (n ≤ 10000)) → length (finite.keys m) ≤ 10000
few_keys m all =
    let r : 0 + length (finite.entries m) ≤ 10000 = bounded 0 (finite.entries m) (omega arith) (entries_sorted m) (above_none (finite.entries m) (λ n k. (all n k).0)) (λ n k. (all n k).1) in
    omega (arith, r, length_map (λ e. e.0) (finite.entries m))
