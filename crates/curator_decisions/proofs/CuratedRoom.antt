-- A curated layer in which nothing is lacking has room exactly where there are at most 10,000 items of each letter.
use Rattle.std.proofs.Common.{◌≡◌, ◌≢◌, ℕ, zero, suc, ◌+◌, ◌*◌, ◌<◌, ◌≤◌, ◌==◌, nat_lt, min, eq-eqb, ne_eqb, Bool, true, false, cond, List, [], ◌∷◌, ◌++◌, map, length, slice_get, refl, sym, ◌∙◌, ap, inl, inr, Option, Some, None, arith}
use Rattle.std.proofs.lemmas.Bool.Decides.{eqb_tells, nat_tests}
use Rattle.std.specs.Option.{option_map, option_map_or, option_and_then}
use Rattle.std.specs.List.{count_by}
use Rattle.std.specs.Ordering.{nat_cmp}
use Rattle.std.specs.FinMap as finite
use Rattle.mark_base.specs.declared.ann_id.AnnId.{AnnId}
use Rattle.mark_base.specs.declared.ann_id.Kind.{Kind}
use Rattle.mark_base.specs.declared.ann_id.Kind.TheVariants as letter
use Rattle.mark_base.specs.ReadIds.{id_at}
use Rattle.conf_model.specs.Configurations.{Configuration}
use Rattle.layer_model.specs.declared.class.Class.{Class}
use Rattle.layer_model.specs.declared.mark.Mark.{Mark}
use Rattle.layer_model.specs.declared.mark.Mark.TheVariants as marked
use Rattle.layer_model.specs.declared.rule.Rule.TheVariants.{LayerFull}
use Rattle.layer_model.specs.declared.flaw.FlawPlace.TheVariants as at
use Rattle.layer_model.specs.Annotations.{Annotations}
use Rattle.layer_model.specs.Classes.{letter_place}
use Rattle.layer_model.specs.LayerIds.{ids_of_letter}
use Rattle.layer_model.specs.Layers.{mark_of, numbers}
use Rattle.layer_rules.specs.MarkRules.{where_so}
use Rattle.layer_rules.specs.LayerRules.{classes_full, counted_letter, counted_with, is_id, layer_full}
use Rattle.layer_rules.specs.WellFormed.{Never, Obeys, at_layer_full}
use Rattle.content_keys.specs.Nodes.{IsIn}
use Rattle.content_keys.proofs.IdLemmas.{same_rank}
use Rattle.unanimous_merge.specs.Items.{Held}
use Rattle.unanimous_merge.specs.Readings.{readings}
use Rattle.unanimous_merge.proofs.ListLemmas.{length_map}
use Rattle.curator_decisions.specs.Curated.{Numbered, count_of_letter, letter_of_item, numbered_behind, renamed}
use Rattle.curator_decisions.specs.DecisionFaults.{missing}
use Rattle.curator_decisions.specs.Decisions.{Decided, items_in}
use Rattle.curator_decisions.proofs.CuratedClasses.{class_from, classes, made}
use Rattle.curator_decisions.proofs.CuratedCounts.{few_counted, few_keys, length_append, length_letters}
use Rattle.curator_decisions.proofs.CuratedItems.{IsHeld}
use Rattle.curator_decisions.proofs.CuratedMarks.{Came, got, no_legacy, none_in}
use Rattle.curator_decisions.proofs.CuratedNames.{HasNode, IsWhole, Known, item_is, item_known, items, new}
use Rattle.curator_decisions.proofs.CuratedParts.{ClassOrigin, Row, has_marked, in_numbers, none_some, so_none}
use Rattle.curator_decisions.proofs.CuratedTaken.{IsEntry, came, entries, fits, of_entry, stands_one}
use Rattle.curator_decisions.proofs.ListLemmas.{bit, count_append, count_cons}
use Rattle.curator_decisions.proofs.NumberedLemmas.{letter_kept, number_within}

-- ---- lists and classes by their lengths

past : {X : Type 0} (xs : List X) (i : ℕ) → length xs ≤ i → slice_get xs i ≡ None
past [] i h = refl
past (x ∷ xs) zero h = absurd (omega arith)
past (x ∷ xs) (suc i) h = past xs i (omega arith)

within : {X : Type 0} (xs : List X) (i : ℕ) (x : X) → slice_get xs i ≡ Some x → i < length xs
within [] i x e = none_some e
within (y ∷ ys) zero x e = omega arith
within (y ∷ ys) (suc i) x e = let h : i < length ys = within ys i x e in omega arith

equal : (n : ℕ) → (n == n) ≡ true
equal n = eq-eqb n n refl

few_classes : (first : Annotations) → Never (at_layer_full first) → length first.classes ≤ 10000
few_classes first nowhere = split (slice_get first.classes 10000) refl
  where
    split : (o : Option Class) → slice_get first.classes 10000 ≡ o → length first.classes ≤ 10000
    split None e = short first.classes 10000 e
      where
        short : (cs : List Class) (i : ℕ) → slice_get cs i ≡ None → length cs ≤ i
        short [] i h = omega arith
        short (c ∷ cs) zero h = none_some (sym h)
        short (c ∷ cs) (suc i) h = let r : length cs ≤ i = short cs i h in omega arith
    split (Some class) e = absurd (so_none (10000 == 10000) (LayerFull letter.Text) (equal 10000) (sym (ap (option_and_then (classes_full 10000)) e) ∙ nowhere (at.Class 10000)))

-- ---- numbers from 1 up, each of which a list has

step_bits : (k c : ℕ) → bit (nat_lt k (suc c)) + bit (suc c == k) ≤ bit (nat_lt k (suc (suc c)))
step_bits k c = grind (arith, nat_tests)

count_step : (c : ℕ) (ks : List ℕ) → count_by (λ k. nat_lt k (suc c)) ks + count_by (λ k. suc c == k) ks ≤ count_by (λ k. nat_lt k (suc (suc c))) ks
count_step c [] = omega arith
count_step c (k ∷ ks) =
    let rest : count_by (λ k. nat_lt k (suc c)) ks + count_by (λ k. suc c == k) ks ≤ count_by (λ k. nat_lt k (suc (suc c))) ks = count_step c ks in
    omega (arith, rest, step_bits k c, count_cons (λ k. nat_lt k (suc c)) k ks, count_cons (λ k. suc c == k) k ks, count_cons (λ k. nat_lt k (suc (suc c))) k ks)

count_there : (n : ℕ) (ks : List ℕ) → IsIn n ks → 1 ≤ count_by (λ k. n == k) ks
count_there n [] i = absurd i
count_there n (k ∷ ks) i = elim i [
  | inl same ↦ let here : bit (n == k) ≡ 1 = ap bit (eq-eqb n k same) in omega (arith, here, count_cons (λ k. n == k) k ks)
  | inr m ↦ let rest : 1 ≤ count_by (λ k. n == k) ks = count_there n ks m in omega (arith, rest, count_cons (λ k. n == k) k ks)
]

count_up_to : (c : ℕ) (ks : List ℕ) → ((n : ℕ) → 0 < n → n ≤ c → IsIn n ks) → c ≤ count_by (λ k. nat_lt k (suc c)) ks
count_up_to zero ks all = omega arith
count_up_to (suc c) ks all =
    let rest : c ≤ count_by (λ k. nat_lt k (suc c)) ks = count_up_to c ks (λ n p q. all n p (omega arith)) in
    omega (arith, rest, count_step c ks, count_there (suc c) ks (all (suc c) (omega arith) (omega arith)))

count_all : {X : Type 0} (p : X → Bool) (xs : List X) → count_by p xs ≤ length xs
count_all p [] = omega arith
count_all p (x ∷ xs) =
    let rest : count_by p xs ≤ length xs = count_all p xs in
    let one : cond (p x) 1 0 ≤ 1 = elim (p x) as (λ b. cond b 1 0 ≤ 1) [ true ↦ omega arith | false ↦ omega arith ] in
    omega (arith, rest, one, count_cons p x xs)

same_kind : (a b : Kind) → letter_place a ≡ letter_place b → a ≡ b
same_kind a b e = ap (λ (x : AnnId). x.kind) (same_rank (id_at a 0) (id_at b 0) (ap (λ p. p * 1000000000 + 0) e))

-- each number from 1 up to how many items of a letter there are is that of one
record HasNumber (before hs : List Held) (kind : Kind) (n : ℕ) : Type 0 where
  one : Numbered
  among : IsIn one (numbered_behind before hs)
  kind_is : one.id.kind ≡ kind
  number : one.id.number ≡ n

abbrev of_letter : Kind → Held → Bool
of_letter kind held = letter_place (letter_of_item held) == letter_place kind

here : (before : List Held) (x : Held) (xs : List Held) (kind : Kind) (n : ℕ) → letter_place (letter_of_item x) ≡ letter_place kind → n ≡ count_of_letter kind before + 1 → n ≤ 999999999 → HasNumber before (x ∷ xs) kind n
here before x xs kind n same e small =
    let counts : count_of_letter (letter_of_item x) before ≡ count_of_letter kind before = ap (λ p. count_by (λ (held : Held). letter_place (letter_of_item held) == p) before) same in
    let number : min (count_of_letter (letter_of_item x) before + 1) 999999999 ≡ n = omega (arith, counts, e, small) in
    record { one = record { held = x; id = id_at (letter_of_item x) (count_of_letter (letter_of_item x) before + 1) }; among = inl refl; kind_is = same_kind (letter_of_item x) kind same; number = number }

behind : (before : List Held) (x : Held) (xs : List Held) (kind : Kind) (n : ℕ) → HasNumber (before ++ x ∷ []) xs kind n → HasNumber before (x ∷ xs) kind n
behind before x xs kind n r = record { one = r.one; among = inr r.among; kind_is = r.kind_is; number = r.number }

has_number : (before hs : List Held) (kind : Kind) (n : ℕ) → count_of_letter kind before < n → n ≤ count_of_letter kind (before ++ hs) → n ≤ 999999999 → HasNumber before hs kind n
has_number before [] kind n low high small = absurd (let none : count_by (of_letter kind) [] ≡ 0 = refl in omega (arith, low, high, none, count_append (of_letter kind) before []))
has_number before (x ∷ xs) kind n low high small =
    let none : count_by (of_letter kind) [] ≡ 0 = refl in
    let front : count_of_letter kind (before ++ x ∷ []) ≡ count_of_letter kind before + bit (of_letter kind x) = omega (arith, none, count_append (of_letter kind) before (x ∷ []), count_cons (of_letter kind) x []) in
    let all : n ≤ count_of_letter kind ((before ++ x ∷ []) ++ xs) =
    omega (arith, high, front, count_append (of_letter kind) before (x ∷ xs), count_append (of_letter kind) (before ++ x ∷ []) xs, count_cons (of_letter kind) x xs) in
    elim (eqb_tells (letter_place (letter_of_item x)) (letter_place kind)) [
      | inl p ↦ elim (eqb_tells n (count_of_letter kind before + 1)) [
        | inl q ↦ here before x xs kind n p.1 q.1 small
        | inr q ↦
            let one : bit (of_letter kind x) ≡ 1 = ap bit p.0 in
            let apart : n ≢ count_of_letter kind before + 1 = q.1 in
            behind before x xs kind n (has_number (before ++ x ∷ []) xs kind n (omega arith) all small)
      ]
      | inr p ↦
          let not_one : bit (of_letter kind x) ≡ 0 = ap bit p.0 in
          behind before x xs kind n (has_number (before ++ x ∷ []) xs kind n (omega arith) all small)
    ]

numbers_counted : (l : Annotations) (kind : Kind) → length (numbers l kind) ≤ length (counted_with l kind)
numbers_counted l letter.Text = omega (arith, length_letters l letter.Text)
numbers_counted l letter.Event = omega (arith, length_letters l letter.Event)
numbers_counted l letter.Relation = omega (arith, length_letters l letter.Relation)
numbers_counted l letter.Attribute = omega (arith, length_letters l letter.Attribute, length_append (ids_of_letter l letter.Attribute) (ids_of_letter l letter.Legacy))
numbers_counted l letter.Legacy = omega (arith, length_letters l letter.Legacy, length_append (ids_of_letter l letter.Attribute) (ids_of_letter l letter.Legacy))
numbers_counted l letter.Normal = omega (arith, length_letters l letter.Normal)
numbers_counted l letter.Note = omega (arith, length_letters l letter.Note)

-- ---- the curated layer

module _ (first : Row) (rest : List Row) (all : (row : Row) → IsIn row (first ∷ rest) → IsWhole row) (decided : Decided) (closed : missing (readings (first ∷ rest)) decided ≡ None)
    (few : (kind : Kind) → count_of_letter kind (items_in (readings (first ∷ rest)) decided) ≤ 999999999) where
  abbrev rows : List Row
  rows = first ∷ rest

  abbrev ones : List Numbered
  ones = items rows all decided closed few

  abbrev called : Row → AnnId → AnnId
  called = new rows all decided closed few

  abbrev In : Row → AnnId → Type 0
  In = Known rows all decided closed few

  abbrev cs : List Class
  cs = classes first rest all decided closed few

  abbrev layer : Annotations
  layer = made first rest all decided closed few

  -- each number of an item stands in the layer
  number_in : (kind : Kind) (n : ℕ) → 0 < n → n ≤ count_of_letter kind (items_in (readings rows) decided) → IsIn n (numbers layer kind)
  number_in kind n some low =
      let most : count_of_letter kind (items_in (readings rows) decided) ≤ 999999999 = few kind in
      let none : count_by (of_letter kind) [] ≡ 0 = refl in
      let r : HasNumber [] (items_in (readings rows) decided) kind n = has_number [] (items_in (readings rows) decided) kind n (omega arith) low (omega arith) in
      let h : IsHeld rows 0 r.one.held = (item_is rows all decided closed few r.one r.among).held in
      let m : HasNode h.row.1 r.one.held.id = (item_known rows all decided closed few r.one r.among h).node in
      let there : mark_of layer r.one.id.kind r.one.id.number ≡ Some (renamed (called h.row) m.mark) = stands_one rows all decided closed few cs r.one r.among h m in
      in_numbers layer kind n (has_marked layer kind n (renamed (called h.row) m.mark) ((λ i. mark_of layer (sym r.kind_is i) (sym r.number i)) ∙ there))

  -- where the layer has room there are at most 10,000 items of a letter
  pub few_counted_in : Never (at_layer_full layer) → (kind : Kind) → count_of_letter kind (items_in (readings rows) decided) ≤ 10000
  few_counted_in nowhere kind =
      let a : length (counted_with layer kind) ≤ 10000 = few_counted layer (fits rows all decided closed few cs) nowhere kind in
      let c : count_of_letter kind (items_in (readings rows) decided) ≤ count_by (λ k. nat_lt k (suc (count_of_letter kind (items_in (readings rows) decided)))) (numbers layer kind) =
      count_up_to (count_of_letter kind (items_in (readings rows) decided)) (numbers layer kind) (λ n p q. number_in kind n p q) in
      let d : count_by (λ k. nat_lt k (suc (count_of_letter kind (items_in (readings rows) decided)))) (numbers layer kind) ≤ length (numbers layer kind) =
      count_all (λ k. nat_lt k (suc (count_of_letter kind (items_in (readings rows) decided)))) (numbers layer kind) in
      let b : length (numbers layer kind) ≤ length (counted_with layer kind) = numbers_counted layer kind in
      omega arith

  module _ (conf : Configuration) (characters : ℕ) (obey : (row : Row) → IsIn row rows → Obeys conf characters row.1) (few_ten : (kind : Kind) → count_of_letter kind (items_in (readings rows) decided) ≤ 10000) where
    -- ---- there is room

    small : (kind : Kind) (n : ℕ) (mark : Mark) → mark_of layer kind n ≡ Some mark → (0 < n) × (n ≤ 10000)
    small kind n mark e =
        let c : Came (entries rows all decided closed few cs) kind n = came rows all decided closed few cs kind n mark e in
        let i : IsEntry rows all decided closed few cs c.entry = of_entry rows all decided closed few cs c.entry c.among in
        let number : n ≡ i.one.id.number = c.number_is ∙ ap (λ (w : AnnId × Mark). w.0.number) i.same in
        let w : (0 < i.one.id.number) × (i.one.id.number ≤ 10000) = number_within (items_in (readings rows) decided) i.one i.among few_ten in
        (omega (arith, w.0, number), omega (arith, w.1, number))

    of_map : {V : Type 0} (kind : Kind) (wrap : V → Mark) (m : finite.FinMap nat_cmp V) → ((n : ℕ) → mark_of layer kind n ≡ option_map wrap (finite.get m n)) → length (map (id_at kind) (finite.keys m)) ≤ 10000
    of_map kind wrap m same =
        let r : length (finite.keys m) ≤ 10000 = few_keys m (λ n k. let g : (mark : Mark) × (option_map wrap (finite.get m n) ≡ Some mark) = got m wrap n k in small kind n g.0 (same n ∙ g.1)) in
        omega (arith, r, length_map (id_at kind) (finite.keys m))

    none_legacy : length (map (id_at letter.Legacy) (finite.keys layer.legacy)) ≡ 0
    none_legacy =
        length_map (id_at letter.Legacy) (finite.keys layer.legacy) ∙ none_in (finite.keys layer.legacy) (λ n k.
        let g : (mark : Mark) × (option_map marked.Attribute (finite.get layer.legacy n) ≡ Some mark) = got layer.legacy marked.Attribute n k in
        let c : Came (entries rows all decided closed few cs) letter.Legacy n = came rows all decided closed few cs letter.Legacy n g.0 g.1 in
        let i : IsEntry rows all decided closed few cs c.entry = of_entry rows all decided closed few cs c.entry c.among in
        no_legacy i.one.held.id.kind (sym (letter_kept [] (items_in (readings rows) decided) i.one i.among) ∙ sym (ap (λ (w : AnnId × Mark). w.0.kind) i.same) ∙ sym c.kind_is))

    few_attributes : length (map (id_at letter.Attribute) (finite.keys layer.attributes) ++ map (id_at letter.Legacy) (finite.keys layer.legacy)) ≤ 10000
    few_attributes =
        let a : length (map (id_at letter.Attribute) (finite.keys layer.attributes)) ≤ 10000 = of_map letter.Attribute marked.Attribute layer.attributes (λ n. refl) in
        omega (arith, a, none_legacy, length_append (map (id_at letter.Attribute) (finite.keys layer.attributes)) (map (id_at letter.Legacy) (finite.keys layer.legacy)))

    few_here : (kind : Kind) → length (counted_with layer kind) ≤ 10000
    few_here letter.Text = of_map letter.Text marked.Span layer.spans (λ n. refl)
    few_here letter.Event = of_map letter.Event marked.Event layer.events (λ n. refl)
    few_here letter.Relation = of_map letter.Relation marked.Relation layer.relations (λ n. refl)
    few_here letter.Attribute = few_attributes
    few_here letter.Legacy = few_attributes
    few_here letter.Normal = of_map letter.Normal marked.Normal layer.normals (λ n. refl)
    few_here letter.Note = of_map letter.Note marked.Note layer.notes (λ n. refl)

    -- a layer with at most 10,000 of each sort has room
    pub room : Never (at_layer_full layer)
    room place = go place
      where
        go : Never (at_layer_full layer)
        go (at.Mark id) = split _
          where
            split : (o : Option Mark) → option_and_then (layer_full layer id) o ≡ None
            split None = refl
            split (Some mark) = ap (λ o. where_so (option_map_or (is_id id) o false) (LayerFull (counted_letter id.kind))) (past (counted_with layer id.kind) 10000 (few_here id.kind))
        go (at.Class index) = split (slice_get layer.classes index) refl
          where
            split : (o : Option Class) → slice_get layer.classes index ≡ o → option_and_then (classes_full index) (slice_get layer.classes index) ≡ None
            split None e = ap (option_and_then (classes_full index)) e
            split (Some class) e =
                let o : ClassOrigin rows In called index class = class_from first rest all decided closed few index class e in
                let small : o.place < length o.row.1.classes = within o.row.1.classes o.place o.was o.there in
                let all : length o.row.1.classes ≤ 10000 = few_classes o.row.1 (obey o.row o.among).well_formed.room in
                let low : index ≤ o.place = o.low in
                ap (option_and_then (classes_full index)) e ∙ ap (λ b. where_so b (LayerFull letter.Text)) (ne_eqb index 10000 (λ s. omega arith))
