-- Places of one table stand for contents: what is found by places is what the definitions say of contents.
use Rattle.std.proofs.Common.{◌≡◌, ℕ, suc, ◌<◌, Bool, not, eqb, ◌==◌, List, [], ◌∷◌, ◌++◌, map, length, get_or, refl, sym, ap, ◌∙◌, subst, All}
use Rattle.std.proofs.lemmas.List.{map-append}
use Rattle.std.specs.List.{filter, list_any}
use Rattle.mark_base.specs.declared.ann_id.AnnId.{AnnId}
use Rattle.layer_model.specs.Annotations.{Annotations}
use Rattle.content_keys.specs.declared.placed_layer.Placed.{Placed}
use Rattle.content_keys.specs.declared.placed_layer.PlacedLayer.{PlacedLayer}
use Rattle.content_keys.specs.Places.{contents_at}
use Rattle.unanimous_merge.specs.declared.entry.Entry.{Entry}
use Rattle.unanimous_merge.specs.Readings.{contents, reading_of, readings}
use Rattle.unanimous_merge.specs.Items.{Held, firsts, held_by, held_from, item_of, items, leaders, number_of_bits, stands}
use Rattle.unanimous_merge.specs.Rows.{AreRows, entries_by, entries_from, firsts_at, having, held_at, item_at}
use Rattle.unanimous_merge.proofs.EntryLemmas.{marks_of}
use Rattle.unanimous_merge.proofs.ListLemmas.{all_append, all_cons, all_filter, all_head, all_map, all_more, all_none, all_tail, any_map, any_same, filter_map_is, filter_same, map_map, map_same, same_test}
use Rattle.unanimous_merge.proofs.StandingLemmas.{has_mark}

-- no content has two places
abbrev pub AreDistinct : List ℕ → Type 0
AreDistinct table = (i j : ℕ) → i < length table → j < length table → get_or table i 0 ≡ get_or table j 0 → i ≡ j

module _ (table : List ℕ) (distinct : AreDistinct table) where
  abbrev v : ℕ → ℕ
  v k = get_or table k 0

  abbrev IsPlaced : Placed → Type 0
  IsPlaced p = p.place < length table

  abbrev IsEntry : Entry → Type 0
  IsEntry e = e.place < length table

  abbrev IsRow : PlacedLayer → Type 0
  IsRow row = All IsPlaced row.marks.items

  pub test_is : (p q : ℕ) → p < length table → q < length table → eqb (v p) (v q) ≡ eqb p q
  test_is p q a b = same_test (v p) (v q) p q (distinct p q a b) (λ e. ap v e)

  pub stands_is : (q : ℕ) → q < length table → (marks : List Placed) → All IsPlaced marks → stands (v q) (contents_at table marks) ≡ list_any (λ p. p.place == q) marks
  stands_is q h marks all =
      any_map (λ (e : AnnId × ℕ). eqb e.1 (v q)) (λ (p : Placed). (p.id, v p.place)) marks
      ∙ any_same IsPlaced (λ p. eqb (v p.place) (v q)) (λ p. eqb p.place q) (λ p b. test_is p.place q b h) marks all

  within_firsts : (es : List Entry) → All IsEntry es → All IsEntry (firsts_at es)
  within_firsts [] all = all_none IsEntry
  within_firsts (e ∷ es) all =
      all_cons IsEntry e (filter (λ o. not (eqb o.place e.place)) (firsts_at es)) (all_head IsEntry e es all)
      (all_filter IsEntry (λ o. not (eqb o.place e.place)) (firsts_at es) (within_firsts es (all_tail IsEntry e es all)))

  firsts_are : (es : List Entry) → All IsEntry es → firsts (map (held_at table) es) ≡ map (held_at table) (firsts_at es)
  firsts_are [] all = refl
  firsts_are (e ∷ es) all =
      let here : e.place < length table = all_head IsEntry e es all in
      let rest : All IsEntry es = all_tail IsEntry e es all in
      ap (λ ys. held_at table e ∷ filter (λ o. not (eqb o.content (v e.place))) ys) (firsts_are es rest)
      ∙ ap (λ ys. held_at table e ∷ ys)
      (filter_map_is (λ (o : Held). not (eqb o.content (v e.place))) (held_at table) (firsts_at es)
      ∙ ap (map (held_at table)) (filter_same IsEntry (λ o. not (eqb (v o.place) (v e.place))) (λ o. not (eqb o.place e.place)) (λ o b. ap not (test_is o.place e.place b here)) (firsts_at es) (within_firsts es rest)))

  abbrev contents_in : PlacedLayer → List (AnnId × ℕ)
  contents_in row = contents_at table row.marks.items

  held_is : (h : ℕ) (rows : List PlacedLayer) → held_from h (map contents_in rows) ≡ map (held_at table) (entries_from h (map marks_of rows))
  held_is h [] = refl
  held_is h (row ∷ rows) =
      let entry : Placed → Entry = λ p. record { item = record { holder = h; id = p.id }; place = p.place } in
      let held : AnnId × ℕ → Held = λ e. record { holder = h; id = e.0; content = e.1 } in
      let here : held_by h (contents_in row) ≡ map (held_at table) (entries_by h row.marks.items) = map_map held (λ (p : Placed). (p.id, v p.place)) row.marks.items ∙ sym (map_map (held_at table) entry row.marks.items) in
      (λ i. here i ++ held_is (suc h) rows i) ∙ sym (map-append (held_at table) (entries_by h row.marks.items) (entries_from (suc h) (map marks_of rows)))

  pub entries_within : (h : ℕ) (rows : List PlacedLayer) → All IsRow rows → All IsEntry (entries_from h (map marks_of rows))
  entries_within h [] all = all_none IsEntry
  entries_within h (row ∷ rows) all =
      let entry : Placed → Entry = λ p. record { item = record { holder = h; id = p.id }; place = p.place } in
      all_append IsEntry (entries_by h row.marks.items) (entries_from (suc h) (map marks_of rows)) (all_map IsEntry entry row.marks.items (all_head IsRow row rows all)) (entries_within (suc h) rows (all_tail IsRow row rows all))

  -- which layers have a content
  having_is : (q : ℕ) → q < length table → (rows : List PlacedLayer) → All IsRow rows → map (stands (v q)) (map contents_in rows) ≡ map (has_mark q) rows
  having_is q h rows all = map_map (stands (v q)) contents_in rows ∙ map_same IsRow (λ row. stands (v q) (contents_in row)) (has_mark q) (λ row b. stands_is q h row.marks.items b) rows all

  module _ (snapshot : List (List ℕ × Annotations)) (rows : List PlacedLayer) (are : AreRows table rows snapshot) where
    pub all_placed : All IsRow rows
    all_placed = all_more (λ (row : PlacedLayer). All IsPlaced row.marks.items × All (λ place. place < length table) row.classes.items) IsRow (λ row h. h.0) rows are.within

    pub contents_same : map contents (readings snapshot) ≡ map contents_in rows
    contents_same = map_map contents (λ (r : List ℕ × Annotations). reading_of r.1) snapshot ∙ sym are.marks

    -- the first annotation of each content, by place
    pub firsts_lead : (entries : List Entry) → entries ≡ entries_from 0 (map marks_of rows) → (found : List Entry) → found ≡ firsts_at entries → map (held_at table) found ≡ leaders (readings snapshot)
    firsts_lead entries is found firsts_is =
        let all : All IsEntry (entries_from 0 (map marks_of rows)) = entries_within 0 rows all_placed in
        let es : List Entry = entries_from 0 (map marks_of rows) in
        ap (map (held_at table)) (firsts_is ∙ ap firsts_at is) ∙ sym (ap firsts (ap (held_from 0) contents_same ∙ held_is 0 rows) ∙ firsts_are es all)

    pub firsts_within : (entries : List Entry) → entries ≡ entries_from 0 (map marks_of rows) → (found : List Entry) → found ≡ firsts_at entries → All IsEntry found
    firsts_within entries is found firsts_is = subst (All IsEntry) (sym (firsts_is ∙ ap firsts_at is)) (within_firsts (entries_from 0 (map marks_of rows)) (entries_within 0 rows all_placed))

    module _ (standing : List (List Bool)) (has : (place : ℕ) → having place standing ≡ map (has_mark place) rows) where
      item_is : (e : Entry) → IsEntry e → item_of (readings snapshot) (held_at table e) ≡ item_at standing e
      item_is e h =
          let bits : map (stands (v e.place)) (map contents (readings snapshot)) ≡ having e.place standing = ap (map (stands (v e.place))) contents_same ∙ having_is e.place h rows all_placed ∙ sym (has e.place) in
          λ i. record { id = e.item; holders = number_of_bits (bits i) }

      -- the items of the annotations that give them their names
      pub items_found : (found : List Entry) → All IsEntry found → map (held_at table) found ≡ leaders (readings snapshot) → map (item_at standing) found ≡ items snapshot
      items_found found all lead =
          sym (ap (map (item_of (readings snapshot))) (sym lead) ∙ map_map (item_of (readings snapshot)) (held_at table) found
          ∙ map_same IsEntry (λ e. item_of (readings snapshot) (held_at table e)) (item_at standing) item_is found all)
