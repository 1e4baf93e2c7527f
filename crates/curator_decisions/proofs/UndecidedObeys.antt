-- With no decisions each item is an annotation of the first layer, so that no two items clash, and the curated layer obeys.
use Rattle.std.proofs.Common.{◌≡◌, ℕ, ◌+◌, ◌*◌, ◌<◌, ◌≤◌, ◌==◌, true, false, List, [], ◌∷◌, map, length, slice_get, refl, sym, ◌∙◌, ap, subst, inl, inr, Option, Some, None, IsSome, arith}
use Rattle.std.proofs.lemmas.Option.{same_Some}
use Rattle.std.specs.Option.{option_and_then, option_map, option_map_or}
use Rattle.std.specs.List.{count_by}
use Rattle.std.specs.FinMap as finite
use Rattle.mark_base.specs.declared.ann_id.AnnId.{AnnId}
use Rattle.mark_base.specs.declared.ann_id.Kind.{Kind}
use Rattle.mark_base.specs.declared.ann_id.Kind.TheVariants as letter
use Rattle.conf_model.specs.Configurations.{Configuration}
use Rattle.layer_model.specs.declared.attribute.Attribute.{Attribute}
use Rattle.layer_model.specs.declared.mark.Mark.{Mark}
use Rattle.layer_model.specs.declared.mark.Mark.TheVariants as marked
use Rattle.layer_model.specs.declared.rule.Rule.TheVariants.{OverlapRefused}
use Rattle.layer_model.specs.Annotations.{Annotations}
use Rattle.layer_model.specs.Classes.{letter_place, rank}
use Rattle.layer_model.specs.Coherent.{LettersFitIn, is_attributed_letter, named}
use Rattle.layer_model.specs.Layers.{IsLayer, attribute_of, mark_of}
use Rattle.layer_rules.specs.LayerRules.{counted_with, refused_overlap}
use Rattle.layer_rules.specs.WellFormed.{Obeys}
use Rattle.content_keys.specs.Nodes.{IsIn}
use Rattle.content_keys.specs.LayerContents.{content_of, ids_of, node_of}
use Rattle.content_keys.proofs.IdLemmas.{ids_have, same_rank}
use Rattle.content_keys.proofs.OneLemmas.{one_of_content}
use Rattle.unanimous_merge.specs.Items.{Held, firsts, held_from, leaders}
use Rattle.unanimous_merge.specs.Readings.{Reading, content_under, contents, reading_of, readings}
use Rattle.unanimous_merge.specs.Unanimous.{in_each}
use Rattle.curator_decisions.specs.Clashes.{clash, marks_clash, told_of}
use Rattle.curator_decisions.specs.Curated.{count_of_letter, curated, letter_of_item}
use Rattle.curator_decisions.specs.Decisions.{is_in, items_in}
use Rattle.curator_decisions.specs.Undecided.{UndecidedLayersObey}
use Rattle.curator_decisions.proofs.BreaksThree.{Coheres, all_in}
use Rattle.curator_decisions.proofs.CuratedClashes.{AreAttributes, either_so, pair_breaks, pairs_all, rivals_are, together_obey}
use Rattle.curator_decisions.proofs.CuratedCounts.{at_letter, few_counted, few_ids, layer_fits}
use Rattle.curator_decisions.proofs.CuratedItems.{Differ, count_firsts, firsts_differ}
use Rattle.curator_decisions.proofs.CuratedNames.{HasNode, IsWhole, has_node, named_built, names_of, node_is, some_node}
use Rattle.curator_decisions.proofs.CuratedOwn.{count_map}
use Rattle.curator_decisions.proofs.CuratedParts.{Row, none_some}
use Rattle.curator_decisions.proofs.ItemSteps.{Before, leaders_rise}
use Rattle.curator_decisions.proofs.ListLemmas.{Pairs, count_filter, pairs_both, pairs_filter, pairs_more}
use Rattle.curator_decisions.proofs.UndecidedItems.{IsChosen, are_chosen, chosen, items_are, layers, own}
use Rattle.curator_decisions.proofs.UndecidedMissing.{nothing_missing}

-- ---- attributes

not_attribute : {V A : Type 0} (wrap : V → Mark) (attribute : Attribute) → ((v : V) → wrap v ≡ marked.Attribute attribute → ⊥) → (o : Option V) → option_map wrap o ≡ Some (marked.Attribute attribute) → A
not_attribute wrap attribute differs None e = none_some e
not_attribute wrap attribute differs (Some v) e = absurd (differs v (same_Some _ _ e))

of_attribute : (o : Option Attribute) (attribute : Attribute) → option_map marked.Attribute o ≡ Some (marked.Attribute attribute) → o ≡ Some attribute
of_attribute None attribute e = none_some e
of_attribute (Some other) attribute e = cc

attribute_there_at : (l : Annotations) (kind : Kind) (n : ℕ) (attribute : Attribute) → mark_of l kind n ≡ Some (marked.Attribute attribute) → attribute_of l kind n ≡ Some attribute
attribute_there_at l letter.Text n a e = not_attribute marked.Span a (λ v h. cc) (finite.get l.spans n) e
attribute_there_at l letter.Event n a e = not_attribute marked.Event a (λ v h. cc) (finite.get l.events n) e
attribute_there_at l letter.Relation n a e = not_attribute marked.Relation a (λ v h. cc) (finite.get l.relations n) e
attribute_there_at l letter.Attribute n a e = of_attribute (finite.get l.attributes n) a e
attribute_there_at l letter.Legacy n a e = of_attribute (finite.get l.legacy n) a e
attribute_there_at l letter.Normal n a e = not_attribute marked.Normal a (λ v h. cc) (finite.get l.normals n) e
attribute_there_at l letter.Note n a e = not_attribute marked.Note a (λ v h. cc) (finite.get l.notes n) e

attributed_known : (k : Kind) → is_attributed_letter k ≡ true → k ≡ letter.Normal → ⊥
attributed_known k h e = let f : false ≡ true = sym (ap is_attributed_letter e) ∙ h in cc

-- there are no more items than annotations of the first layer
few_chosen : (first : Annotations) (others : List Reading) → ((kind : Kind) → length (counted_with first kind) ≤ 10000) → (kind : Kind) → count_of_letter kind (items_in (layers first others) []) ≤ 10000
few_chosen first others few kind =
    let a : count_of_letter kind (chosen first others) ≤ count_of_letter kind (firsts (map (own first others) (ids_of first))) =
    count_filter (λ held. letter_place (letter_of_item held) == letter_place kind) (λ h. in_each (layers first others) h.content) (firsts (map (own first others) (ids_of first))) in
    let b : count_of_letter kind (firsts (map (own first others) (ids_of first))) ≤ count_of_letter kind (map (own first others) (ids_of first)) =
    count_firsts (λ held. letter_place (letter_of_item held) == letter_place kind) (map (own first others) (ids_of first)) in
    let e : count_of_letter kind (map (own first others) (ids_of first)) ≡ count_by (at_letter (letter_place kind)) (ids_of first) =
    count_map (own first others) (λ held. letter_place (letter_of_item held) == letter_place kind) (ids_of first) in
    let same : count_of_letter kind (items_in (layers first others) []) ≡ count_of_letter kind (chosen first others) = ap (count_of_letter kind) (items_are first others) in
    omega (arith, a, b, e, same, few_ids first few kind)

-- ---- the layer of no decisions

module _ (first : Row) (rest : List Row) (all : (row : Row) → IsIn row (first ∷ rest) → IsWhole row) (conf : Configuration) (characters : ℕ) (obey : (row : Row) → IsIn row (first ∷ rest) → Obeys conf characters row.1) where
  abbrev rows : List Row
  rows = first ∷ rest

  abbrev helds : List Held
  helds = items_in (readings rows) []

  whole : IsWhole first
  whole = all first (inl refl)

  few_ten : (kind : Kind) → count_of_letter kind helds ≤ 10000
  few_ten = few_chosen first.1 (readings rest) (few_counted first.1 (layer_fits first.1 whole.0) (obey first (inl refl)).well_formed.room)

  is_chosen : (held : Held) → IsIn held helds → IsChosen first.1 (readings rest) held
  is_chosen held k = let P : List Held → Type 0 = IsIn held in are_chosen first.1 (readings rest) held (subst P (items_are first.1 (readings rest)) k)

  node_at : (held : Held) → IsChosen first.1 (readings rest) held → HasNode first.1 held.id
  node_at held c = has_node first.1 held.id (ids_have first.1 whole.0 held.id c.listed)

  told_is : (held : Held) → IsChosen first.1 (readings rest) held → (m : HasNode first.1 held.id) → told_of (readings rows) held ≡ Some (reading_of first.1, m.mark)
  told_is held c m =
      ap (option_and_then (λ (l : Reading). option_map (λ mark. let p : Reading × Mark = (l, mark) in p) (l.mark held.id))) (ap (slice_get (readings rows)) c.holder) ∙ ap (option_map (λ mark. let p : Reading × Mark = (reading_of first.1, mark) in p)) m.there

  -- what an annotation names stands
  named_there : (id : AnnId) (m : HasNode first.1 id) (y : AnnId) → IsIn y (named m.mark) → IsSome (node_of first.1 y)
  named_there id m y n =
      ids_have first.1 whole.0 y (some_node first.1 18 y (named_built first.1 whole.1 id m.node (node_is first.1 id m.mark m.node m.there m.made) y (names_of m.mark m.node m.made y n)))

  -- two attributes of one type on one annotation are one
  one_attribute : (a b : AnnId) (m : HasNode first.1 a) (n : HasNode first.1 b) (r : AreAttributes m.mark n.mark) → content_of first.1 r.one.target ≡ content_of first.1 r.two.target → a ≡ b
  one_attribute a b m n r e =
      let P : Mark → Type 0 = λ w. (y : AnnId) → IsIn y (named w) → IsSome (node_of first.1 y) in
      let Q : Mark → Type 0 = LettersFitIn in
      let x : IsSome (node_of first.1 r.one.target) = subst P r.first (named_there a m) r.one.target (inl refl) in
      let y : IsSome (node_of first.1 r.two.target) = subst P r.second (named_there b n) r.two.target (inl refl) in
      let fit : is_attributed_letter r.one.target.kind ≡ true = subst Q r.first (whole.1.letters.marks a.kind a.number m.mark m.there) in
      let target : r.one.target ≡ r.two.target = one_of_content first.1 whole.1 r.one.target r.two.target x y (attributed_known r.one.target.kind fit) e in
      let same : (a.kind ≡ b.kind) × (a.number ≡ b.number) =
      whole.1.attributes a.kind b.kind a.number b.number r.one r.two (attribute_there_at first.1 a.kind a.number r.one (m.there ∙ ap Some r.first)) (attribute_there_at first.1 b.kind b.number r.two (n.there ∙ ap Some r.second))
      record { kind = r.kind; target = ap rank target } in
      same_rank a b (λ k. letter_place (same.0 k) * 1000000000 + same.1 k)

  no_clash : (a b : Held) → IsChosen first.1 (readings rest) a → IsChosen first.1 (readings rest) b → Before a b → Differ a b → clash conf (readings rows) a b ≡ false
  no_clash a b c d low differ =
      let m : HasNode first.1 a.id = node_at a c in
      let n : HasNode first.1 b.id = node_at b d in
      (λ i. option_map_or (λ (x : Reading × Mark). option_map_or (λ (y : Reading × Mark). marks_clash conf (content_under x.0) (content_under y.0) x.1 y.1) (told_is b d n i) false) (told_is a c m i) false)
      ∙ (elim (marks_clash conf (content_of first.1) (content_of first.1) m.mark n.mark) as (λ t. marks_clash conf (content_of first.1) (content_of first.1) m.mark n.mark ≡ t → t ≡ false) [
        | false ↦ λ _. refl
        | true ↦ λ e. absurd (breaks m n e)
      ] refl)
    where
      breaks : (m : HasNode first.1 a.id) (n : HasNode first.1 b.id) → marks_clash conf (content_of first.1) (content_of first.1) m.mark n.mark ≡ true → ⊥
      breaks m n e = either_so _ (refused_overlap conf n.mark m.mark) e
          (λ rivals.
          let r : (r : AreAttributes m.mark n.mark) × (content_of first.1 r.one.target ≡ content_of first.1 r.two.target) = rivals_are (content_of first.1) (content_of first.1) m.mark n.mark rivals in
          differ (d.content ∙ ap (content_of first.1) (sym (one_attribute a.id b.id m n r.0 r.1)) ∙ sym c.content))
          (λ refused.
          let x : a.holder ≡ 0 = c.holder in
          let y : b.holder ≡ 0 = d.holder in
          let lower : rank a.id < rank b.id = omega arith in
          pair_breaks first.1 (refused_overlap conf) OverlapRefused (obey first (inl refl)).well_formed.overlaps b.id a.id n.mark m.mark n.there m.there lower refused)

  apart : Pairs (λ a b. clash conf (readings rows) a b ≡ false) helds
  apart =
      pairs_more (λ a b. Before a b × Differ a b) (λ a b. clash conf (readings rows) a b ≡ false) helds (λ a b i j h. no_clash a b (is_chosen a i) (is_chosen b j) h.0 h.1)
      (pairs_filter (λ a b. Before a b × Differ a b) (is_in (readings rows) []) (leaders (readings rows)) (pairs_both Before Differ (leaders (readings rows)) (leaders_rise rows) (firsts_differ (held_from 0 (map contents (readings rows))))))

  pub obeys : Obeys conf characters (curated (readings rows) [])
  obeys =
      together_obey first rest all [] (nothing_missing first.1 rest whole.0 whole.1 (λ row k. all row (inr k))) (λ kind. let f : count_of_letter kind helds ≤ 10000 = few_ten kind in let g : count_of_letter kind helds ≤ 999999999 = omega arith in g) conf characters obey
      record { apart = pairs_all (λ a b. clash conf (readings rows) a b ≡ false) helds apart; few = few_ten }

-- ---- the law

pub undecided_obey : Coheres → UndecidedLayersObey
undecided_obey cohere conf characters [] some layers_ obey = absurd (omega arith)
undecided_obey cohere conf characters (row ∷ rows) some layers_ obey =
    let layers_in : (r : Row) → IsIn r (row ∷ rows) → IsLayer r.1 = all_in (λ (z : Row). IsLayer z.1) (row ∷ rows) layers_ in
    let obey_in : (r : Row) → IsIn r (row ∷ rows) → Obeys conf characters r.1 = all_in (λ (z : Row). Obeys conf characters z.1) (row ∷ rows) obey in
    obeys row rows (λ r k. (layers_in r k, cohere conf characters r.1 (layers_in r k) (obey_in r k).well_formed)) conf characters obey_in
