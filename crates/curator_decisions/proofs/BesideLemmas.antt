-- When an item can be beside the others that are in, by places.
use Rattle.std.proofs.Common.{◌≡◌, ℕ, zero, suc, ◌+◌, ◌<◌, ◌≤◌, ◌==◌, ◌&&◌, ◌||◌, Bool, true, false, cond, eqb, List, [], ◌∷◌, map, filter, length, slice_get, get_or, refl, sym, ◌∙◌, subst, Option, Some, None, MatchOption, All, option_map, option_and_then, arith}
use Rattle.std.proofs.lemmas.Option.{slice_get-map}
use Rattle.std.specs.List.{count_by}
use Rattle.std.specs.Option.{option_map_or}
use Rattle.std.specs.BTreeMap.{BTreeMap}
use Rattle.std.specs.FinMap as finite
use Rattle.mark_base.specs.declared.ann_id.AnnId.{AnnId}
use Rattle.mark_base.specs.declared.ann_id.Kind.{Kind}
use Rattle.mark_base.specs.declared.ann_id.Kind.TheVariants as letter
use Rattle.conf_model.specs.Configurations.{Configuration}
use Rattle.layer_model.specs.declared.attribute.Attribute.{Attribute}
use Rattle.layer_model.specs.declared.mark.Mark.{Mark}
use Rattle.layer_model.specs.declared.mark.Mark.TheVariants as marked
use Rattle.layer_model.specs.declared.span.Span.{Span}
use Rattle.layer_model.specs.Annotations.{Annotations}
use Rattle.layer_model.specs.Classes.{letter_place}
use Rattle.layer_model.specs.Layers.{attribute_at, attribute_of, is_of_kind, mark_at, mark_of}
use Rattle.layer_rules.specs.LayerRules.{refused_overlap}
use Rattle.content_keys.specs.LayerContents.{content_of}
use Rattle.unanimous_merge.specs.declared.entry.Entry.{Entry}
use Rattle.unanimous_merge.specs.declared.merged.Merged.{Merged}
use Rattle.unanimous_merge.specs.Items.{Held, leaders}
use Rattle.unanimous_merge.specs.Readings.{Reading, content_under, reading_of, readings}
use Rattle.unanimous_merge.proofs.ItemLemmas.{AreDistinct, test_is}
use Rattle.unanimous_merge.proofs.ListLemmas.{all_cons, all_head, all_none, all_tail}
use Rattle.curator_decisions.specs.declared.comparison.Comparison.{Comparison}
use Rattle.curator_decisions.specs.Clashes.{AreApart, StandsBeside, are_rivals, clash, marks_clash}
use Rattle.curator_decisions.specs.Comparisons.{IsComparison}
use Rattle.curator_decisions.specs.Curated.{letter_of_item}
use Rattle.curator_decisions.specs.Decisions.{Decided, is_in, items_in}
use Rattle.curator_decisions.specs.Placing.{is_in_at, letter_of_entry, may_be_one, place_in}
use Rattle.curator_decisions.proofs.CuratedMarks.{stands_fit}
use Rattle.curator_decisions.proofs.CuratedParts.{Row}
use Rattle.curator_decisions.proofs.ListLemmas.{bit, count_cons}
use Rattle.curator_decisions.proofs.NamingLemmas.{AreFound, IsFound, IsGood, found, flags, good, held, in_at}

-- ---- the marks of two items

text_of_span : (kind : Kind) (span : Span) → is_of_kind kind (marked.Span span) ≡ true → kind ≡ letter.Text
text_of_span letter.Text span e = refl
text_of_span letter.Event span e = cc
text_of_span letter.Relation span e = cc
text_of_span letter.Attribute span e = cc
text_of_span letter.Legacy span e = cc
text_of_span letter.Normal span e = cc
text_of_span letter.Note span e = cc

-- the attribute of a mark that is one
abbrev attribute_in : Mark → Option Attribute
attribute_in (marked.Attribute attribute) = Some attribute
attribute_in mark = None

under_letter : (l : Annotations) (kind : Kind) (n : ℕ) → attribute_of l kind n ≡ option_and_then attribute_in (mark_of l kind n)
under_letter l letter.Text n = by (finite.get l.spans n)
  where
    by : (o : Option Span) → None ≡ option_and_then attribute_in (option_map marked.Span o)
    by None = refl
    by (Some x) = refl
under_letter l letter.Event n = by (finite.get l.events n)
  where
    by : (o : Option _) → None ≡ option_and_then attribute_in (option_map marked.Event o)
    by None = refl
    by (Some x) = refl
under_letter l letter.Relation n = by (finite.get l.relations n)
  where
    by : (o : Option _) → None ≡ option_and_then attribute_in (option_map marked.Relation o)
    by None = refl
    by (Some x) = refl
under_letter l letter.Attribute n = by (finite.get l.attributes n)
  where
    by : (o : Option Attribute) → o ≡ option_and_then attribute_in (option_map marked.Attribute o)
    by None = refl
    by (Some x) = refl
under_letter l letter.Legacy n = by (finite.get l.legacy n)
  where
    by : (o : Option Attribute) → o ≡ option_and_then attribute_in (option_map marked.Attribute o)
    by None = refl
    by (Some x) = refl
under_letter l letter.Normal n = by (finite.get l.normals n)
  where
    by : (o : Option _) → None ≡ option_and_then attribute_in (option_map marked.Normal o)
    by None = refl
    by (Some x) = refl
under_letter l letter.Note n = by (finite.get l.notes n)
  where
    by : (o : Option _) → None ≡ option_and_then attribute_in (option_map marked.Note o)
    by None = refl
    by (Some x) = refl

module _ (conf : Configuration) where
  -- whether the marks of two layers clash, where there are both
  abbrev two : Annotations → Annotations → Option Mark → Option Mark → Bool
  two l m x y = option_map_or (λ a. option_map_or (λ b. marks_clash conf (content_of l) (content_of m) a b) y false) x false

  -- the same of IDs of two layers, where there are both
  abbrev pub of_layers : AnnId → AnnId → Option Annotations → Option Annotations → Bool
  of_layers a b o p = option_map_or (λ l. option_map_or (λ m. two l m (mark_at l a) (mark_at m b)) p false) o false

  abbrev told_in : AnnId → Option Reading → Option (Reading × Mark)
  told_in id o = option_and_then (λ layer. option_map (λ mark. (layer, mark)) (layer.mark id)) o

  abbrev both : Option (Reading × Mark) → Option (Reading × Mark) → Bool
  both x y = option_map_or (λ one. option_map_or (λ other. marks_clash conf (content_under one.0) (content_under other.0) one.1 other.1) y false) x false

  both_none : (x : Option (Reading × Mark)) → both x None ≡ false
  both_none None = refl
  both_none (Some x) = refl

  both_marks : (l m : Annotations) (x y : Option Mark) → both (option_map (λ mark. let p : Reading × Mark = (reading_of l, mark) in p) x) (option_map (λ mark. let p : Reading × Mark = (reading_of m, mark) in p) y) ≡ two l m x y
  both_marks l m None y = refl
  both_marks l m (Some x) None = refl
  both_marks l m (Some x) (Some y) = refl

  by_rows : (a b : AnnId) (o p : Option Row) → both (told_in a (option_map (λ row. reading_of row.1) o)) (told_in b (option_map (λ row. reading_of row.1) p)) ≡ of_layers a b (option_map (λ row. row.1) o) (option_map (λ row. row.1) p)
  by_rows a b None p = refl
  by_rows a b (Some r) None = both_none (told_in a (Some (reading_of r.1)))
  by_rows a b (Some r) (Some s) = both_marks r.1 s.1 (mark_at r.1 a) (mark_at s.1 b)

  pub clash_is : (rows : List Row) (one later : Held) (o p : Option Annotations) → o ≡ option_map (λ row. row.1) (slice_get rows one.holder) → p ≡ option_map (λ row. row.1) (slice_get rows later.holder)
      → clash conf (readings rows) one later ≡ of_layers one.id later.id o p
  clash_is rows one later o p e f =
      (λ i. both (told_in one.id (slice_get-map (λ (row : Row). reading_of row.1) rows one.holder i)) (told_in later.id (slice_get-map (λ (row : Row). reading_of row.1) rows later.holder i)))
      ∙ by_rows one.id later.id (slice_get rows one.holder) (slice_get rows later.holder) ∙ (λ i. of_layers one.id later.id (sym e i) (sym f i))

  -- spans clash where the configuration refuses how they lie
  pub spans_two : (l m : Annotations) (a b : AnnId) → a.kind ≡ letter.Text → b.kind ≡ letter.Text → (s t : Option Span) → s ≡ finite.get l.spans a.number → t ≡ finite.get m.spans b.number
      → ((x y : Span) → s ≡ Some x → t ≡ Some y → refused_overlap conf (marked.Span y) (marked.Span x) ≡ false) → two l m (mark_at l a) (mark_at m b) ≡ false
  spans_two l m a b ka kb s t es et h =
      (λ i. two l m (mark_of l (ka i) a.number) (mark_of m (kb i) b.number)) ∙ (λ i. two l m (option_map marked.Span (sym es i)) (option_map marked.Span (sym et i))) ∙ by s t h
    where
      by : (s t : Option Span) → ((x y : Span) → s ≡ Some x → t ≡ Some y → refused_overlap conf (marked.Span y) (marked.Span x) ≡ false) → two l m (option_map marked.Span s) (option_map marked.Span t) ≡ false
      by None t h = refl
      by (Some x) None h = refl
      by (Some x) (Some y) h = h x y refl refl

  -- and other items only where they are attributes of one type on one content
  pub attributes_two : (l m : Annotations) (a b : AnnId) → (a.kind ≡ letter.Text → b.kind ≡ letter.Text → ⊥) → (s t : Option Attribute) → s ≡ attribute_at l a → t ≡ attribute_at m b
      → ((x y : Attribute) → s ≡ Some x → t ≡ Some y → (x.kind.n == y.kind.n && eqb (content_of l x.target) (content_of m y.target)) ≡ false) → two l m (mark_at l a) (mark_at m b) ≡ false
  attributes_two l m a b apart s t es et h =
      by (mark_at l a) (mark_at m b) (stands_fit l a.kind a.number) (stands_fit m b.kind b.number) (λ x y f g. h x y (es ∙ under_letter l a.kind a.number ∙ f) (et ∙ under_letter m b.kind b.number ∙ g))
    where
      refused : (v u : Mark) → is_of_kind a.kind u ≡ true → is_of_kind b.kind v ≡ true → refused_overlap conf v u ≡ false
      refused (marked.Span y) (marked.Span x) p q = absurd (apart (text_of_span a.kind x p) (text_of_span b.kind y q))
      refused (marked.Span y) u p q = refl
      refused v u p q = refl

      rivals : (u v : Mark) → ((x y : Attribute) → attribute_in u ≡ Some x → attribute_in v ≡ Some y → (x.kind.n == y.kind.n && eqb (content_of l x.target) (content_of m y.target)) ≡ false) → are_rivals (content_of l) (content_of m) u v ≡ false
      rivals (marked.Attribute x) (marked.Attribute y) k = k x y refl refl
      rivals (marked.Attribute x) v k = refl
      rivals u v k = refl

      marks : (u v : Mark) → is_of_kind a.kind u ≡ true → is_of_kind b.kind v ≡ true
          → ((x y : Attribute) → attribute_in u ≡ Some x → attribute_in v ≡ Some y → (x.kind.n == y.kind.n && eqb (content_of l x.target) (content_of m y.target)) ≡ false)
          → marks_clash conf (content_of l) (content_of m) u v ≡ false
      marks u v p q k = λ i. rivals u v k i || refused v u p q i

      by : (x y : Option Mark) → ((mark : Mark) → x ≡ Some mark → is_of_kind a.kind mark ≡ true) → ((mark : Mark) → y ≡ Some mark → is_of_kind b.kind mark ≡ true)
          → ((p q : Attribute) → option_and_then attribute_in x ≡ Some p → option_and_then attribute_in y ≡ Some q → (p.kind.n == q.kind.n && eqb (content_of l p.target) (content_of m q.target)) ≡ false) → two l m x y ≡ false
      by None y f g k = refl
      by (Some u) None f g k = refl
      by (Some u) (Some v) f g k = marks u v (f u refl) (g v refl) k

-- ---- places

module _ (table : List ℕ) (distinct : AreDistinct table) where
  apart_places : (o p : Option ℕ) (c d : ℕ) → MatchOption o (c ≡ 0) (λ q. (q < length table) × (get_or table q 0 ≡ c)) → MatchOption p (d ≡ 0) (λ q. (q < length table) × (get_or table q 0 ≡ d)) → may_be_one o p ≡ false → eqb c d ≡ false
  apart_places None p c d f g e = cc
  apart_places (Some q) None c d f g e = cc
  apart_places (Some q) (Some r) c d f g e = (λ i. eqb (sym f.1 i) (sym g.1 i)) ∙ test_is table distinct q r f.0 g.0 ∙ e

  place_found : (rows : List Row) (all : List (BTreeMap ℕ ℕ)) → AreFound table rows all → (holder : ℕ) (l : Annotations) → Some l ≡ option_map (λ row. row.1) (slice_get rows holder) → (id : AnnId) → IsFound table l (place_in all holder id) id
  place_found [] all are holder l e id = cc
  place_found (r ∷ rs) [] are holder l e id = absurd are
  place_found (r ∷ rs) (n ∷ ns) are zero l e id =
      let same : l ≡ r.1 = cc in
      subst (λ z. IsFound table z (place_in (n ∷ ns) 0 id) id) (sym same) (are.0 id)
  place_found (r ∷ rs) (n ∷ ns) are (suc holder) l e id = place_found rs ns are.1 holder l e id

module _ (snapshot : List Row) (comparison : Comparison) (is : IsComparison comparison snapshot) where
  abbrev merged : Merged
  merged = comparison.merged

  -- attributes that places tell apart are not rivals
  pub rivals_off : (one later : Entry) (l m : Annotations) → Some l ≡ option_map (λ row. row.1) (slice_get snapshot one.item.holder) → Some m ≡ option_map (λ row. row.1) (slice_get snapshot later.item.holder) → (x y : Attribute)
      → (x.kind.n == y.kind.n && may_be_one (place_in comparison.places.items one.item.holder x.target) (place_in comparison.places.items later.item.holder y.target)) ≡ false → (x.kind.n == y.kind.n && eqb (content_of l x.target) (content_of m y.target)) ≡ false
  rivals_off one later l m e f x y off = by (x.kind.n == y.kind.n) off
    where
      by : (b : Bool) → (b && may_be_one (place_in comparison.places.items one.item.holder x.target) (place_in comparison.places.items later.item.holder y.target)) ≡ false → (b && eqb (content_of l x.target) (content_of m y.target)) ≡ false
      by false h = refl
      by true h =
          apart_places merged.table is.merged.distinct (place_in comparison.places.items one.item.holder x.target) (place_in comparison.places.items later.item.holder y.target) (content_of l x.target) (content_of m y.target)
          (place_found merged.table is.merged.distinct snapshot comparison.places.items (found snapshot merged is.merged comparison.places.items is.places) one.item.holder l e x.target)
          (place_found merged.table is.merged.distinct snapshot comparison.places.items (found snapshot merged is.merged comparison.places.items is.places) later.item.holder m f y.target) h

  -- ---- the items that are in

  all_filtered : {X Y : Type 0} (R : Y → Type 0) (p : Y → Bool) (f : X → Y) (xs : List X) → All (λ x. p (f x) ≡ true → R (f x)) xs → All R (filter p (map f xs))
  all_filtered R p f [] all = all_none R
  all_filtered R p f (x ∷ xs) all =
      elim (p (f x)) as (λ b. p (f x) ≡ b → All R (cond b (f x ∷ filter p (map f xs)) (filter p (map f xs)))) [
        | true ↦ λ e. all_cons R (f x) (filter p (map f xs)) (all_head (λ z. p (f z) ≡ true → R (f z)) x xs all e) (all_filtered R p f xs (all_tail (λ z. p (f z) ≡ true → R (f z)) x xs all))
        | false ↦ λ e. all_filtered R p f xs (all_tail (λ z. p (f z) ≡ true → R (f z)) x xs all)
      ] refl

  count_filtered : {X Y : Type 0} (t p : Y → Bool) (f : X → Y) (xs : List X) → count_by t (filter p (map f xs)) ≡ count_by (λ x. t (f x) && p (f x)) xs
  count_filtered t p f [] = refl
  count_filtered {X} t p f (x ∷ xs) =
      let rest : count_by t (filter p (map f xs)) ≡ count_by (λ z. t (f z) && p (f z)) xs = count_filtered t p f xs in
      elim (p (f x)) as (λ b. p (f x) ≡ b → count_by t (cond b (f x ∷ filter p (map f xs)) (filter p (map f xs))) ≡ count_by (λ z. t (f z) && p (f z)) (x ∷ xs)) [
        | true ↦ λ e. count_cons t (f x) (filter p (map f xs)) ∙ (λ i. bit (and_true (t (f x)) (p (f x)) e i) + rest i) ∙ sym (count_cons (λ z. t (f z) && p (f z)) x xs)
        | false ↦ λ e. rest ∙ (let z : count_by (λ z. t (f z) && p (f z)) xs ≡ 0 + count_by (λ z. t (f z) && p (f z)) xs = omega arith in z) ∙ (λ i. bit (and_false (t (f x)) (p (f x)) e i) + count_by (λ z. t (f z) && p (f z)) xs) ∙ sym (count_cons (λ z. t (f z) && p (f z)) x xs)
      ] refl
    where
      and_true : (a b : Bool) → b ≡ true → a ≡ (a && b)
      and_true true b e = sym e
      and_true false b e = refl

      and_false : (a b : Bool) → b ≡ false → false ≡ (a && b)
      and_false true b e = sym e
      and_false false b e = refl

  count_same : {X : Type 0} (P : X → Type 0) (p q : X → Bool) → ((x : X) → P x → p x ≡ q x) → (xs : List X) → All P xs → count_by p xs ≡ count_by q xs
  count_same P p q same [] all = refl
  count_same P p q same (x ∷ xs) all =
      count_cons p x xs ∙ (λ i. bit (same x (all_head P x xs all) i) + count_same P p q same xs (all_tail P x xs all) i) ∙ sym (count_cons q x xs)

  pub beside_is : (conf : Configuration) (decided : Decided) (entry : Entry)
      → All (λ other. is_in_at (flags snapshot merged is.merged) decided other ≡ true → AreApart conf (readings snapshot) (held snapshot merged is.merged entry) (held snapshot merged is.merged other)) merged.firsts.items
      → count_by (λ (other : Entry). letter_place (letter_of_entry other) == letter_place (letter_of_entry entry) && is_in_at (flags snapshot merged is.merged) decided other) merged.firsts.items ≤ 10000
      → StandsBeside conf (readings snapshot) (items_in (readings snapshot) decided) (held snapshot merged is.merged entry)
  beside_is conf decided entry apart few =
      let h : Entry → Held = held snapshot merged is.merged in
      let p : Held → Bool = is_in (readings snapshot) decided in
      let q : Entry → Bool = is_in_at (flags snapshot merged is.merged) decided in
      let R : Held → Type 0 = AreApart conf (readings snapshot) (h entry) in
      let t : Held → Bool = λ one. letter_place (letter_of_item one) == letter_place (letter_of_item (h entry)) in
      let fine : All (IsGood snapshot merged is.merged) merged.firsts.items = good snapshot merged is.merged in
      let each : All (λ x. p (h x) ≡ true → R (h x)) merged.firsts.items = λ k d inside into. apart k d inside (sym (in_at snapshot merged is.merged decided (get_or merged.firsts.items k d) (fine k d inside)) ∙ into) in
      let counted : count_by t (filter p (map h merged.firsts.items)) ≡ count_by (λ x. t (h x) && q x) merged.firsts.items =
      count_filtered t p h merged.firsts.items ∙ count_same (IsGood snapshot merged is.merged) (λ x. t (h x) && p (h x)) (λ x. t (h x) && q x) (λ x g i. t (h x) && in_at snapshot merged is.merged decided x g i) merged.firsts.items fine in
      let fits : count_by t (filter p (map h merged.firsts.items)) ≤ 10000 = subst (λ n. n ≤ 10000) (sym counted) few in
      let S : List Held → Type 0 = λ helds. All R (filter p helds) × (count_by t (filter p helds) ≤ 10000) in
      let made : S (leaders (readings snapshot)) = subst S is.merged.firsts (all_filtered R p h merged.firsts.items each, fits) in
      record { apart = made.0; few = made.1 }

-- where so many pass one test, no more pass two
pub no_more_pass : {X : Type 0} (p q : X → Bool) (xs : List X) → count_by (λ x. p x && q x) xs ≤ count_by p xs
no_more_pass p q [] = omega arith
no_more_pass {X} p q (x ∷ xs) =
    let rest : count_by (λ z. p z && q z) xs ≤ count_by p xs = no_more_pass p q xs in
    let here : bit (p x && q x) ≤ bit (p x) = by (p x) (q x) in
    omega (arith, rest, here, count_cons (λ z. p z && q z) x xs, count_cons p x xs)
  where
    by : (a b : Bool) → bit (a && b) ≤ bit a
    by false b = omega arith
    by true false = omega arith
    by true true = omega arith
