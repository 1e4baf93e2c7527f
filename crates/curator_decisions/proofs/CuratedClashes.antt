-- A curated layer in which nothing is lacking obeys exactly where the items that are in can be in together.
use Rattle.std.proofs.Common.{◌≡◌, ℕ, suc, ◌+◌, ◌<◌, ◌≤◌, ◌==◌, ◌&&◌, ◌||◌, nat_lt, eq-eqb, eqb-true, Bool, true, false, List, [], ◌∷◌, ◌++◌, length, slice_get, get_or, refl, sym, ◌∙◌, ap, subst, inl, inr, Some, None, All, AllPairs, arith}
use Rattle.std.proofs.lemmas.Bool.{lt-ltb}
use Rattle.std.proofs.lemmas.List.Kept.{AllPairs-cons}
use Rattle.std.specs.Option.{option_map, option_map_or, option_and_then}
use Rattle.mark_base.specs.declared.ann_id.AnnId.{AnnId}
use Rattle.mark_base.specs.declared.ann_id.Kind.{Kind}
use Rattle.conf_model.specs.Configurations.{Configuration}
use Rattle.layer_model.specs.declared.attribute.Attribute.{Attribute}
use Rattle.layer_model.specs.declared.class.Class.{Class}
use Rattle.layer_model.specs.declared.mark.Mark.{Mark}
use Rattle.layer_model.specs.declared.mark.Mark.TheVariants as marked
use Rattle.layer_model.specs.declared.flaw.FlawPlace.TheVariants as at
use Rattle.layer_model.specs.declared.rule.Rule.{Rule}
use Rattle.layer_model.specs.declared.rule.Rule.TheVariants.{AttributeThere, OverlapRefused}
use Rattle.layer_model.specs.Annotations.{Annotations}
use Rattle.layer_model.specs.Classes.{letter_place, rank}
use Rattle.layer_model.specs.Coherent.{named}
use Rattle.layer_model.specs.Layers.{mark_at}
use Rattle.layer_model.specs.LayerIds.{ids_of}
use Rattle.layer_rules.specs.FlawPlaces.{by_place}
use Rattle.layer_rules.specs.LayerRules.{lower_pair, refused_overlap, same_attributes}
use Rattle.layer_rules.specs.WellFormed.{IsWellFormed, Never, Obeys, at_attribute_there, at_layer_full, at_overlap_refused, no_class}
use Rattle.content_keys.specs.Nodes.{IsIn}
use Rattle.content_keys.specs.LayerContents.{content_of}
use Rattle.unanimous_merge.specs.Items.{Held}
use Rattle.unanimous_merge.specs.Readings.{Reading, content_under, reading_of, readings}
use Rattle.unanimous_merge.proofs.ListLemmas.{all_cons, all_none}
use Rattle.curator_decisions.specs.Clashes.{StandTogether, are_rivals, clash, marks_clash, told_of}
use Rattle.curator_decisions.specs.Curated.{Numbered, count_of_letter, curated, letter_of_item, numbered_behind, renamed}
use Rattle.curator_decisions.specs.DecisionFaults.{missing}
use Rattle.curator_decisions.specs.Decisions.{Decided, items_in}
use Rattle.curator_decisions.proofs.CuratedAlike.{letter_fits, letter_of_mark}
use Rattle.curator_decisions.proofs.CuratedClasses.{classes, made}
use Rattle.curator_decisions.proofs.CuratedItems.{IsHeld}
use Rattle.curator_decisions.proofs.CuratedMarks.{stands_fit}
use Rattle.curator_decisions.proofs.CuratedNames.{HasNode, IsWhole, Known, item_is, item_known, items, known_named, names_of, new, same_content, same_new}
use Rattle.curator_decisions.proofs.CuratedPairs.{both_true, pairs_never}
use Rattle.curator_decisions.proofs.CuratedParts.{Row, in_ids, none_found, not_both, unmapped}
use Rattle.curator_decisions.proofs.CuratedRoom.{few_counted_in, room}
use Rattle.curator_decisions.proofs.CuratedRules.{keeps, suffice}
use Rattle.curator_decisions.proofs.CuratedTaken.{IsEntry, entry_at, stands_one}
use Rattle.curator_decisions.proofs.ListLemmas.{Pairs, or_true, pairs_both, pairs_more, two_of}
use Rattle.curator_decisions.proofs.NumberedLemmas.{LowerNew, numbered_all, numbered_pairs, numbers_rise}

-- ---- pairs

pub all_of : {X : Type 0} (P : X → Type 0) (xs : List X) → ((x : X) → IsIn x xs → P x) → All P xs
all_of P [] h = all_none P
all_of P (x ∷ xs) h = all_cons P x xs (h x (inl refl)) (all_of P xs (λ y k. h y (inr k)))

pub pairs_all : {X : Type 0} (R : X → X → Type 0) (xs : List X) → Pairs R xs → AllPairs R xs
pairs_all R [] h = λ i j d low within. absurd (let w : j < 0 = within in omega arith)
pairs_all R (x ∷ xs) h = AllPairs-cons R x xs (all_of (R x) xs h.0) (pairs_all R xs h.1)

each_in : {X : Type 0} (P : X → Type 0) (xs : List X) → ((k : ℕ) (d : X) → k < length xs → P (get_or xs k d)) → (x : X) → IsIn x xs → P x
each_in P [] h x k = absurd k
each_in P (y ∷ ys) h x k = elim k [
  | inl same ↦ subst P (sym same) (h 0 y (omega arith))
  | inr m ↦ each_in P ys (λ i d w. h (suc i) d (omega arith)) x m
]

pub all_pairs : {X : Type 0} (R : X → X → Type 0) (xs : List X) → AllPairs R xs → Pairs R xs
all_pairs R [] h = tt
all_pairs R (x ∷ xs) h = (each_in (R x) xs (λ k d w. h 0 (suc k) d (omega arith) (omega arith)), all_pairs R xs (λ i j d low w. h (suc i) (suc j) d (omega arith) (omega arith)))

-- what holds of each two numbered items holds of the items
pairs_numbered : (R : Held → Held → Type 0) (before hs : List Held) → Pairs (λ (a b : Numbered). R a.held b.held) (numbered_behind before hs) → Pairs R hs
pairs_numbered R before [] h = tt
pairs_numbered R before (x ∷ xs) h = (
  λ y k.
      let r : (one : Numbered) × (IsIn one (numbered_behind (before ++ x ∷ []) xs) × (one.held ≡ y)) = numbered_all (before ++ x ∷ []) xs y k in
      subst (R x) r.1.1 (h.0 r.0 r.1.0),
  pairs_numbered R (before ++ x ∷ []) xs h.1,
)

-- an annotation that makes a pair with a lower one breaks the rule
pub pair_breaks : (layer : Annotations) (pairs : Mark → Mark → Bool) (rule : AnnId → Rule) → Never (by_place (λ id mark. option_map rule (lower_pair pairs layer id mark)) no_class layer)
    → (id other : AnnId) (mark m : Mark) → mark_at layer id ≡ Some mark → mark_at layer other ≡ Some m → rank other < rank id → pairs mark m ≡ true → ⊥
pair_breaks layer pairs rule never id other mark m e f low so =
    let nowhere : option_map rule (lower_pair pairs layer id mark) ≡ None = sym (ap (option_and_then (λ mark. option_map rule (lower_pair pairs layer id mark))) e) ∙ never (at.Mark id) in
    let test : (nat_lt (rank other) (rank id) && option_map_or (pairs mark) (mark_at layer other) false) ≡ false =
    none_found (λ x. nat_lt (rank x) (rank id) && option_map_or (pairs mark) (mark_at layer x) false) (ids_of layer) (unmapped rule (lower_pair pairs layer id mark) nowhere) other (in_ids layer other m f) in
    not_both (pairs mark m) so (sym (λ k. lt-ltb (rank other) (rank id) low k && option_map_or (pairs mark) (f k) false) ∙ test)

-- ---- two marks

-- two attributes of one type
pub record AreAttributes (a b : Mark) : Type 0 where
  pub one : Attribute
  pub two : Attribute
  pub first : a ≡ marked.Attribute one
  pub second : b ≡ marked.Attribute two
  pub kind : one.kind.n ≡ two.kind.n

attributes_are : (f g : AnnId → AnnId) (a b : Mark) → same_attributes (renamed f a) (renamed g b) ≡ true → (r : AreAttributes a b) × (rank (f r.one.target) ≡ rank (g r.two.target))
attributes_are f g (marked.Attribute a) (marked.Attribute b) h =
    let two : ((a.kind.n == b.kind.n) ≡ true) × ((rank (f a.target) == rank (g b.target)) ≡ true) = both_true (a.kind.n == b.kind.n) (rank (f a.target) == rank (g b.target)) h in
    (record { one = a; two = b; first = refl; second = refl; kind = eqb-true _ _ two.0 }, eqb-true _ _ two.1)
attributes_are f g (marked.Attribute a) b h = absurd (let e : false ≡ true = h in cc)
attributes_are f g a b h = absurd (let e : false ≡ true = h in cc)

pub rivals_are : (c d : AnnId → ℕ) (a b : Mark) → are_rivals c d a b ≡ true → (r : AreAttributes a b) × (c r.one.target ≡ d r.two.target)
rivals_are c d (marked.Attribute a) (marked.Attribute b) h =
    let two : ((a.kind.n == b.kind.n) ≡ true) × ((c a.target == d b.target) ≡ true) = both_true (a.kind.n == b.kind.n) (c a.target == d b.target) h in
    (record { one = a; two = b; first = refl; second = refl; kind = eqb-true _ _ two.0 }, eqb-true _ _ two.1)
rivals_are c d (marked.Attribute a) b h = absurd (let e : false ≡ true = h in cc)
rivals_are c d a b h = absurd (let e : false ≡ true = h in cc)

-- spans overlap under new IDs as they did
overlaps_same : (conf : Configuration) (f g : AnnId → AnnId) (a b : Mark) → refused_overlap conf (renamed f a) (renamed g b) ≡ refused_overlap conf a b
overlaps_same conf f g (marked.Span a) (marked.Span b) = refl
overlaps_same conf f g (marked.Span a) b = refl
overlaps_same conf f g a b = refl

overlap_letters : (conf : Configuration) (a b : Mark) → refused_overlap conf a b ≡ true → letter_of_mark a ≡ letter_of_mark b
overlap_letters conf (marked.Span a) (marked.Span b) h = refl
overlap_letters conf (marked.Span a) b h = absurd (let e : false ≡ true = h in cc)
overlap_letters conf a b h = absurd (let e : false ≡ true = h in cc)

attribute_letters : (a b : Mark) → AreAttributes a b → letter_of_mark a ≡ letter_of_mark b
attribute_letters a b r = ap letter_of_mark r.first ∙ sym (ap letter_of_mark r.second)

pub either_so : {A : Type 0} (a b : Bool) → (a || b) ≡ true → (a ≡ true → A) → (b ≡ true → A) → A
either_so true b e f g = f refl
either_so false b e f g = g e

module _ (first : Row) (rest : List Row) (all : (row : Row) → IsIn row (first ∷ rest) → IsWhole row) (decided : Decided) (closed : missing (readings (first ∷ rest)) decided ≡ None)
    (few : (kind : Kind) → count_of_letter kind (items_in (readings (first ∷ rest)) decided) ≤ 999999999) (conf : Configuration) (characters : ℕ) (obey : (row : Row) → IsIn row (first ∷ rest) → Obeys conf characters row.1) where
  abbrev rows : List Row
  rows = first ∷ rest

  abbrev ones : List Numbered
  ones = items rows all decided closed few

  abbrev called : Row → AnnId → AnnId
  called = new rows all decided closed few

  abbrev In : Row → AnnId → Type 0
  In = Known rows all decided closed few

  abbrev cs : List Class
  cs = classes first rest all decided closed few

  abbrev layer : Annotations
  layer = made first rest all decided closed few

  -- an item with its annotation
  record IsShown (one : Numbered) : Type 0 where
    among : IsIn one ones
    held : IsHeld rows 0 one.held
    node : HasNode held.row.1 one.held.id

  shown_item : (one : Numbered) → IsIn one ones → IsShown one
  shown_item one k =
      let h : IsHeld rows 0 one.held = (item_is rows all decided closed few one k).held in
      record { among = k; held = h; node = (item_known rows all decided closed few one k h).node }

  abbrev of_entry : (id : AnnId) (mark : Mark) (i : IsEntry rows all decided closed few cs (id, mark)) → IsShown i.one
  of_entry id mark i = record { among = i.among; held = i.held; node = i.node }

  names_in : (one : Numbered) (s : IsShown one) (y : AnnId) → IsIn y (named s.node.mark) → In s.held.row y
  names_in one s y n = known_named rows all decided closed few one s.among s.held s.node y (names_of s.node.mark s.node.node s.node.made y n)

  told_is : (one : Numbered) (s : IsShown one) → told_of (readings rows) one.held ≡ Some (reading_of s.held.row.1, s.node.mark)
  told_is one s =
      let at_ : slice_get (readings rows) one.held.holder ≡ Some (reading_of s.held.row.1) = ap (slice_get (readings rows)) (s.held.holder ∙ (let z : 0 + s.held.place ≡ s.held.place = omega arith in z)) ∙ s.held.at in
      ap (option_and_then (λ (l : Reading). option_map (λ mark. let p : Reading × Mark = (l, mark) in p) (l.mark one.held.id))) at_ ∙ ap (option_map (λ mark. let p : Reading × Mark = (reading_of s.held.row.1, mark) in p)) s.node.there

  clash_is : (one two : Numbered) (s : IsShown one) (t : IsShown two) → clash conf (readings rows) one.held two.held ≡ marks_clash conf (content_of s.held.row.1) (content_of t.held.row.1) s.node.mark t.node.mark
  clash_is one two s t = λ i.
      option_map_or (λ (a : Reading × Mark). option_map_or (λ (b : Reading × Mark). marks_clash conf (content_under a.0) (content_under b.0) a.1 b.1) (told_is two t i) false) (told_is one s i) false

  -- items whose marks are of one letter are
  same_letters : (one two : Numbered) (s : IsShown one) (t : IsShown two) → letter_of_mark s.node.mark ≡ letter_of_mark t.node.mark → letter_place (letter_of_item one.held) ≡ letter_place (letter_of_item two.held)
  same_letters one two s t e =
      ap letter_place (letter_fits one.held.id.kind s.node.mark (stands_fit s.held.row.1 one.held.id.kind one.held.id.number s.node.mark s.node.there) ∙ e
      ∙ sym (letter_fits two.held.id.kind t.node.mark (stands_fit t.held.row.1 two.held.id.kind two.held.id.number t.node.mark t.node.there)))

  -- ---- where no two items clash, no two annotations do

  module _ (apart : Pairs (λ held later. clash conf (readings rows) held later ≡ false) (items_in (readings rows) decided)) where
    both : Pairs (λ (a b : Numbered). (clash conf (readings rows) a.held b.held ≡ false) × LowerNew a b) ones
    both = pairs_both (λ (a b : Numbered). clash conf (readings rows) a.held b.held ≡ false) LowerNew ones
        (numbered_pairs (λ held later. clash conf (readings rows) held later ≡ false) [] (items_in (readings rows) decided) apart) (numbers_rise [] (items_in (readings rows) decided) few)

    -- of two items of one letter the one of the lower ID comes first
    no_clash : (one two : Numbered) (s : IsShown one) (t : IsShown two) → letter_of_mark s.node.mark ≡ letter_of_mark t.node.mark → rank one.id < rank two.id → marks_clash conf (content_of s.held.row.1) (content_of t.held.row.1) s.node.mark t.node.mark ≡ false
    no_clash one two s t letters low =
        sym (clash_is one two s t)
        ∙ elim (two_of (λ (a b : Numbered). (clash conf (readings rows) a.held b.held ≡ false) × LowerNew a b) ones both one two s.among t.among) [
          | inl same ↦ absurd (let e : rank one.id ≡ rank two.id = ap (λ (z : Numbered). rank z.id) same in omega arith)
          | inr r ↦ elim r [
            | inl h ↦ h.0
            | inr h ↦ absurd (let up : rank two.id < rank one.id = h.1 (sym (same_letters one two s t letters)) in omega arith)
          ]
        ]

    -- the IDs of entries are those of their items
    lower_items : (id other : AnnId) (mark m : Mark) (i : IsEntry rows all decided closed few cs (id, mark)) (j : IsEntry rows all decided closed few cs (other, m)) → rank other < rank id → rank j.one.id < rank i.one.id
    lower_items id other mark m i j low =
        let x : rank id ≡ rank i.one.id = ap (λ (w : AnnId × Mark). rank w.0) i.same in
        let y : rank other ≡ rank j.one.id = ap (λ (w : AnnId × Mark). rank w.0) j.same in
        omega arith

    attributes : Never (at_attribute_there layer)
    attributes = pairs_never layer same_attributes AttributeThere (λ id other mark m e f so low.
        let i : IsEntry rows all decided closed few cs (id, mark) = entry_at rows all decided closed few cs id mark e in
        let j : IsEntry rows all decided closed few cs (other, m) = entry_at rows all decided closed few cs other m f in
        let a : (r : AreAttributes i.node.mark j.node.mark) × (rank (called i.held.row r.one.target) ≡ rank (called j.held.row r.two.target)) =
        attributes_are (called i.held.row) (called j.held.row) i.node.mark j.node.mark (sym (λ k. same_attributes (i.same k).1 (j.same k).1) ∙ so) in
        rivals i.one j.one (of_entry id mark i) (of_entry other m j) (lower_items id other mark m i j low) a.0 a.1)
      where
        rivals : (one two : Numbered) (s : IsShown one) (t : IsShown two) → rank two.id < rank one.id → (a : AreAttributes s.node.mark t.node.mark) → rank (called s.held.row a.one.target) ≡ rank (called t.held.row a.two.target) → ⊥
        rivals one two s t low a e =
            let P : Mark → Type 0 = λ w. (y : AnnId) → IsIn y (named w) → In s.held.row y in
            let Q : Mark → Type 0 = λ w. (y : AnnId) → IsIn y (named w) → In t.held.row y in
            let x : In s.held.row a.one.target = subst P a.first (names_in one s) a.one.target (inl refl) in
            let y : In t.held.row a.two.target = subst Q a.second (names_in two t) a.two.target (inl refl) in
            let content : content_of s.held.row.1 a.one.target ≡ content_of t.held.row.1 a.two.target = same_content rows all decided closed few s.held.row t.held.row a.one.target a.two.target x y e in
            let rival : are_rivals (content_of t.held.row.1) (content_of s.held.row.1) t.node.mark s.node.mark ≡ true =
            (λ k. are_rivals (content_of t.held.row.1) (content_of s.held.row.1) (a.second k) (a.first k)) ∙ (λ k. eq-eqb _ _ (sym a.kind) k && eq-eqb _ _ (sym content) k) in
            not_both (marks_clash conf (content_of t.held.row.1) (content_of s.held.row.1) t.node.mark s.node.mark) (ap (λ b. b || refused_overlap conf s.node.mark t.node.mark) rival)
            (no_clash two one t s (sym (attribute_letters s.node.mark t.node.mark a)) low)

    overlaps : Never (at_overlap_refused conf layer)
    overlaps = pairs_never layer (refused_overlap conf) OverlapRefused (λ id other mark m e f so low.
        let i : IsEntry rows all decided closed few cs (id, mark) = entry_at rows all decided closed few cs id mark e in
        let j : IsEntry rows all decided closed few cs (other, m) = entry_at rows all decided closed few cs other m f in
        let refused : refused_overlap conf i.node.mark j.node.mark ≡ true =
        sym (overlaps_same conf (called i.held.row) (called j.held.row) i.node.mark j.node.mark) ∙ sym (λ k. refused_overlap conf (i.same k).1 (j.same k).1) ∙ so in
        not_both (marks_clash conf (content_of j.held.row.1) (content_of i.held.row.1) j.node.mark i.node.mark)
        (ap (λ b. are_rivals (content_of j.held.row.1) (content_of i.held.row.1) j.node.mark i.node.mark || b) refused ∙ or_true (are_rivals (content_of j.held.row.1) (content_of i.held.row.1) j.node.mark i.node.mark))
        (no_clash j.one i.one (of_entry other m j) (of_entry id mark i) (sym (overlap_letters conf i.node.mark j.node.mark refused)) (lower_items id other mark m i j low)))

  pub together_obey : StandTogether conf (readings rows) (items_in (readings rows) decided) → Obeys conf characters (curated (readings rows) decided)
  together_obey together =
      let apart : Pairs (λ held later. clash conf (readings rows) held later ≡ false) (items_in (readings rows) decided) = all_pairs (λ held later. clash conf (readings rows) held later ≡ false) (items_in (readings rows) decided) together.apart in
      suffice conf characters (curated (readings rows) decided) (keeps first rest all decided closed few conf characters obey)
      (all_cons Never (at_attribute_there layer) (at_overlap_refused conf layer ∷ at_layer_full layer ∷ []) (attributes apart)
      (all_cons Never (at_overlap_refused conf layer) (at_layer_full layer ∷ []) (overlaps apart)
      (all_cons Never (at_layer_full layer) [] (room first rest all decided closed few conf characters obey together.few) (all_none Never))))

  -- ---- where the layer obeys, no two items clash

  clashing : IsWellFormed conf characters layer → (one two : Numbered) → IsIn one ones → IsIn two ones → LowerNew one two → clash conf (readings rows) one.held two.held ≡ false
  clashing obeys one two k l lower =
      let s : IsShown one = shown_item one k in
      let t : IsShown two = shown_item two l in
      clash_is one two s t ∙ (elim (marks_clash conf (content_of s.held.row.1) (content_of t.held.row.1) s.node.mark t.node.mark) as (λ b. marks_clash conf (content_of s.held.row.1) (content_of t.held.row.1) s.node.mark t.node.mark ≡ b → b ≡ false) [
        | true ↦ λ e. absurd (breaks s t e)
        | false ↦ λ _. refl
      ] refl)
    where
      stands : (z : Numbered) (s : IsShown z) → mark_at layer z.id ≡ Some (renamed (called s.held.row) s.node.mark)
      stands z s = stands_one rows all decided closed few cs z s.among s.held s.node

      breaks : (s : IsShown one) (t : IsShown two) → marks_clash conf (content_of s.held.row.1) (content_of t.held.row.1) s.node.mark t.node.mark ≡ true → ⊥
      breaks s t e =
          either_so (are_rivals (content_of s.held.row.1) (content_of t.held.row.1) s.node.mark t.node.mark) (refused_overlap conf t.node.mark s.node.mark) e
          (λ rivals.
          let a : (r : AreAttributes s.node.mark t.node.mark) × (content_of s.held.row.1 r.one.target ≡ content_of t.held.row.1 r.two.target) = rivals_are (content_of s.held.row.1) (content_of t.held.row.1) s.node.mark t.node.mark rivals in
          let P : Mark → Type 0 = λ w. (y : AnnId) → IsIn y (named w) → In s.held.row y in
          let Q : Mark → Type 0 = λ w. (y : AnnId) → IsIn y (named w) → In t.held.row y in
          let x : In s.held.row a.0.one.target = subst P a.0.first (names_in one s) a.0.one.target (inl refl) in
          let y : In t.held.row a.0.two.target = subst Q a.0.second (names_in two t) a.0.two.target (inl refl) in
          let target : called s.held.row a.0.one.target ≡ called t.held.row a.0.two.target = same_new rows all decided closed few s.held.row t.held.row a.0.one.target a.0.two.target x y a.1 in
          let same : same_attributes (renamed (called t.held.row) t.node.mark) (renamed (called s.held.row) s.node.mark) ≡ true =
          (λ k. same_attributes (renamed (called t.held.row) (a.0.second k)) (renamed (called s.held.row) (a.0.first k))) ∙ (λ k. eq-eqb _ _ (sym a.0.kind) k && eq-eqb _ _ (sym (ap rank target)) k) in
          pair_breaks layer same_attributes AttributeThere obeys.attributes_differ two.id one.id (renamed (called t.held.row) t.node.mark) (renamed (called s.held.row) s.node.mark) (stands two t) (stands one s)
          (lower (same_letters one two s t (attribute_letters s.node.mark t.node.mark a.0))) same)
          (λ refused.
          pair_breaks layer (refused_overlap conf) OverlapRefused obeys.overlaps two.id one.id (renamed (called t.held.row) t.node.mark) (renamed (called s.held.row) s.node.mark) (stands two t) (stands one s)
          (lower (same_letters one two s t (sym (overlap_letters conf t.node.mark s.node.mark refused)))) (overlaps_same conf (called t.held.row) (called s.held.row) t.node.mark s.node.mark ∙ refused))

  pub obeying_together : Obeys conf characters (curated (readings rows) decided) → StandTogether conf (readings rows) (items_in (readings rows) decided)
  obeying_together obeys = record {
    apart = pairs_all (λ held later. clash conf (readings rows) held later ≡ false) (items_in (readings rows) decided)
        (pairs_numbered (λ held later. clash conf (readings rows) held later ≡ false) [] (items_in (readings rows) decided)
        (pairs_more LowerNew (λ (a b : Numbered). clash conf (readings rows) a.held b.held ≡ false) ones (λ a b i j lower. clashing obeys.well_formed a b i j lower) (numbers_rise [] (items_in (readings rows) decided) few)));
    few = few_counted_in first rest all decided closed few obeys.well_formed.room;
  }
