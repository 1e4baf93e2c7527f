-- The classes of a curated layer in which nothing is lacking are classes of the first layer, under new IDs, in their order.
use Rattle.std.proofs.Common.{◌≡◌, ℕ, zero, suc, ◌+◌, ◌<◌, ◌≤◌, Bool, true, false, cond, List, [], ◌∷◌, map, slice_get, filter, refl, sym, ◌∙◌, ap, subst, inl, inr, Option, Some, None, IsSome, is_some, arith}
use Rattle.std.proofs.lemmas.Option.{same_Some}
use Rattle.std.specs.Option.{option_map, option_and_then, unwrap_or}
use Rattle.std.specs.List.{AllByRecursion, cons_option, filter_map, fold}
use Rattle.std.specs.Ordering.{nat_cmp}
use Rattle.std.specs.Cmp.{ranked}
use Rattle.std.specs.declared.cmp.Ordering.TheVariants.{Less, Equal, Greater}
use Rattle.std.specs.FinMap as finite
use Rattle.mark_base.specs.declared.ann_id.AnnId.{AnnId}
use Rattle.mark_base.specs.declared.ann_id.Kind.{Kind}
use Rattle.mark_base.specs.declared.ann_id.Kind.TheVariants as letter
use Rattle.layer_model.specs.declared.class.Class.{Class}
use Rattle.layer_model.specs.declared.mark.Mark.TheVariants as marked
use Rattle.layer_model.specs.declared.span.Span.{Span}
use Rattle.layer_model.specs.Annotations.{Annotations}
use Rattle.layer_model.specs.Classes.{Precedes, joined, letter_place, rank}
use Rattle.layer_model.specs.Coherent.{AllStand, is_span_letter}
use Rattle.layer_model.specs.Layers.{has, has_number, mark_of}
use Rattle.content_keys.specs.Nodes.{IsIn}
use Rattle.content_keys.specs.LayerContents.{class_content, content_of, ids_of, node_of, node_of_mark}
use Rattle.content_keys.proofs.BagLemmas.{IsIn-left, IsIn-map}
use Rattle.content_keys.proofs.IdLemmas.{ids_have, in_ids, same_rank}
use Rattle.content_keys.proofs.OneLemmas.{one_of_content}
use Rattle.unanimous_merge.specs.Items.{Held, held_by, held_from}
use Rattle.unanimous_merge.specs.Readings.{Reading, content_under, contents, reading_of, readings}
use Rattle.unanimous_merge.specs.Unanimous.{class_in_each}
use Rattle.curator_decisions.specs.Curated.{Numbered, all_new, class_taken, count_of_letter, curated_letter, letter_of_item, new_id}
use Rattle.curator_decisions.specs.DecisionFaults.{missing}
use Rattle.curator_decisions.specs.Decisions.{Decided, items_in}
use Rattle.curator_decisions.proofs.CuratedItems.{Earlier, IsHeld, firsts_lead, held_rise}
use Rattle.curator_decisions.proofs.CuratedNames.{IsItem, IsWhole, Known, found_new, has_node, item_is, items, items_early, new, new_known, node_is, some_of}
use Rattle.curator_decisions.proofs.CuratedParts.{ClassOrigin, IsPart, Row, none_some, renamed_class}
use Rattle.curator_decisions.proofs.CuratedTaken.{layer, part}
use Rattle.curator_decisions.proofs.ClassLemmas.{IsOrdered, Lower, ascends_pairs, class_in, classes_pairs, joined_are, precedes_still, renamed_up}
use Rattle.curator_decisions.proofs.ListLemmas.{Pairs, in_filter, in_given, pairs_both, pairs_filter, pairs_given, two_of}
use Rattle.curator_decisions.proofs.NumberedLemmas.{LowerNew, numbers_rise}

-- ---- members of classes are spans

span_there : (o : Option Span) → is_some o ≡ true → IsSome (option_and_then node_of_mark (option_map marked.Span o))
span_there None h = absurd (let f : false ≡ true = h in cc)
span_there (Some span) h = refl

span_node : (l : Annotations) (kind : Kind) (n : ℕ) → is_span_letter kind ≡ true → has_number l kind n ≡ true → IsSome (option_and_then node_of_mark (mark_of l kind n))
span_node l letter.Text n fits there = span_there (finite.get l.spans n) there
span_node l kind n fits there = absurd (let f : false ≡ true = fits in cc)

span_text : (kind : Kind) → is_span_letter kind ≡ true → kind ≡ letter.Text
span_text letter.Text h = refl
span_text kind h = absurd (let f : false ≡ true = h in cc)

each_of : {X : Type 0} (P : X → Type 0) (xs : List X) → AllByRecursion P xs → (x : X) → IsIn x xs → P x
each_of P [] h x k = absurd k
each_of P (y ∷ ys) h x k = elim k [ inl e ↦ subst P (sym e) h.0 | inr m ↦ each_of P ys h.1 x m ]

-- ---- a list that is filtered and mapped, by its places

record IsFrom {X Y : Type 0} (f : X → Option Y) (xs : List X) (index : ℕ) (y : Y) : Type 0 where
  place : ℕ
  was : X
  there : slice_get xs place ≡ Some was
  among : IsIn was xs
  low : index ≤ place
  given : f was ≡ Some y

later : {X Y : Type 0} (f : X → Option Y) (x : X) (xs : List X) (index more : ℕ) (y : Y) → more ≤ suc index → IsFrom f xs index y → IsFrom f (x ∷ xs) more y
later f x xs index more y h r = record { place = suc r.place; was = r.was; there = r.there; among = inr r.among; low = (let l : index ≤ r.place = r.low in omega arith); given = r.given }

from_place : {X Y : Type 0} (f : X → Option Y) (p : X → Bool) (xs : List X) (index : ℕ) (y : Y) → slice_get (filter_map f (filter p xs)) index ≡ Some y → IsFrom f xs index y
from_place f p [] index y e = none_some e
from_place {X} {Y} f p (x ∷ xs) index y e =
    elim (p x) as (λ b. slice_get (filter_map f (cond b (x ∷ filter p xs) (filter p xs))) index ≡ Some y → IsFrom f (x ∷ xs) index y) [
      | true ↦ λ g. given (from_place f p xs) (f x) refl index g
      | false ↦ λ g. later f x xs index index y (omega arith) (from_place f p xs index y g)
    ] e
  where
    given : ((i : ℕ) (z : Y) → slice_get (filter_map f (filter p xs)) i ≡ Some z → IsFrom f xs i z) → (o : Option Y) → f x ≡ o → (i : ℕ) → slice_get (cons_option o (filter_map f (filter p xs))) i ≡ Some y → IsFrom f (x ∷ xs) i y
    given rest None h i g = later f x xs i i y (omega arith) (rest i y g)
    given rest (Some v) h zero g = record { place = 0; was = x; there = refl; among = inl refl; low = omega arith; given = h ∙ g }
    given rest (Some v) h (suc i) g = later f x xs i (suc i) y (omega arith) (rest i y g)

-- ---- the classes of the first layer

module _ (first : Row) (rest : List Row) (all : (row : Row) → IsIn row (first ∷ rest) → IsWhole row) (decided : Decided) (closed : missing (readings (first ∷ rest)) decided ≡ None)
    (few : (kind : Kind) → count_of_letter kind (items_in (readings (first ∷ rest)) decided) ≤ 999999999) where
  abbrev pub rows : List Row
  rows = first ∷ rest

  abbrev pub ones : List Numbered
  ones = items rows all decided closed few

  abbrev pub renames : AnnId → AnnId
  renames = new rows all decided closed few first

  abbrev pub In : AnnId → Type 0
  In = Known rows all decided closed few first

  whole : IsWhole first
  whole = all first (inl refl)

  -- ---- annotations of the first layer are their own items

  -- a holder of place 0 has the first layer
  pub first_reading : (one : Held) (h : IsHeld rows 0 one) → one.holder ≡ 0 → reading_of first.1 ≡ reading_of h.row.1
  first_reading one h none =
      let holder : one.holder ≡ 0 + h.place = h.holder in
      let place : h.place ≡ 0 = omega arith in
      same_Some _ _ (sym (ap (slice_get (readings rows)) place) ∙ h.at)

  of_first : (id : AnnId) (k : In id) → (id.kind ≡ letter.Normal → ⊥) → (h : IsHeld rows 0 k.one.held) → k.one.held.holder ≡ 0 → k.one.held.id ≡ id
  of_first id k known h none =
      let reading : reading_of first.1 ≡ reading_of h.row.1 = first_reading k.one.held h none in
      let listed : IsIn k.one.held.id (ids_of first.1) = subst (λ (r : Reading). IsIn k.one.held.id r.ids) (sym reading) h.listed in
      let content : content_of first.1 k.one.held.id ≡ content_of h.row.1 k.one.held.id = ap (λ (r : Reading). content_under r k.one.held.id) reading in
      let node : IsSome (node_of first.1 id) = some_of (node_of first.1 id) k.node.node (node_is first.1 id k.node.mark k.node.node k.node.there k.node.made) in
      sym (one_of_content first.1 whole.1 id k.one.held.id node (ids_have first.1 whole.0 k.one.held.id listed) known (sym k.content ∙ h.content ∙ sym content))

  own_held : (id : AnnId) → IsIn id (ids_of first.1) → IsIn (record { holder = 0; id = id; content = content_of first.1 id }) (held_from 0 (map contents (readings rows)))
  own_held id k =
      let own : Held = record { holder = 0; id = id; content = content_of first.1 id } in
      IsIn-left own (held_by 0 (contents (reading_of first.1))) (held_from 1 (map contents (readings rest)))
      (IsIn-map (λ (e : AnnId × ℕ). let z : Held = record { holder = 0; id = e.0; content = e.1 } in z) (id, content_of first.1 id) (contents (reading_of first.1)) (IsIn-map (λ (x : AnnId). let z : AnnId × ℕ = (x, content_of first.1 x) in z) id (ids_of first.1) k))

  -- what is known of the first layer, and is no normalization, is the item of its content
  pub own_item : (id : AnnId) (k : In id) → (id.kind ≡ letter.Normal → ⊥) → (k.one.held.holder ≡ 0) × (k.one.held.id ≡ id)
  own_item id k known =
      let i : IsItem rows all decided closed few k.one = item_is rows all decided closed few k.one k.listed in
      let own : Held = record { holder = 0; id = id; content = content_of first.1 id } in
      let among : IsIn own (held_from 0 (map contents (readings rows))) = own_held id (in_ids first.1 id k.node.node (node_is first.1 id k.node.mark k.node.node k.node.there k.node.made)) in
      elim (firsts_lead Earlier (held_from 0 (map contents (readings rows))) (held_rise rows 0) k.one.held own i.leads among (sym k.content)) [
        | inl same ↦ (ap (λ (h : Held). h.holder) same, ap (λ (h : Held). h.id) same)
        | inr before ↦ elim before [
          | inl low ↦ absurd (let z : k.one.held.holder < 0 = low in omega arith)
          | inr up ↦ (up.0, of_first id k known i.held up.0)
        ]
      ]

  -- ---- spans of the first layer that are known are in their order

  pub record Within (id : AnnId) : Type 0 where
    pub known : In id
    pub text : id.kind ≡ letter.Text

  no_normal : (id : AnnId) → id.kind ≡ letter.Text → id.kind ≡ letter.Normal → ⊥
  no_normal id text normal = let e : letter.Text ≡ letter.Normal = sym text ∙ normal in apart e
    where
      apart : letter.Text ≡ letter.Normal → ⊥
      apart e = cc

  both : Pairs (λ (a b : Numbered). Earlier a.held b.held × LowerNew a b) ones
  both = pairs_both (λ (a b : Numbered). Earlier a.held b.held) LowerNew ones (items_early rows all decided closed few) (numbers_rise [] (items_in (readings rows) decided) few)

  pub up : (a b : AnnId) → Within a → Within b → rank a < rank b → rank (renames a) < rank (renames b)
  up a b i j low =
      let x : (i.known.one.held.holder ≡ 0) × (i.known.one.held.id ≡ a) = own_item a i.known (no_normal a i.text) in
      let y : (j.known.one.held.holder ≡ 0) × (j.known.one.held.id ≡ b) = own_item b j.known (no_normal b j.text) in
      let xr : rank i.known.one.held.id ≡ rank a = ap rank x.1 in
      let yr : rank j.known.one.held.id ≡ rank b = ap rank y.1 in
      let letters : letter_place (letter_of_item i.known.one.held) ≡ letter_place (letter_of_item j.known.one.held) =
      ap (λ (z : AnnId). letter_place (curated_letter z.kind)) x.1 ∙ ap (λ k. letter_place (curated_letter k)) (i.text ∙ sym j.text) ∙ sym (ap (λ (z : AnnId). letter_place (curated_letter z.kind)) y.1) in
      let xh : i.known.one.held.holder ≡ 0 = x.0 in
      let yh : j.known.one.held.holder ≡ 0 = y.0 in
      let new_up : rank i.known.one.id < rank j.known.one.id =
      elim (two_of (λ (a b : Numbered). Earlier a.held b.held × LowerNew a b) ones both i.known.one j.known.one i.known.listed j.known.listed) [
        | inl same ↦ absurd (let e : rank i.known.one.held.id ≡ rank j.known.one.held.id = ap (λ (z : Numbered). rank z.held.id) same in omega arith)
        | inr r ↦ elim r [
          | inl h ↦ h.1 letters
          | inr h ↦ absurd (elim h.0 [
            | inl earlier ↦ (let z : j.known.one.held.holder < i.known.one.held.holder = earlier in omega arith)
            | inr later ↦ (let z : rank j.known.one.held.id ≤ rank i.known.one.held.id = later.1 in omega arith)
          ])
        ]
      ] in
      subst (λ z. rank z < rank (renames b)) (sym (new_known rows all decided closed few first a i.known)) (subst (λ z. rank i.known.one.id < rank z) (sym (new_known rows all decided closed few first b j.known)) new_up)

  abbrev found_id : AnnId → Option AnnId
  found_id id = new_id ones (content_of first.1 id)

  -- a span whose content has an item that is in
  member_in : (id x : AnnId) → is_span_letter id.kind ≡ true → has first.1 id ≡ true → found_id id ≡ Some x → Within id
  member_in id x span there e =
      let r : (one : Numbered) × (IsIn one ones × ((one.held.content ≡ content_of first.1 id) × (one.id ≡ x))) = found_new ones (content_of first.1 id) x e in
      record {
        known = record { among = inl refl; node = has_node first.1 id (span_node first.1 id.kind id.number span there); one = r.0; listed = r.1.0; content = r.1.1.0 };
        text = span_text id.kind span;
      }

  record AreNew (ids new_ids : List AnnId) : Type 0 where
    within : (id : AnnId) → IsIn id ids → Within id
    same : new_ids ≡ map renames ids

  members_new : (ids new_ids : List AnnId) → AllStand first.1 ids → AllByRecursion (λ member. is_span_letter member.kind ≡ true) ids → all_new found_id ids ≡ Some new_ids → AreNew ids new_ids
  members_new [] new_ids stand spans e = record { within = λ id k. absurd k; same = sym (same_Some _ _ e) }
  members_new (id ∷ ids) new_ids stand spans e = by (members_new ids) (found_id id) refl e
    where
      rest_is : ((ys : List AnnId) → AllStand first.1 ids → AllByRecursion (λ member. is_span_letter member.kind ≡ true) ids → all_new found_id ids ≡ Some ys → AreNew ids ys) → (x : AnnId) → found_id id ≡ Some x
          → (o : Option (List AnnId)) → all_new found_id ids ≡ o → option_map (λ others. x ∷ others) o ≡ Some new_ids → AreNew (id ∷ ids) new_ids
      rest_is rest x h None g e = none_some e
      rest_is rest x h (Some ys) g e =
          let r : AreNew ids ys = rest ys stand.1 spans.1 g in
          let here : renames id ≡ x = ap (λ o. unwrap_or o id) h in
          record {
            within = λ y k. elim k [ inl same ↦ subst Within (sym same) (member_in id x spans.0 stand.0 h) | inr m ↦ r.within y m ];
            same = sym (same_Some _ _ e) ∙ (λ i. sym here i ∷ r.same i);
          }

      by : ((ys : List AnnId) → AllStand first.1 ids → AllByRecursion (λ member. is_span_letter member.kind ≡ true) ids → all_new found_id ids ≡ Some ys → AreNew ids ys) → (o : Option AnnId) → found_id id ≡ o
          → option_and_then (λ x. option_map (λ others. x ∷ others) (all_new found_id ids)) o ≡ Some new_ids → AreNew (id ∷ ids) new_ids
      by rest None h e = none_some e
      by rest (Some x) h e = rest_is rest x h (all_new found_id ids) refl e

  abbrev pub given : Class → Option Class
  given = class_taken (reading_of first.1) ones

  record IsNew (class new_class : Class) : Type 0 where
    within : (id : AnnId) → IsIn id class.members → Within id
    same : new_class ≡ renamed_class renames class

  class_new : (class new_class : Class) → IsIn class first.1.classes → given class ≡ Some new_class → IsNew class new_class
  class_new class new_class k e = by (all_new found_id class.members) refl e
    where
      by : (o : Option (List AnnId)) → all_new found_id class.members ≡ o → option_map (λ members. let c : Class = record { kind = class.kind; members = members } in c) o ≡ Some new_class → IsNew class new_class
      by None g h = none_some h
      by (Some ids) g h =
          let r : AreNew class.members ids =
          members_new class.members ids (each_of (λ (c : Class). AllStand first.1 c.members) first.1.classes whole.1.stand.classes class k) (each_of (λ (c : Class). AllByRecursion (λ member. is_span_letter member.kind ≡ true) c.members) first.1.classes whole.1.letters.classes class k) g in
          record { within = r.within; same = sym (same_Some _ _ h) ∙ (λ i. record { kind = class.kind; members = r.same i }) }

  abbrev pub shared : Class → Bool
  shared class = class_in_each (readings rows) (class_content (content_of first.1) class)

  abbrev pub new_classes : List Class
  new_classes = filter_map given (filter shared first.1.classes)

  one : (a b : AnnId) → Within a → Within b → rank (renames a) ≡ rank (renames b) → a ≡ b
  one a b i j e =
      elim (nat_cmp (rank a) (rank b)) as (λ r. r ≡ nat_cmp (rank a) (rank b) → a ≡ b) [
        | Less ↦ λ w. absurd (let h : rank (renames a) < rank (renames b) = up a b i j (ranked (rank a) (rank b) Less w) in omega arith)
        | Equal ↦ λ w. same_rank a b (ranked (rank a) (rank b) Equal w)
        | Greater ↦ λ w. absurd (let h : rank (renames b) < rank (renames a) = up b a j i (ranked (rank a) (rank b) Greater w) in omega arith)
      ] refl

  in_order : Pairs Precedes new_classes
  in_order =
      pairs_given Precedes Precedes given (filter shared first.1.classes) (λ a b y z i j p q before.
      let ia : IsIn a first.1.classes = (in_filter shared first.1.classes a i).0 in
      let ib : IsIn b first.1.classes = (in_filter shared first.1.classes b j).0 in
      let na : IsNew a y = class_new a y ia p in
      let nb : IsNew b z = class_new b z ib q in
      let still : Precedes (renamed_class renames a) (renamed_class renames b) =
      precedes_still Within renames up one a b na.within nb.within (class_in first.1.classes whole.0.classes.ordered a ia) (class_in first.1.classes whole.0.classes.ordered b ib) before in
      subst (λ (c : Class). Precedes c z) (sym na.same) (subst (λ (c : Class). Precedes (renamed_class renames a) c) (sym nb.same) still))
      (pairs_filter Precedes shared first.1.classes (classes_pairs first.1.classes whole.0.classes.ordered))

  ordered : (b : Class) → IsIn b new_classes → IsOrdered b
  ordered b k =
      let r : (x : Class) × (IsIn x (filter shared first.1.classes) × (given x ≡ Some b)) = in_given given (filter shared first.1.classes) b k in
      let i : IsIn r.0 first.1.classes = (in_filter shared first.1.classes r.0 r.1.0).0 in
      let n : IsNew r.0 b = class_new r.0 b i r.1.1 in
      let p : Pairs Lower (map renames r.0.members) = renamed_up Within renames up one r.0.members n.within (ascends_pairs r.0.members (class_in first.1.classes whole.0.classes.ordered r.0 i).ascends) in
      subst IsOrdered (sym n.same) record { up = p }

  abbrev pub classes : List Class
  classes = fold (λ cs class. joined class.kind class.members cs) [] new_classes

  classes_are : classes ≡ new_classes
  classes_are = joined_are new_classes in_order ordered

  pub class_from : (index : ℕ) (class : Class) → slice_get classes index ≡ Some class → ClassOrigin rows (Known rows all decided closed few) (new rows all decided closed few) index class
  class_from index class e =
      let r : IsFrom given first.1.classes index class = from_place given shared first.1.classes index class (sym (ap (λ cs. slice_get cs index) classes_are) ∙ e) in
      let n : IsNew r.was class = class_new r.was class r.among r.given in
      record {
        row = first;
        among = inl refl;
        place = r.place;
        was = r.was;
        there = r.there;
        within = λ id k. (n.within id k).known;
        apart = λ a b i j e. one a b (n.within a i) (n.within b j) e;
        is = n.same;
        low = r.low;
      }

  -- ---- the curated layer

  abbrev pub made : Annotations
  made = layer rows all decided closed few classes

  pub made_part : IsPart rows made (Known rows all decided closed few) (new rows all decided closed few)
  made_part = part rows all decided closed few classes class_from
