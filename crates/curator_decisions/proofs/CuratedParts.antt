-- A layer whose marks are some of those of other layers, under new IDs: a rule on what is told of one mark alone, and on
-- what is shown of what it names, that breaks nowhere in the layers breaks nowhere in it.
use Rattle.std.proofs.Common.{◌≡◌, ℕ, ◌≤◌, ◌⊎◌, Bool, true, false, ◌||◌, cond, List, [], ◌∷◌, map, slice_get, refl, sym, ◌∙◌, ap, subst, inl, inr, Option, Some, None}
use Rattle.std.specs.Option.{option_map, option_and_then, is_some}
use Rattle.std.specs.List.{find, list_any}
use Rattle.std.specs.Ordering.{nat_cmp, eq_by_cmp, is_eq}
use Rattle.std.specs.Cmp.{Equal-is, nat_cmp_total, tied_itself}
use Rattle.std.specs.FinMap as finite
use Rattle.std.specs.FinMap.{contains_key-keys, nat_cmp-IsAntisymmetric}
use Rattle.mark_base.specs.declared.ann_id.AnnId.{AnnId}
use Rattle.mark_base.specs.declared.ann_id.Kind.{Kind}
use Rattle.mark_base.specs.declared.ann_id.Kind.TheVariants as letter
use Rattle.mark_base.specs.ReadIds.{id_at}
use Rattle.mark_base.proofs.IdLemmas.{id_at-id, id_of_parts}
use Rattle.mark_base.specs.declared.table_places.TypeId.{TypeId}
use Rattle.conf_model.specs.declared.attr_target.AttrTarget.{AttrTarget}
use Rattle.conf_model.specs.declared.attr_target.AttrTarget.TheVariants.{Bound, Between}
use Rattle.layer_model.specs.declared.class.Class.{Class}
use Rattle.layer_model.specs.declared.mark.Mark.{Mark}
use Rattle.layer_model.specs.declared.mark.Mark.TheVariants as marked
use Rattle.layer_model.specs.declared.rule.Rule.{Rule}
use Rattle.layer_model.specs.declared.flaw.FlawPlace.{FlawPlace}
use Rattle.layer_model.specs.declared.flaw.FlawPlace.TheVariants as at
use Rattle.layer_model.specs.Annotations.{Annotations}
use Rattle.layer_model.specs.Classes.{rank}
use Rattle.layer_model.specs.Coherent.{named, trigger_id}
use Rattle.layer_model.specs.Layers.{has_number, mark_at, mark_of, numbers}
use Rattle.layer_model.specs.LayerIds.{ids_of, ids_of_letter}
use Rattle.layer_rules.specs.FlawPlaces.{by_place}
use Rattle.layer_rules.specs.MarkRules.{named_by, where_so}
use Rattle.layer_rules.specs.WellFormed.{Never}
use Rattle.content_keys.specs.Nodes.{IsIn}
use Rattle.content_keys.proofs.BagLemmas.{IsIn-map, IsIn-left, IsIn-right, map_map}
use Rattle.curator_decisions.specs.Curated.{curated_letter, renamed, renamed_arg}
use Rattle.curator_decisions.proofs.ListLemmas.{or_true}

-- a layer of a snapshot, beside its text
abbrev pub Row : Type 0
Row = List ℕ × Annotations

-- no layer of these breaks a rule
abbrev pub Nowhere : List Row → (Row → FlawPlace → Option Rule) → Type 0
Nowhere rows broken = (row : Row) → IsIn row rows → Never (broken row)

-- where a mark of a layer comes from: what it is called and what it names is known in the layer of its holder
pub record Origin (rows : List Row) (In : Row → AnnId → Type 0) (new : Row → AnnId → AnnId) (id : AnnId) (mark : Mark) : Type 0 where
  pub row : Row
  pub among : IsIn row rows
  pub old : AnnId
  pub within : In row old
  pub was : Mark
  pub there : mark_at row.1 old ≡ Some was
  pub id_is : id ≡ new row old
  pub mark_is : mark ≡ renamed (new row) was
  pub names : (y : AnnId) → IsIn y (named was) → In row y

-- a class with new IDs
abbrev pub renamed_class : (AnnId → AnnId) → Class → Class
renamed_class new class = record { kind = class.kind; members = map new class.members }

-- where a class of a layer comes from; its members stay apart
pub record ClassOrigin (rows : List Row) (In : Row → AnnId → Type 0) (new : Row → AnnId → AnnId) (index : ℕ) (class : Class) : Type 0 where
  pub row : Row
  pub among : IsIn row rows
  pub place : ℕ
  pub was : Class
  pub there : slice_get row.1.classes place ≡ Some was
  pub within : (id : AnnId) → IsIn id was.members → In row id
  pub apart : (a b : AnnId) → IsIn a was.members → IsIn b was.members → rank (new row a) ≡ rank (new row b) → a ≡ b
  pub is : class ≡ renamed_class (new row) was
  pub low : index ≤ place

-- the type that a mark has
abbrev pub type_in : Mark → Option TypeId
type_in (marked.Span span) = Some span.kind
type_in (marked.Event event) = Some event.kind
type_in mark = None

-- what an attribute on a mark is set on
abbrev pub target_in : Mark → Option AttrTarget
target_in (marked.Span span) = Some (Bound span.kind)
target_in (marked.Event event) = Some (Bound event.kind)
target_in (marked.Relation relation) = Some (Between relation.kind)
target_in mark = None

-- what stands under an ID, and what is shown in its place
pub record Shown (layer : Annotations) (row : Row) (id new : AnnId) : Type 0 where
  pub mark : Mark
  pub there : mark_at row.1 id ≡ Some mark
  pub now : Mark
  pub here : mark_at layer new ≡ Some now
  pub type_is : type_in now ≡ type_in mark
  pub target_is : target_in now ≡ target_in mark

-- each mark of a layer is one of some layers, under new IDs: what is known of these is shown in it by an annotation of
-- the same type and letter; and its classes are theirs
pub record IsPart (rows : List Row) (layer : Annotations) (In : Row → AnnId → Type 0) (new : Row → AnnId → AnnId) : Type 0 where
  pub fits : (kind : Kind) (n : ℕ) (mark : Mark) → mark_of layer kind n ≡ Some mark → n ≤ 999999999
  pub from : (id : AnnId) (mark : Mark) → mark_at layer id ≡ Some mark → Origin rows In new id mark
  pub shown : (row : Row) (id : AnnId) → In row id → Shown layer row id (new row id)
  pub letter : (row : Row) (old : AnnId) → In row old → (new row old).kind ≡ curated_letter old.kind
  pub classes : (index : ℕ) (class : Class) → slice_get layer.classes index ≡ Some class → ClassOrigin rows In new index class

-- ---- options and tests

pub none_some : {A X : Type 0} {x : X} → None ≡ Some x → A
none_some {A} {X} {x} e = absurd (no e)
  where
    no : None ≡ Some x → ⊥
    no h = cc

pub unmapped : {X Y : Type 0} (f : X → Y) (o : Option X) → option_map f o ≡ None → o ≡ None
unmapped f None e = refl
unmapped f (Some x) e = none_some (sym e)

pub not_both : {A : Type 0} (b : Bool) → b ≡ true → b ≡ false → A
not_both b so isnt = absurd (let e : true ≡ false = sym so ∙ isnt in cc)

pub so_none : (b : Bool) (rule : Rule) → b ≡ true → where_so b rule ≡ None → ⊥
so_none true rule e h = none_some (sym h)
so_none false rule e h = cc

pub find_none : {X : Type 0} (p : X → Bool) (xs : List X) → ((x : X) → IsIn x xs → p x ≡ false) → find p xs ≡ None
find_none p [] h = refl
find_none p (x ∷ xs) h = ap (λ b. cond b (Some x) (find p xs)) (h x (inl refl)) ∙ find_none p xs (λ y k. h y (inr k))

pub none_found : {X : Type 0} (p : X → Bool) (xs : List X) → find p xs ≡ None → (x : X) → IsIn x xs → p x ≡ false
none_found p [] e x k = absurd k
none_found {X} p (y ∷ ys) e x k =
    elim (p y) as (λ b. p y ≡ b → cond b (Some y) (find p ys) ≡ None → p x ≡ false) [
      | true ↦ λ _ found. none_some (sym found)
      | false ↦ λ no later. elim k [ inl same ↦ ap p same ∙ no | inr m ↦ none_found p ys later x m ]
    ] refl e

pub any_none : {X : Type 0} (p : X → Bool) (xs : List X) → list_any p xs ≡ false → (x : X) → IsIn x xs → p x ≡ false
any_none p [] e x k = absurd k
any_none {X} p (y ∷ ys) e x k =
    elim (p y) as (λ b. p y ≡ b → (b || list_any p ys) ≡ false → p x ≡ false) [
      | true ↦ λ _ h. not_both true refl h
      | false ↦ λ no h. elim k [ inl same ↦ ap p same ∙ no | inr m ↦ any_none p ys h x m ]
    ] refl e

pub find_mapped : {X Y : Type 0} (p : X → Bool) (q : Y → Bool) (f : X → Y) (xs : List X) → ((x : X) → IsIn x xs → q (f x) ≡ p x) → find q (map f xs) ≡ option_map f (find p xs)
find_mapped p q f [] same = refl
find_mapped p q f (x ∷ xs) same =
    ap (λ b. cond b (Some (f x)) (find q (map f xs))) (same x (inl refl))
    ∙ (elim (p x) as (λ b. cond b (Some (f x)) (find q (map f xs)) ≡ option_map f (cond b (Some x) (find p xs))) [
      | true ↦ refl
      | false ↦ find_mapped p q f xs (λ y k. same y (inr k))
    ])

-- ---- what stands under an ID

some_is : {V : Type 0} (wrap : V → Mark) (o : Option V) (mark : Mark) → option_map wrap o ≡ Some mark → is_some o ≡ true
some_is wrap None mark e = none_some e
some_is wrap (Some v) mark e = refl

pub has_marked : (l : Annotations) (kind : Kind) (n : ℕ) (mark : Mark) → mark_of l kind n ≡ Some mark → has_number l kind n ≡ true
has_marked l letter.Text n mark e = some_is marked.Span (finite.get l.spans n) mark e
has_marked l letter.Event n mark e = some_is marked.Event (finite.get l.events n) mark e
has_marked l letter.Relation n mark e = some_is marked.Relation (finite.get l.relations n) mark e
has_marked l letter.Attribute n mark e = some_is marked.Attribute (finite.get l.attributes n) mark e
has_marked l letter.Legacy n mark e = some_is marked.Attribute (finite.get l.legacy n) mark e
has_marked l letter.Normal n mark e = some_is marked.Normal (finite.get l.normals n) mark e
has_marked l letter.Note n mark e = some_is marked.Note (finite.get l.notes n) mark e

any_in : (q : ℕ) (ns : List ℕ) → list_any (eq_by_cmp nat_cmp q) ns ≡ true → IsIn q ns
any_in q [] h = cc
any_in q (n ∷ ns) h =
    elim (eq_by_cmp nat_cmp q n) as (λ b. eq_by_cmp nat_cmp q n ≡ b → (b || list_any (eq_by_cmp nat_cmp q) ns) ≡ true → (q ≡ n) ⊎ IsIn q ns) [
      | true ↦ λ e _. inl (nat_cmp-IsAntisymmetric q n ((Equal-is (nat_cmp q n)).0 e))
      | false ↦ λ _ g. inr (any_in q ns g)
    ] refl h

in_any : (q : ℕ) (ns : List ℕ) → IsIn q ns → list_any (eq_by_cmp nat_cmp q) ns ≡ true
in_any q [] h = absurd h
in_any q (n ∷ ns) h = elim h [
  | inl e ↦
      let tied : eq_by_cmp nat_cmp q n ≡ true = ap (eq_by_cmp nat_cmp q) (sym e) ∙ ap is_eq (tied_itself nat_cmp_total q) in
      ap (λ b. b || list_any (eq_by_cmp nat_cmp q) ns) tied
  | inr k ↦ ap (λ b. eq_by_cmp nat_cmp q n || b) (in_any q ns k) ∙ or_true _
]

pub has_key : {V : Type 0} (m : finite.FinMap nat_cmp V) (n : ℕ) → IsIn n (finite.keys m) → finite.contains_key m n ≡ true
has_key m n k = contains_key-keys m n ∙ in_any n (finite.keys m) k

pub in_keys : {V : Type 0} (m : finite.FinMap nat_cmp V) (n : ℕ) → finite.contains_key m n ≡ true → IsIn n (finite.keys m)
in_keys m n h = any_in n (finite.keys m) (sym (contains_key-keys m n) ∙ h)

pub in_numbers : (l : Annotations) (kind : Kind) (n : ℕ) → has_number l kind n ≡ true → IsIn n (numbers l kind)
in_numbers l letter.Text n e = in_keys l.spans n e
in_numbers l letter.Event n e = in_keys l.events n e
in_numbers l letter.Relation n e = in_keys l.relations n e
in_numbers l letter.Attribute n e = in_keys l.attributes n e
in_numbers l letter.Legacy n e = in_keys l.legacy n e
in_numbers l letter.Normal n e = in_keys l.normals n e
in_numbers l letter.Note n e = in_keys l.notes n e

listed : (l : Annotations) (id : AnnId) (kind : Kind) → IsIn id (ids_of_letter l kind) → IsIn id (ids_of l)
listed l id letter.Text k = IsIn-left _ _ _ k
listed l id letter.Event k = IsIn-right _ (ids_of_letter l letter.Text) _ (IsIn-left _ _ _ k)
listed l id letter.Relation k = IsIn-right _ (ids_of_letter l letter.Text) _ (IsIn-right _ (ids_of_letter l letter.Event) _ (IsIn-left _ _ _ k))
listed l id letter.Attribute k =
    IsIn-right _ (ids_of_letter l letter.Text) _ (IsIn-right _ (ids_of_letter l letter.Event) _ (IsIn-right _ (ids_of_letter l letter.Relation) _ (IsIn-left _ _ _ k)))
listed l id letter.Legacy k =
    IsIn-right _ (ids_of_letter l letter.Text) _ (IsIn-right _ (ids_of_letter l letter.Event) _ (IsIn-right _ (ids_of_letter l letter.Relation) _ (
    IsIn-right _ (ids_of_letter l letter.Attribute) _ (IsIn-left _ _ _ k))))
listed l id letter.Normal k =
    IsIn-right _ (ids_of_letter l letter.Text) _ (IsIn-right _ (ids_of_letter l letter.Event) _ (IsIn-right _ (ids_of_letter l letter.Relation) _ (
    IsIn-right _ (ids_of_letter l letter.Attribute) _ (IsIn-right _ (ids_of_letter l letter.Legacy) _ (IsIn-left _ _ _ k)))))
listed l id letter.Note k =
    IsIn-right _ (ids_of_letter l letter.Text) _ (IsIn-right _ (ids_of_letter l letter.Event) _ (IsIn-right _ (ids_of_letter l letter.Relation) _ (
    IsIn-right _ (ids_of_letter l letter.Attribute) _ (IsIn-right _ (ids_of_letter l letter.Legacy) _ (IsIn-right _ (ids_of_letter l letter.Normal) _ (IsIn-left _ _ _ k))))))

-- an ID with a mark is among the IDs of the layer
pub in_ids : (l : Annotations) (id : AnnId) (mark : Mark) → mark_at l id ≡ Some mark → IsIn id (ids_of l)
in_ids l id mark e =
    subst (λ x. IsIn x (ids_of l)) (id_at-id id)
    (listed l (id_at id.kind id.number) id.kind (IsIn-map (id_at id.kind) id.number (numbers l id.kind) (in_numbers l id.kind id.number (has_marked l id.kind id.number mark e))))

-- ---- the part

module _ (rows : List Row) (layer : Annotations) (In : Row → AnnId → Type 0) (new : Row → AnnId → AnnId) (part : IsPart rows layer In new) where
  -- a rule that breaks nowhere in the layers breaks nowhere in the part
  pub carry : (f : Row → AnnId → Mark → Option Rule) (f' : AnnId → Mark → Option Rule) (g : Row → ℕ → Class → Option Rule) (g' : ℕ → Class → Option Rule)
      → ((id : AnnId) (mark : Mark) (o : Origin rows In new id mark) → f o.row o.old o.was ≡ None → f' (new o.row o.old) (renamed (new o.row) o.was) ≡ None)
      → ((index : ℕ) (class : Class) (o : ClassOrigin rows In new index class) → g o.row o.place o.was ≡ None → g' index (renamed_class (new o.row) o.was) ≡ None)
      → Nowhere rows (λ row. by_place (f row) (g row) row.1) → Never (by_place f' g' layer)
  carry f f' g g' marks classes nowhere (at.Mark id) = split (mark_at layer id) refl
    where
      split : (o : Option Mark) → mark_at layer id ≡ o → option_and_then (f' id) (mark_at layer id) ≡ None
      split None e = ap (option_and_then (f' id)) e
      split (Some mark) e =
          let o : Origin rows In new id mark = part.from id mark e in
          ap (option_and_then (f' id)) e ∙ (λ i. f' (o.id_is i) (o.mark_is i)) ∙ marks id mark o (sym (ap (option_and_then (f o.row o.old)) o.there) ∙ nowhere o.row o.among (at.Mark o.old))
  carry f f' g g' marks classes nowhere (at.Class index) = split (slice_get layer.classes index) refl
    where
      split : (o : Option Class) → slice_get layer.classes index ≡ o → option_and_then (g' index) (slice_get layer.classes index) ≡ None
      split None e = ap (option_and_then (g' index)) e
      split (Some class) e =
          let o : ClassOrigin rows In new index class = part.classes index class e in
          ap (option_and_then (g' index)) e ∙ (λ i. g' index (o.is i)) ∙ classes index class o (sym (ap (option_and_then (g o.row o.place)) o.there) ∙ nowhere o.row o.among (at.Class o.place))

  -- the ID of a span that states an event, by its number
  pub trigger_is : (row : Row) (t : AnnId) → In row t → t.kind ≡ letter.Text → id_at letter.Text (new row t).number ≡ new row t
  trigger_is row t i text = sym (id_of_parts (new row t) letter.Text (new row t).number (part.letter row t i ∙ ap curated_letter text) refl)

  -- what a mark names in the part
  pub names_renamed : (row : Row) (mark : Mark) → ((id : AnnId) → IsIn id (named mark) → In row id) → named_by (renamed (new row) mark) ≡ map (new row) (named mark)
  names_renamed row (marked.Span span) all = refl
  names_renamed row (marked.Event event) all = λ i.
      trigger_is row (trigger_id event) (all (trigger_id event) (inl refl)) refl i
      ∷ (map_map (λ arg. arg.target) (renamed_arg (new row)) event.args ∙ sym (map_map (new row) (λ arg. arg.target) event.args)) i
  names_renamed row (marked.Relation relation) all = refl
  names_renamed row (marked.Attribute attribute) all = refl
  names_renamed row (marked.Normal normal) all = refl
  names_renamed row (marked.Note note) all = refl
