-- What stands under the other IDs where a layer is changed under one.
use Rattle.std.proofs.Common.{◌≡◌, ℕ, ◌+◌, ◌*◌, ◌==◌, Bool, true, false, ◌&&◌, ◌||◌, cond, List, [], ◌∷◌, map, Option, Some, None, option_map, option_and_then, is_some, ◌≤◌, refl, sym, ◌∙◌, ap, eq-eqb, arith}
use Rattle.std.proofs.lemmas.Bool.{eqb-true}
use Rattle.std.specs.List.{AllByRecursion, find, list_any}
use Rattle.std.specs.Ordering.{nat_cmp, eq_by_cmp}
use Rattle.std.specs.Cmp.{nat_cmp_total}
use Rattle.std.specs.FinMap as finite
use Rattle.std.specs.FinMap.{get-insert, get-remove}
use Rattle.mark_base.specs.declared.ann_id.AnnId.{AnnId}
use Rattle.mark_base.specs.declared.ann_id.Kind.{Kind}
use Rattle.mark_base.specs.declared.ann_id.Kind.TheVariants as letter
use Rattle.mark_base.proofs.IdLemmas.{id_at-id, id_of_parts}
use Rattle.layer_model.specs.declared.span.Span.{Span}
use Rattle.layer_model.specs.declared.event.Event.{Event}
use Rattle.layer_model.specs.declared.relation.Relation.{Relation}
use Rattle.layer_model.specs.declared.attribute.Attribute.{Attribute}
use Rattle.layer_model.specs.declared.normal.Normal.{Normal}
use Rattle.layer_model.specs.declared.note.Note.{Note}
use Rattle.layer_model.specs.declared.mark.Mark.{Mark}
use Rattle.layer_model.specs.declared.mark.Mark.TheVariants as marked
use Rattle.layer_model.specs.declared.rule.Rule.{Rule}
use Rattle.layer_model.specs.Annotations.{Annotations}
use Rattle.layer_model.specs.Classes.{letter_place, rank}
use Rattle.layer_model.specs.Layers.{mark_at, mark_of, with_marked, without_number}
use Rattle.layer_rules.specs.MarkRules.{where_so}
use Rattle.layer_rules.specs.LayerRules.{is_id}
use Rattle.layer_core.specs.Backs.{DiffersUnder, with_this}
use Rattle.layer_rules.proofs.LawLemmas.{same_number}
use Rattle.layer_core.proofs.GoneLemmas.{same_classes}

-- ---- small steps

pub no_some : {X : Type 0} {x : X} → None ≡ Some x → ⊥
no_some e = cc

pub unmapped : {X Y : Type 0} (f : X → Y) (o : Option X) → option_map f o ≡ None → o ≡ None
unmapped f None e = refl
unmapped f (Some x) e = absurd (no_some (sym e))

pub not_so : (b : Bool) (rule : Rule) → where_so b rule ≡ None → b ≡ false
not_so true rule e = absurd (no_some (sym e))
not_so false rule e = refl

pub first_false : (a b : Bool) → (a || b) ≡ false → a ≡ false
first_false true b e = e
first_false false b e = refl

pub last_false : (a b : Bool) → (a || b) ≡ false → b ≡ false
last_false true b e = absurd (let f : true ≡ false = e in cc)
last_false false b e = e

pub with_false : (a : Bool) → (a && false) ≡ false
with_false true = refl
with_false false = refl

-- a mark that is made so is no event
pub not_made : {X : Type 0} (make : X → Mark) (o : Option X) (event : Event) → ((x : X) → make x ≡ marked.Event event → ⊥) → option_map make o ≡ Some (marked.Event event) → ⊥
not_made make None event other e = no_some e
not_made make (Some x) event other e = other x (some_mark e)
  where
    some_mark : {m n : Mark} → Some m ≡ Some n → m ≡ n
    some_mark f = cc

pub some_mapped : {X Y : Type 0} (f : X → Y) (o : Option X) → is_some o ≡ is_some (option_map f o)
some_mapped f None = refl
some_mapped f (Some x) = refl

pub then_mapped : {X Y Z : Type 0} (f : X → Y) (g : Y → Option Z) (h : X → Z) (o : Option X) → ((x : X) → g (f x) ≡ Some (h x)) → option_map h o ≡ option_and_then g (option_map f o)
then_mapped f g h None same = refl
then_mapped f g h (Some x) same = sym (same x)

pub then_none : {X Y Z : Type 0} (f : X → Y) (g : Y → Option Z) (o : Option X) → ((x : X) → g (f x) ≡ None) → None ≡ option_and_then g (option_map f o)
then_none f g None none = refl
then_none f g (Some x) none = sym (none x)

-- what is so of each of some
pub all_of : {X : Type 0} (P : X → Type 0) (xs : List X) → ((x : X) → P x) → AllByRecursion P xs
all_of P [] all = tt
all_of P (x ∷ xs) all = (all x, all_of P xs all)

pub along : {X : Type 0} (P Q : X → Type 0) (xs : List X) → ((x : X) → P x → Q x) → AllByRecursion P xs → AllByRecursion Q xs
along P Q [] f all = tt
along P Q (x ∷ xs) f all = (f x all.0, along P Q xs f all.1)

pub of_mapped : {X Y : Type 0} (P : Y → Type 0) (f : X → Y) (xs : List X) → AllByRecursion P (map f xs) → AllByRecursion (λ x. P (f x)) xs
of_mapped P f [] all = tt
of_mapped P f (x ∷ xs) all = (all.0, of_mapped P f xs all.1)

pub none_any : {X : Type 0} (test : X → Bool) (xs : List X) → list_any test xs ≡ false → AllByRecursion (λ x. test x ≡ false) xs
none_any test [] e = tt
none_any test (x ∷ xs) e = (first_false (test x) (list_any test xs) e, none_any test xs (last_false (test x) (list_any test xs) e))

pub same_any : {X : Type 0} (p q : X → Bool) (xs : List X) → AllByRecursion (λ x. p x ≡ q x) xs → list_any p xs ≡ list_any q xs
same_any p q [] all = refl
same_any p q (x ∷ xs) all = ap (λ b. b || list_any p xs) all.0 ∙ ap (λ b. q x || b) (same_any p q xs all.1)

pub same_find : {X : Type 0} (p q : X → Bool) (xs : List X) → AllByRecursion (λ x. p x ≡ q x) xs → find p xs ≡ find q xs
same_find p q [] all = refl
same_find p q (x ∷ xs) all = ap (λ b. cond b (Some x) (find p xs)) all.0 ∙ ap (cond (q x) (Some x)) (same_find p q xs all.1)

pub same_mapped : {X Y : Type 0} (f g : X → Y) (xs : List X) → AllByRecursion (λ x. f x ≡ g x) xs → map f xs ≡ map g xs
same_mapped f g [] all = refl
same_mapped f g (x ∷ xs) all = ap (λ y. y ∷ map f xs) all.0 ∙ ap (λ ys. g x ∷ ys) (same_mapped f g xs all.1)

pub find_nothing : {X : Type 0} (p : X → Bool) (xs : List X) → ((x : X) → p x ≡ false) → find p xs ≡ None
find_nothing p [] none = refl
find_nothing p (x ∷ xs) none = ap (λ b. cond b (Some x) (find p xs)) (none x) ∙ find_nothing p xs none

-- ---- what stands under other IDs

other_number : (letter_at n q : ℕ) → (letter_at * 1000000000 + n == letter_at * 1000000000 + q) ≡ false → eq_by_cmp nat_cmp q n ≡ false
other_number letter_at n q apart = split (eq_by_cmp nat_cmp q n) refl
  where
    split : (b : Bool) → eq_by_cmp nat_cmp q n ≡ b → b ≡ false
    split false is = refl
    split true is =
        absurd (let e : (letter_at * 1000000000 + n == letter_at * 1000000000 + q) ≡ true = eq-eqb _ _ (ap (λ k. letter_at * 1000000000 + k) (same_number q n is)) in let f : true ≡ false = sym e ∙ apart in cc)

-- two places are the same
abbrev pub is_place : Kind → ℕ → Kind → ℕ → Bool
is_place kind n other q = letter_place kind * 1000000000 + n == letter_place other * 1000000000 + q

removed_elsewhere : {X : Type 0} (make : X → Mark) (m : finite.FinMap nat_cmp X) (n q : ℕ) → eq_by_cmp nat_cmp q n ≡ false → option_map make (finite.get (finite.remove m n) q) ≡ option_map make (finite.get m q)
removed_elsewhere make m n q e = ap (option_map make) (get-remove nat_cmp_total m n q ∙ ap (λ b. cond b None (finite.get m q)) e)

inserted_elsewhere : {X : Type 0} (make : X → Mark) (m : finite.FinMap nat_cmp X) (n q : ℕ) (x : X) → eq_by_cmp nat_cmp q n ≡ false → option_map make (finite.get (finite.insert m n x) q) ≡ option_map make (finite.get m q)
inserted_elsewhere make m n q x e = ap (option_map make) (get-insert nat_cmp_total m n x q ∙ ap (λ b. cond b (Some x) (finite.get m q)) e)

pub without_elsewhere : (l : Annotations) (kind other : Kind) (n q : ℕ) → is_place kind n other q ≡ false → mark_of (without_number l kind n) other q ≡ mark_of l other q
without_elsewhere l letter.Text letter.Text n q e = removed_elsewhere marked.Span l.spans n q (other_number 0 n q e)
without_elsewhere l letter.Event letter.Event n q e = removed_elsewhere marked.Event l.events n q (other_number 1 n q e)
without_elsewhere l letter.Relation letter.Relation n q e = removed_elsewhere marked.Relation l.relations n q (other_number 2 n q e)
without_elsewhere l letter.Attribute letter.Attribute n q e = removed_elsewhere marked.Attribute l.attributes n q (other_number 3 n q e)
without_elsewhere l letter.Legacy letter.Legacy n q e = removed_elsewhere marked.Attribute l.legacy n q (other_number 4 n q e)
without_elsewhere l letter.Normal letter.Normal n q e = removed_elsewhere marked.Normal l.normals n q (other_number 5 n q e)
without_elsewhere l letter.Note letter.Note n q e = removed_elsewhere marked.Note l.notes n q (other_number 6 n q e)
without_elsewhere l kind other n q e = refl

text_elsewhere : (l : Annotations) (other : Kind) (n q : ℕ) (x : Span) → is_place letter.Text n other q ≡ false → mark_of (record l { spans = finite.insert l.spans n x }) other q ≡ mark_of l other q
text_elsewhere l letter.Text n q x e = inserted_elsewhere marked.Span l.spans n q x (other_number 0 n q e)
text_elsewhere l other n q x e = refl

event_elsewhere : (l : Annotations) (other : Kind) (n q : ℕ) (x : Event) → is_place letter.Event n other q ≡ false → mark_of (record l { events = finite.insert l.events n x }) other q ≡ mark_of l other q
event_elsewhere l letter.Event n q x e = inserted_elsewhere marked.Event l.events n q x (other_number 1 n q e)
event_elsewhere l other n q x e = refl

relation_elsewhere : (l : Annotations) (other : Kind) (n q : ℕ) (x : Relation) → is_place letter.Relation n other q ≡ false → mark_of (record l { relations = finite.insert l.relations n x }) other q ≡ mark_of l other q
relation_elsewhere l letter.Relation n q x e = inserted_elsewhere marked.Relation l.relations n q x (other_number 2 n q e)
relation_elsewhere l other n q x e = refl

attribute_elsewhere : (l : Annotations) (other : Kind) (n q : ℕ) (x : Attribute) → is_place letter.Attribute n other q ≡ false → mark_of (record l { attributes = finite.insert l.attributes n x }) other q ≡ mark_of l other q
attribute_elsewhere l letter.Attribute n q x e = inserted_elsewhere marked.Attribute l.attributes n q x (other_number 3 n q e)
attribute_elsewhere l other n q x e = refl

legacy_elsewhere : (l : Annotations) (other : Kind) (n q : ℕ) (x : Attribute) → is_place letter.Legacy n other q ≡ false → mark_of (record l { legacy = finite.insert l.legacy n x }) other q ≡ mark_of l other q
legacy_elsewhere l letter.Legacy n q x e = inserted_elsewhere marked.Attribute l.legacy n q x (other_number 4 n q e)
legacy_elsewhere l other n q x e = refl

normal_elsewhere : (l : Annotations) (other : Kind) (n q : ℕ) (x : Normal) → is_place letter.Normal n other q ≡ false → mark_of (record l { normals = finite.insert l.normals n x }) other q ≡ mark_of l other q
normal_elsewhere l letter.Normal n q x e = inserted_elsewhere marked.Normal l.normals n q x (other_number 5 n q e)
normal_elsewhere l other n q x e = refl

note_elsewhere : (l : Annotations) (other : Kind) (n q : ℕ) (x : Note) → is_place letter.Note n other q ≡ false → mark_of (record l { notes = finite.insert l.notes n x }) other q ≡ mark_of l other q
note_elsewhere l letter.Note n q x e = inserted_elsewhere marked.Note l.notes n q x (other_number 6 n q e)
note_elsewhere l other n q x e = refl

marked_elsewhere : (l : Annotations) (kind other : Kind) (n q : ℕ) (mark : Mark) → is_place kind n other q ≡ false → mark_of (with_marked l kind n mark) other q ≡ mark_of l other q
marked_elsewhere l letter.Text other n q (marked.Span x) e = text_elsewhere l other n q x e
marked_elsewhere l letter.Event other n q (marked.Event x) e = event_elsewhere l other n q x e
marked_elsewhere l letter.Relation other n q (marked.Relation x) e = relation_elsewhere l other n q x e
marked_elsewhere l letter.Attribute other n q (marked.Attribute x) e = attribute_elsewhere l other n q x e
marked_elsewhere l letter.Legacy other n q (marked.Attribute x) e = legacy_elsewhere l other n q x e
marked_elsewhere l letter.Normal other n q (marked.Normal x) e = normal_elsewhere l other n q x e
marked_elsewhere l letter.Note other n q (marked.Note x) e = note_elsewhere l other n q x e
marked_elsewhere l kind other n q mark e = refl

pub this_elsewhere : (l : Annotations) (kind other : Kind) (n q : ℕ) (this : Option Mark) → is_place kind n other q ≡ false → mark_of (with_this l kind n this) other q ≡ mark_of l other q
this_elsewhere l kind other n q None e = without_elsewhere l kind other n q e
this_elsewhere l kind other n q (Some mark) e = marked_elsewhere l kind other n q mark e

marked_classes : (l : Annotations) (kind : Kind) (n : ℕ) (mark : Mark) → (with_marked l kind n mark).classes ≡ l.classes
marked_classes l letter.Text n (marked.Span x) = refl
marked_classes l letter.Event n (marked.Event x) = refl
marked_classes l letter.Relation n (marked.Relation x) = refl
marked_classes l letter.Attribute n (marked.Attribute x) = refl
marked_classes l letter.Legacy n (marked.Attribute x) = refl
marked_classes l letter.Normal n (marked.Normal x) = refl
marked_classes l letter.Note n (marked.Note x) = refl
marked_classes l kind n mark = refl

this_classes : (l : Annotations) (kind : Kind) (n : ℕ) (this : Option Mark) → (with_this l kind n this).classes ≡ l.classes
this_classes l kind n None = same_classes l kind n
this_classes l kind n (Some mark) = marked_classes l kind n mark

-- one place has one ID
one_letter : (a b : Kind) → letter_place a ≡ letter_place b → a ≡ b
one_letter letter.Text letter.Text e = refl
one_letter letter.Event letter.Event e = refl
one_letter letter.Relation letter.Relation e = refl
one_letter letter.Attribute letter.Attribute e = refl
one_letter letter.Legacy letter.Legacy e = refl
one_letter letter.Normal letter.Normal e = refl
one_letter letter.Note letter.Note e = refl
one_letter a b e = absurd (omega (arith, e))

pub one_id : (a b : AnnId) → is_id a b ≡ true → a ≡ b
one_id a b is =
    let e : letter_place a.kind * 1000000000 + a.number ≡ letter_place b.kind * 1000000000 + b.number = eqb-true (rank a) (rank b) is in
    let low : a.number ≤ 999999999 = a.within in
    let high : b.number ≤ 999999999 = b.within in
    let kinds : letter_place a.kind ≡ letter_place b.kind = omega (arith, e, low, high) in
    let numbers_ : a.number ≡ b.number = omega (arith, e, kinds) in
    id_of_parts a b.kind b.number (one_letter a.kind b.kind kinds) numbers_ ∙ id_at-id b

-- a layer has the same marks as another but under one ID
abbrev pub MarksBut : Annotations → Annotations → AnnId → Type 0
MarksBut layer earlier id = (other : AnnId) → is_id id other ≡ false → mark_at layer other ≡ mark_at earlier other

-- and the same classes
pub record AlikeBut (layer earlier : Annotations) (id : AnnId) : Type 0 where
  pub marks : MarksBut layer earlier id
  pub classes : layer.classes ≡ earlier.classes

pub alike : (layer earlier : Annotations) (id : AnnId) → DiffersUnder layer id earlier → AlikeBut layer earlier id
alike layer earlier id differs =
    record {
      marks = λ other apart.
          sym (this_elsewhere layer id.kind other.kind id.number other.number (mark_at earlier id) apart) ∙ ap (λ l. mark_at l other) differs;
      classes = sym (this_classes layer id.kind id.number (mark_at earlier id)) ∙ ap (λ (l : Annotations). l.classes) differs;
    }
