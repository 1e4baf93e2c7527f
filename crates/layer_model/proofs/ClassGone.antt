-- An ID that leaves the classes: where it stood in none they stay, and it leaves those of a type once.
use Rattle.std.proofs.Common.{◌≡◌, ℕ, ◌==◌, ◌||◌, ◌&&◌, not, nat_lt, Bool, true, false, List, [], ◌∷◌, length, refl, sym, ◌∙◌, ap, subst, cond, Option, Some, None, unwrap_or}
use Rattle.std.proofs.lemmas.Bool.{eq-eqb, eqb-true}
use Rattle.std.specs.List.{AllByRecursion, list_any, filter}
use Rattle.mark_base.specs.declared.ann_id.AnnId.{AnnId}
use Rattle.layer_model.specs.declared.class.Class.{Class}
use Rattle.layer_model.specs.Classes.{rank, has_rank, has_member, class_with, other_classes, without_member, settled, settled_rest, parted, insert_class, comes_before, AreDisjoint, Precedes, AreClasses, IsClassList}
use Rattle.layer_model.proofs.ClassPart.{part_none, has_rank-filter}

-- the ID of this place stands in one of the classes
abbrev pub is_held : ℕ → List Class → Bool
is_held place classes = list_any (λ class. has_rank place class.members) classes

-- ---- a disjunction that is false

first_false : (a b : Bool) → (a || b) ≡ false → a ≡ false
first_false true b e = e
first_false false b e = refl

last_false : (a b : Bool) → (a || b) ≡ false → b ≡ false
last_false true b e = absurd (let f : true ≡ false = e in cc)
last_false false b e = e

none_of : (a b : Bool) → a ≡ false → b ≡ false → (a || b) ≡ false
none_of true b e f = e
none_of false b e f = f

with_false : (a b : Bool) → b ≡ false → (a && b) ≡ false
with_false true b e = e
with_false false b e = refl

swapped : (a b c : Bool) → (a || (b || c)) ≡ (b || (a || c))
swapped true true c = refl
swapped true false c = refl
swapped false b c = refl

-- ---- a class put in its place

any_insert : (test : Class → Bool) (class : Class) (classes : List Class) → list_any test (insert_class class classes) ≡ (test class || list_any test classes)
any_insert test class [] = refl
any_insert test class (x ∷ xs) =
    elim (comes_before class x) as (λ b. list_any test (cond b (class ∷ x ∷ xs) (x ∷ insert_class class xs)) ≡ (test class || (test x || list_any test xs))) [
      | true ↦ refl
      | false ↦ ap (λ b. test x || b) (any_insert test class xs) ∙ swapped (test x) (test class) _
    ]

any_settled : (test : Class → Bool) (class : Class) (classes : List Class) → test class ≡ false → list_any test classes ≡ false → list_any test (settled class classes) ≡ false
any_settled test class classes misses none =
    elim (nat_lt (length class.members) 2) as (λ b. list_any test (cond b classes (insert_class class classes)) ≡ false) [
      | true ↦ none
      | false ↦ any_insert test class classes ∙ none_of (test class) (list_any test classes) misses none
    ]

-- ---- an ID that stands in no class

pub none_held : (kind : ℕ) (id : AnnId) (classes : List Class) → is_held (rank id) classes ≡ false → class_with kind id classes ≡ None
none_held kind id [] e = refl
none_held kind id (x ∷ xs) e =
    ap (λ b. cond b (Some x) (class_with kind id xs)) (with_false (x.kind.n == kind) (has_rank (rank id) x.members) (first_false _ _ e))
    ∙ none_held kind id xs (last_false (has_rank (rank id) x.members) (is_held (rank id) xs) e)

pub parted_absent : (kind : ℕ) (id : AnnId) (classes : List Class) → is_held (rank id) classes ≡ false → parted kind id classes ≡ classes
parted_absent kind id classes e = sym (part_none kind id classes (none_held kind id classes e))

others_held : (place kind : ℕ) (id : AnnId) (classes : List Class) → is_held place classes ≡ false → is_held place (other_classes kind id classes) ≡ false
others_held place kind id [] e = refl
others_held place kind id (x ∷ xs) e =
    elim (has_member kind id x) as (λ b. is_held place (cond b xs (x ∷ other_classes kind id xs)) ≡ false) [
      | true ↦ last_false (has_rank place x.members) (is_held place xs) e
      | false ↦ none_of (has_rank place x.members) _ (first_false _ (is_held place xs) e) (others_held place kind id xs (last_false (has_rank place x.members) (is_held place xs) e))
    ]

found_held : (place kind : ℕ) (id : AnnId) (classes : List Class) (class : Class) → is_held place classes ≡ false → class_with kind id classes ≡ Some class → has_rank place class.members ≡ false
found_held place kind id [] class e f = absurd (let g : ◌≡◌ {A = Option Class} None (Some class) = f in cc)
found_held place kind id (x ∷ xs) class e f =
    elim (has_member kind id x) as (λ b. cond b (Some x) (class_with kind id xs) ≡ Some class → has_rank place class.members ≡ false) [
      | true ↦ λ g. subst (λ k. has_rank place k.members ≡ false) (ap (λ o. unwrap_or o x) g) (first_false (has_rank place x.members) (is_held place xs) e)
      | false ↦ λ g. found_held place kind id xs class (last_false (has_rank place x.members) (is_held place xs) e) g
    ] f

fewer : (test : AnnId → Bool) (ids : List AnnId) (place : ℕ) → has_rank place ids ≡ false → has_rank place (filter test ids) ≡ false
fewer test ids place e =
    elim (has_rank place (filter test ids)) as (λ b. has_rank place (filter test ids) ≡ b → b ≡ false) [
      | true ↦ λ h. absurd (let there : has_rank place ids ≡ true = has_rank-filter test ids place h in cc)
      | false ↦ λ _. refl
    ] refl

-- what stands in no class stands in none after a parting
pub parted_held : (place kind : ℕ) (id : AnnId) (classes : List Class) → is_held place classes ≡ false → is_held place (parted kind id classes) ≡ false
parted_held place kind id classes e =
    elim (class_with kind id classes) as (λ o. class_with kind id classes ≡ o → is_held place (settled_rest id o (other_classes kind id classes)) ≡ false) [
      | None ↦ λ _. others_held place kind id classes e
      | Some class ↦ λ f. any_settled (λ c. has_rank place c.members) (without_member id class) (other_classes kind id classes)
          (fewer _ class.members place (found_held place kind id classes class e f)) (others_held place kind id classes e)
    ] refl

-- ---- an ID that has left a class of a type

itself : (n : ℕ) → (n == n) ≡ true
itself n = eq-eqb n n refl

left_out : (place : ℕ) (ids : List AnnId) → has_rank place (filter (λ member. not (rank member == place)) ids) ≡ false
left_out place [] = refl
left_out place (x ∷ xs) =
    elim (rank x == place) as (λ b. (rank x == place) ≡ b → has_rank place (cond (not b) (x ∷ filter (λ member. not (rank member == place)) xs) (filter (λ member. not (rank member == place)) xs)) ≡ false) [
      | true ↦ λ _. left_out place xs
      | false ↦ λ e. none_of (rank x == place) _ e (left_out place xs)
    ] refl

second_true : (a b : Bool) → (a && b) ≡ true → b ≡ true
second_true true b e = e
second_true false b e = absurd (let f : false ≡ true = e in cc)

first_true : (a b : Bool) → (a && b) ≡ true → a ≡ true
first_true true b e = refl
first_true false b e = e

apart_member : (kind : ℕ) (id : AnnId) (class other : Class) → AreDisjoint class other → has_member kind id class ≡ true → has_member kind id other ≡ false
apart_member kind id class other apart e =
    elim (other.kind.n == kind) as (λ b. (other.kind.n == kind) ≡ b → (b && has_rank (rank id) other.members) ≡ false) [
      | true ↦ λ f.
          let same : class.kind.n ≡ other.kind.n = eqb-true class.kind.n kind (first_true (class.kind.n == kind) (has_rank (rank id) class.members) e) ∙ sym (eqb-true other.kind.n kind f) in
          apart same (rank id) (second_true (class.kind.n == kind) (has_rank (rank id) class.members) e)
      | false ↦ λ _. refl
    ] refl

all_apart : (kind : ℕ) (id : AnnId) (class : Class) (classes : List Class) → AllByRecursion (Precedes class) classes → has_member kind id class ≡ true → list_any (has_member kind id) classes ≡ false
all_apart kind id class [] all e = refl
all_apart kind id class (x ∷ xs) all e = none_of (has_member kind id x) _ (apart_member kind id class x all.0.disjoint e) (all_apart kind id class xs all.1 e)

others_without : (kind : ℕ) (id : AnnId) (classes : List Class) → AreClasses classes → list_any (has_member kind id) (other_classes kind id classes) ≡ false
others_without kind id [] all = refl
others_without kind id (x ∷ xs) all =
    elim (has_member kind id x) as (λ b. has_member kind id x ≡ b → list_any (has_member kind id) (cond b xs (x ∷ other_classes kind id xs)) ≡ false) [
      | true ↦ λ e. all_apart kind id x xs all.1 e
      | false ↦ λ e. none_of (has_member kind id x) _ e (others_without kind id xs all.2)
    ] refl

none_with : (kind : ℕ) (id : AnnId) (classes : List Class) → list_any (has_member kind id) classes ≡ false → class_with kind id classes ≡ None
none_with kind id [] e = refl
none_with kind id (x ∷ xs) e =
    ap (λ b. cond b (Some x) (class_with kind id xs)) (first_false (has_member kind id x) _ e) ∙ none_with kind id xs (last_false (has_member kind id x) _ e)

parted_without : (kind : ℕ) (id : AnnId) (classes : List Class) → AreClasses classes → list_any (has_member kind id) (parted kind id classes) ≡ false
parted_without kind id classes all =
    elim (class_with kind id classes) as (λ o. list_any (has_member kind id) (settled_rest id o (other_classes kind id classes)) ≡ false) [
      | None ↦ others_without kind id classes all
      | Some class ↦ any_settled (has_member kind id) (without_member id class) (other_classes kind id classes)
          (with_false (class.kind.n == kind) _ (left_out (rank id) class.members)) (others_without kind id classes all)
    ]

-- a second parting from the classes of one type changes nothing
pub parted_twice : (kind : ℕ) (id : AnnId) (classes : List Class) → IsClassList classes → parted kind id (parted kind id classes) ≡ parted kind id classes
parted_twice kind id classes all = sym (part_none kind id (parted kind id classes) (none_with kind id (parted kind id classes) (parted_without kind id classes all.ordered)))
