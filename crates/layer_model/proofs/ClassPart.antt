-- Parting keeps the classes in their order and disjoint.
use Rattle.std.proofs.Common.{◌≡◌, ℕ, ◌<◌, ◌≤◌, ◌==◌, ◌||◌, nat_lt, suc, Bool, true, false, List, [], ◌∷◌, length, map, get_or, drop, drop-cons, refl, sym, ◌∙◌, ap, subst, cond, Option, Some, None, unwrap_or, arith}
use Rattle.std.proofs.lemmas.Bool.Decides.{nat_tests}
use Rattle.std.proofs.lemmas.Option.{slice_get-get_or}
use Rattle.std.specs.Ordering.{nat_cmp}
use Rattle.std.specs.List.{AllByRecursion, list_any, filter, slice_get, remove}
use Rattle.std.specs.List.Sorted.{IsStrictlySortedBy}
use Rattle.std.specs.declared.cmp.Ordering.TheVariants.{Less}
use Rattle.mark_base.specs.declared.ann_id.AnnId.{AnnId}
use Rattle.layer_model.specs.declared.class.Class.{Class}
use Rattle.layer_model.specs.Classes.{rank, has_rank, Ascends, has_member, class_with, other_classes, without_member, settled, settled_rest, parted, insert_class, IsClass, AreDisjoint, Precedes, AreClasses, IsClassList}
use Rattle.layer_model.proofs.ClassOrder.{AreClasses-insert, length-insert_class, disjoint-sym}

All-others : (P : Class → Type 0) (kind : ℕ) (id : AnnId) (classes : List Class) → AllByRecursion P classes → AllByRecursion P (other_classes kind id classes)
All-others P kind id [] all = tt
All-others P kind id (x ∷ xs) all =
    elim (has_member kind id x) as (λ b. AllByRecursion P (cond b xs (x ∷ other_classes kind id xs))) [
      | true ↦ all.1
      | false ↦ (all.0, All-others P kind id xs all.1)
    ]

pub AreClasses-others : (kind : ℕ) (id : AnnId) (classes : List Class) → AreClasses classes → AreClasses (other_classes kind id classes)
AreClasses-others kind id [] all = tt
AreClasses-others kind id (x ∷ xs) all =
    elim (has_member kind id x) as (λ b. AreClasses (cond b xs (x ∷ other_classes kind id xs))) [
      | true ↦ all.2
      | false ↦ (all.0, All-others (Precedes x) kind id xs all.1, AreClasses-others kind id xs all.2)
    ]

All-found : (P : Class → Type 0) (kind : ℕ) (id : AnnId) (classes : List Class) (class : Class) → AllByRecursion P classes → class_with kind id classes ≡ Some class → P class
All-found P kind id [] class all e = absurd (let e2 : ◌≡◌ {A = Option Class} None (Some class) = e in cc)
All-found P kind id (x ∷ xs) class all e =
    elim (has_member kind id x) as (λ b. cond b (Some x) (class_with kind id xs) ≡ Some class → P class) [
      | true ↦ λ f. subst P (ap (λ o. unwrap_or o x) f) all.0
      | false ↦ λ f. All-found P kind id xs class all.1 f
    ] e

found_is : (kind : ℕ) (id : AnnId) (classes : List Class) (class : Class) → AreClasses classes → class_with kind id classes ≡ Some class → IsClass class
found_is kind id [] class all e = absurd (let e2 : ◌≡◌ {A = Option Class} None (Some class) = e in cc)
found_is kind id (x ∷ xs) class all e =
    elim (has_member kind id x) as (λ b. cond b (Some x) (class_with kind id xs) ≡ Some class → IsClass class) [
      | true ↦ λ f. subst IsClass (ap (λ o. unwrap_or o x) f) all.0
      | false ↦ λ f. found_is kind id xs class all.2 f
    ] e

disjoint_each : (class : Class) (classes : List Class) → AllByRecursion (Precedes class) classes → AllByRecursion (λ other. AreDisjoint class other) classes
disjoint_each class [] all = tt
disjoint_each class (x ∷ xs) all = (all.0.disjoint, disjoint_each class xs all.1)

found_apart : (kind : ℕ) (id : AnnId) (classes : List Class) (class : Class) → AreClasses classes → class_with kind id classes ≡ Some class → AllByRecursion (λ other. AreDisjoint class other) (other_classes kind id classes)
found_apart kind id [] class all e = tt
found_apart kind id (x ∷ xs) class all e =
    elim (has_member kind id x) as (λ b. cond b (Some x) (class_with kind id xs) ≡ Some class → AllByRecursion (λ other. AreDisjoint class other) (cond b xs (x ∷ other_classes kind id xs))) [
      | true ↦ λ f. subst (λ k. AllByRecursion (λ other. AreDisjoint k other) xs) (ap (λ o. unwrap_or o x) f) (disjoint_each x xs all.1)
      | false ↦ λ f. (disjoint-sym x class (All-found (Precedes x) kind id xs class all.1 f).disjoint, found_apart kind id xs class all.2 f)
    ] e

length-others : (kind : ℕ) (id : AnnId) (classes : List Class) (class : Class) → class_with kind id classes ≡ Some class → suc (length (other_classes kind id classes)) ≡ length classes
length-others kind id [] class e = absurd (let e2 : ◌≡◌ {A = Option Class} None (Some class) = e in cc)
length-others kind id (x ∷ xs) class e =
    elim (has_member kind id x) as (λ b. cond b (Some x) (class_with kind id xs) ≡ Some class → suc (length (cond b xs (x ∷ other_classes kind id xs))) ≡ suc (length xs)) [
      | true ↦ λ _. refl
      | false ↦ λ f. ap suc (length-others kind id xs class f)
    ] e

pub others_none : (kind : ℕ) (id : AnnId) (classes : List Class) → class_with kind id classes ≡ None → other_classes kind id classes ≡ classes
others_none kind id [] e = refl
others_none kind id (x ∷ xs) e =
    elim (has_member kind id x) as (λ b. cond b (Some x) (class_with kind id xs) ≡ None → cond b xs (x ∷ other_classes kind id xs) ≡ x ∷ xs) [
      | true ↦ λ f. absurd (let f2 : ◌≡◌ {A = Option Class} (Some x) None = f in cc)
      | false ↦ λ f. ap (λ ys. x ∷ ys) (others_none kind id xs f)
    ] e

-- ---- a class less one member

All-kept : (P : ℕ → Type 0) (test : AnnId → Bool) (ids : List AnnId) → AllByRecursion P (map rank ids) → AllByRecursion P (map rank (filter test ids))
All-kept P test [] all = tt
All-kept P test (x ∷ xs) all =
    elim (test x) as (λ b. AllByRecursion P (map rank (cond b (x ∷ filter test xs) (filter test xs)))) [
      | true ↦ (all.0, All-kept P test xs all.1)
      | false ↦ All-kept P test xs all.1
    ]

Ascends-filter : (test : AnnId → Bool) (ids : List AnnId) → Ascends ids → Ascends (filter test ids)
unfolding IsStrictlySortedBy
Ascends-filter test [] up = tt
Ascends-filter test (x ∷ xs) up =
    elim (test x) as (λ b. Ascends (cond b (x ∷ filter test xs) (filter test xs))) [
      | true ↦ (All-kept (λ y. nat_cmp (rank x) y ≡ Less) test xs up.0, Ascends-filter test xs up.1)
      | false ↦ Ascends-filter test xs up.1
    ]

pub has_rank-filter : (test : AnnId → Bool) (ids : List AnnId) (place : ℕ) → has_rank place (filter test ids) ≡ true → has_rank place ids ≡ true
has_rank-filter test [] place h = h
has_rank-filter test (x ∷ xs) place h =
    elim (test x) as (λ b. has_rank place (cond b (x ∷ filter test xs) (filter test xs)) ≡ true → ((rank x == place) || has_rank place xs) ≡ true) [
      | true ↦ λ g. elim (rank x == place) as (λ v. (v || has_rank place (filter test xs)) ≡ true → (v || has_rank place xs) ≡ true) [
        | true ↦ λ _. refl
        | false ↦ λ k. has_rank-filter test xs place k
      ] g
      | false ↦ λ g. or_right (rank x == place) _ (has_rank-filter test xs place g)
    ] h
  where
    or_right : (a b : Bool) → b ≡ true → (a || b) ≡ true
    or_right true b e = refl
    or_right false b e = e

rest_apart : (id : AnnId) (class : Class) (classes : List Class) → AllByRecursion (λ other. AreDisjoint class other) classes → AllByRecursion (λ other. AreDisjoint (without_member id class) other) classes
rest_apart id class [] all = tt
rest_apart id class (x ∷ xs) all = (λ same place h. all.0 same place (has_rank-filter _ class.members place h), rest_apart id class xs all.1)

settled_kept : (id : AnnId) (class : Class) (classes : List Class) → IsClass class → AreClasses classes → AllByRecursion (λ other. AreDisjoint class other) classes → AreClasses (settled (without_member id class) classes)
settled_kept id class classes is all apart =
    elim (nat_lt (length (without_member id class).members) 2) as (λ b. nat_lt (length (without_member id class).members) 2 ≡ b
    → AreClasses (cond b classes (insert_class (without_member id class) classes))) [
      | true ↦ λ _. all
      | false ↦ λ e. AreClasses-insert (without_member id class) classes (record { some = enough _ e; ascends = Ascends-filter _ class.members is.ascends }) all (rest_apart id class classes apart)
    ] refl
  where
    enough : (n : ℕ) → nat_lt n 2 ≡ false → 0 < n
    enough n e = grind (arith, nat_tests)

settled_few : (class : Class) (classes : List Class) → length (settled class classes) ≤ suc (length classes)
settled_few class classes =
    elim (nat_lt (length class.members) 2) as (λ b. length (cond b classes (insert_class class classes)) ≤ suc (length classes)) [
      | true ↦ omega arith
      | false ↦ omega (arith, length-insert_class class classes)
    ]

pub parted_kept : (kind : ℕ) (id : AnnId) (classes : List Class) → IsClassList classes → IsClassList (parted kind id classes)
parted_kept kind id classes all =
    elim (class_with kind id classes) as (λ o. class_with kind id classes ≡ o → IsClassList (settled_rest id o (other_classes kind id classes))) [
      | None ↦ λ e. subst IsClassList (sym (others_none kind id classes e)) all
      | Some class ↦ λ e. record {
        few = omega (arith, settled_few (without_member id class) (other_classes kind id classes), length-others kind id classes class e, all.few);
        ordered = settled_kept id class (other_classes kind id classes) (found_is kind id classes class all.ordered e) (AreClasses-others kind id classes all.ordered) (found_apart kind id classes class all.ordered e);
      }
    ] refl

-- whether the member was in a class
pub found_any : (kind : ℕ) (id : AnnId) (classes : List Class) → class_with kind id classes ≡ None → list_any (has_member kind id) classes ≡ false
found_any kind id [] e = refl
found_any kind id (x ∷ xs) e =
    elim (has_member kind id x) as (λ b. cond b (Some x) (class_with kind id xs) ≡ None → (b || list_any (has_member kind id) xs) ≡ false) [
      | true ↦ λ f. absurd (let f2 : ◌≡◌ {A = Option Class} (Some x) None = f in cc)
      | false ↦ λ f. found_any kind id xs f
    ] e

pub found_one : (kind : ℕ) (id : AnnId) (classes : List Class) (class : Class) → class_with kind id classes ≡ Some class → list_any (has_member kind id) classes ≡ true
found_one kind id [] class e = absurd (let e2 : ◌≡◌ {A = Option Class} None (Some class) = e in cc)
found_one kind id (x ∷ xs) class e =
    elim (has_member kind id x) as (λ b. cond b (Some x) (class_with kind id xs) ≡ Some class → (b || list_any (has_member kind id) xs) ≡ true) [
      | true ↦ λ _. refl
      | false ↦ λ f. found_one kind id xs class f
    ] e

-- ---- what the steps of a part make

-- the class at the place where the search ends
pub found_at : (kind : ℕ) (id : AnnId) (classes : List Class) (class : Class) (i : ℕ) → i < length classes → class ≡ get_or classes i class → true ≡ has_member kind id class
    → class_with kind id classes ≡ class_with kind id (drop i classes) → class_with kind id classes ≡ slice_get classes i
found_at kind id classes class i within is has so_far =
    so_far ∙ ap (class_with kind id) (drop-cons classes i class within)
    ∙ ap (λ b. cond b (Some (get_or classes i class)) (class_with kind id (drop (suc i) classes))) (sym (has ∙ ap (has_member kind id) is))
    ∙ sym (slice_get-get_or classes i class within)

taken_is : (kind : ℕ) (id : AnnId) (classes : List Class) (class : Class) (i : ℕ) → i < length classes → class ≡ get_or classes i class → class_with kind id classes ≡ slice_get classes i → class_with kind id classes ≡ Some class
taken_is kind id classes class i within is at = at ∙ slice_get-get_or classes i class within ∙ ap Some (sym is)

pub part_found : (kind : ℕ) (id : AnnId) (classes : List Class) (class : Class) (i : ℕ) → i < length classes → class ≡ get_or classes i class → class_with kind id classes ≡ slice_get classes i
    → true ≡ list_any (has_member kind id) classes
part_found kind id classes class i within is at = sym (found_one kind id classes class (taken_is kind id classes class i within is at))

part_rest : (kind : ℕ) (id : AnnId) (classes : List Class) (class rest : Class) (i : ℕ) (left : List Class) → i < length classes → class ≡ get_or classes i class → class_with kind id classes ≡ slice_get classes i
    → other_classes kind id classes ≡ remove classes i → left ≡ remove classes i → rest ≡ without_member id class → parted kind id classes ≡ settled rest left
part_rest kind id classes class rest i left within is at others gone less =
    ap (λ o. settled_rest id o (other_classes kind id classes)) (taken_is kind id classes class i within is at)
    ∙ ap (λ k. settled k (other_classes kind id classes)) (sym less) ∙ ap (settled rest) (others ∙ sym gone)

pub part_put : (kind : ℕ) (id : AnnId) (classes : List Class) (class rest : Class) (i : ℕ) (left new : List Class) → i < length classes → class ≡ get_or classes i class → class_with kind id classes ≡ slice_get classes i
    → other_classes kind id classes ≡ remove classes i → left ≡ remove classes i → rest ≡ without_member id class → 2 ≤ length rest.members → new ≡ insert_class rest left → new ≡ parted kind id classes
part_put kind id classes class rest i left new within is at others gone less many put =
    put ∙ sym (part_rest kind id classes class rest i left within is at others gone less ∙ ap (λ b. cond b left (insert_class rest left)) (not_few (length rest.members) many))
  where
    not_few : (n : ℕ) → 2 ≤ n → nat_lt n 2 ≡ false
    not_few n h = grind (arith, nat_tests)

pub part_drop : (kind : ℕ) (id : AnnId) (classes : List Class) (class rest : Class) (i : ℕ) (left : List Class) → i < length classes → class ≡ get_or classes i class → class_with kind id classes ≡ slice_get classes i
    → other_classes kind id classes ≡ remove classes i → left ≡ remove classes i → rest ≡ without_member id class → length rest.members < 2 → left ≡ parted kind id classes
part_drop kind id classes class rest i left within is at others gone less few =
    sym (part_rest kind id classes class rest i left within is at others gone less ∙ ap (λ b. cond b left (insert_class rest left)) (is_few (length rest.members) few))
  where
    is_few : (n : ℕ) → n < 2 → nat_lt n 2 ≡ true
    is_few n h = grind (arith, nat_tests)

pub part_none : (kind : ℕ) (id : AnnId) (classes : List Class) → class_with kind id classes ≡ None → classes ≡ parted kind id classes
part_none kind id classes e = sym (ap (λ o. settled_rest id o (other_classes kind id classes)) e ∙ others_none kind id classes e)
