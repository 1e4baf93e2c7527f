-- The order of classes, and what keeps it.
use Rattle.std.proofs.Common.{◌≡◌, ◌≢◌, ℕ, ◌<◌, ◌==◌, ◌&&◌, ◌||◌, nat_lt, suc, Bool, true, false, List, [], ◌∷◌, ◌++◌, length, refl, sym, ◌∙◌, ap, cond, arith}
use Rattle.std.proofs.lemmas.Bool.{eq-eqb}
use Rattle.std.proofs.lemmas.Bool.Decides.{nat_tests}
use Rattle.std.specs.List.{AllByRecursion, list_any, filter}
use Rattle.mark_base.specs.declared.ann_id.AnnId.{AnnId}
use Rattle.layer_model.specs.declared.class.Class.{Class}
use Rattle.layer_model.specs.Classes.{rank, has_rank, least_of, comes_before, insert_class, IsClass, AreDisjoint, Precedes, AreClasses}

abbrev before : ℕ → ℕ → ℕ → ℕ → Bool
before k l m n = nat_lt k m || (k == m && nat_lt l n)

before-trans : (k l m n p q : ℕ) → before k l m n ≡ true → before m n p q ≡ true → before k l p q ≡ true
before-trans k l m n p q a b = grind (arith, nat_tests)

before-total : (k l m n : ℕ) → before k l m n ≡ false → (k ≡ m → l ≢ n) → before m n k l ≡ true
before-total k l m n a apart = grind (arith, nat_tests)

pub comes_before-trans : (a b c : Class) → comes_before a b ≡ true → comes_before b c ≡ true → comes_before a c ≡ true
comes_before-trans a b c x y = before-trans a.kind.n (least_of a.members) b.kind.n (least_of b.members) c.kind.n (least_of c.members) x y

pub disjoint-sym : (a b : Class) → AreDisjoint a b → AreDisjoint b a
disjoint-sym a b apart same place h =
    elim (has_rank place a.members) as (λ v. has_rank place a.members ≡ v → v ≡ false) [
      | true ↦ λ e. absurd (let gone : has_rank place b.members ≡ false = apart (sym same) place e in cc)
      | false ↦ λ _. refl
    ] refl

has_least : (ids : List AnnId) → 0 < length ids → has_rank (least_of ids) ids ≡ true
has_least [] h = absurd (omega arith)
has_least (x ∷ xs) h = ap (λ b. b || has_rank (rank x) xs) (eq-eqb (rank x) (rank x) refl)

least_apart : (a b : Class) → IsClass a → IsClass b → AreDisjoint a b → a.kind.n ≡ b.kind.n → least_of a.members ≢ least_of b.members
least_apart a b is_a is_b apart same e =
    let gone : has_rank (least_of a.members) b.members ≡ false = apart same (least_of a.members) (has_least a.members is_a.some) in
    let there : has_rank (least_of b.members) b.members ≡ true = has_least b.members is_b.some in
    let there_too : has_rank (least_of a.members) b.members ≡ true = ap (λ p. has_rank p b.members) e ∙ there in
    cc

pub comes_after : (a b : Class) → IsClass a → IsClass b → AreDisjoint a b → comes_before a b ≡ false → comes_before b a ≡ true
comes_after a b is_a is_b apart e = before-total a.kind.n (least_of a.members) b.kind.n (least_of b.members) e (least_apart a b is_a is_b apart)

-- ---- what is true of each class

pub All-insert : (P : Class → Type 0) (class : Class) (classes : List Class) → P class → AllByRecursion P classes → AllByRecursion P (insert_class class classes)
All-insert P class [] p all = (p, tt)
All-insert P class (x ∷ xs) p all =
    elim (comes_before class x) as (λ b. AllByRecursion P (cond b (class ∷ x ∷ xs) (x ∷ insert_class class xs))) [
      | true ↦ (p, all)
      | false ↦ (all.0, All-insert P class xs p all.1)
    ]

pub All-filter : {X : Type 0} (P : X → Type 0) (test : X → Bool) (xs : List X) → AllByRecursion P xs → AllByRecursion P (filter test xs)
All-filter P test [] all = tt
All-filter {X} P test (x ∷ xs) all =
    elim (test x) as (λ b. AllByRecursion P (cond b (x ∷ filter test xs) (filter test xs))) [
      | true ↦ (all.0, All-filter P test xs all.1)
      | false ↦ All-filter P test xs all.1
    ]

pub AreClasses-filter : (test : Class → Bool) (classes : List Class) → AreClasses classes → AreClasses (filter test classes)
AreClasses-filter test [] all = tt
AreClasses-filter test (x ∷ xs) all =
    elim (test x) as (λ b. AreClasses (cond b (x ∷ filter test xs) (filter test xs))) [
      | true ↦ (all.0, All-filter (Precedes x) test xs all.1, AreClasses-filter test xs all.2)
      | false ↦ AreClasses-filter test xs all.2
    ]

-- ---- a class put in its place

precedes_all : (class first : Class) (classes : List Class) → comes_before class first ≡ true → AllByRecursion (Precedes first) classes
    → AllByRecursion (λ other. AreDisjoint class other) classes → AllByRecursion (Precedes class) classes
precedes_all class first [] e all apart = tt
precedes_all class first (x ∷ xs) e all apart =
    (record { before = comes_before-trans class first x e all.0.before; disjoint = apart.0 }, precedes_all class first xs e all.1 apart.1)

pub AreClasses-insert : (class : Class) (classes : List Class) → IsClass class → AreClasses classes → AllByRecursion (λ other. AreDisjoint class other) classes
    → AreClasses (insert_class class classes)
AreClasses-insert class [] is all apart = (is, tt, tt)
AreClasses-insert class (x ∷ xs) is all apart =
    elim (comes_before class x) as (λ b. comes_before class x ≡ b → AreClasses (cond b (class ∷ x ∷ xs) (x ∷ insert_class class xs))) [
      | true ↦ λ e. (is, (record { before = e; disjoint = apart.0 }, precedes_all class x xs e all.1 apart.1), all)
      | false ↦ λ e. (
        all.0,
        All-insert (Precedes x) class xs (record { before = comes_after class x is all.0 apart.0 e; disjoint = disjoint-sym class x apart.0 }) all.1,
        AreClasses-insert class xs is all.2 apart.1,
      )
    ] refl

pub length-insert_class : (class : Class) (classes : List Class) → length (insert_class class classes) ≡ suc (length classes)
length-insert_class class [] = refl
length-insert_class class (x ∷ xs) =
    elim (comes_before class x) as (λ b. length (cond b (class ∷ x ∷ xs) (x ∷ insert_class class xs)) ≡ suc (suc (length xs))) [
      | true ↦ refl
      | false ↦ ap suc (length-insert_class class xs)
    ]

-- the class that no other stands behind is appended
pub insert_class-last : (class : Class) (classes : List Class) → list_any (comes_before class) classes ≡ false → insert_class class classes ≡ classes ++ class ∷ []
insert_class-last class [] e = refl
insert_class-last class (x ∷ xs) e =
    elim (comes_before class x) as (λ b. (b || list_any (comes_before class) xs) ≡ false → cond b (class ∷ x ∷ xs) (x ∷ insert_class class xs) ≡ x ∷ (xs ++ class ∷ [])) [
      | true ↦ λ f. absurd (let f2 : true ≡ false = f in cc)
      | false ↦ λ f. ap (λ ys. x ∷ ys) (insert_class-last class xs f)
    ] e
