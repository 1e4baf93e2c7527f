-- Joining keeps the classes in their order and disjoint.
use Rattle.std.proofs.Common.{◌≡◌, ℕ, ◌<◌, ◌≤◌, ◌==◌, ◌&&◌, ◌||◌, not, suc, Bool, true, false, List, [], ◌∷◌, ◌++◌, length, refl, sym, ◌∙◌, ap, cond, arith}
use Rattle.std.proofs.lemmas.Bool.{eq-eqb, eqb-true}
use Rattle.std.proofs.lemmas.List.Folds.{list_any-append}
use Rattle.std.specs.List.{AllByRecursion, list_any, filter}
use Rattle.mark_base.specs.declared.ann_id.AnnId.{AnnId}
use Rattle.mark_base.specs.declared.table_places.RelId.{RelId}
use Rattle.layer_model.specs.declared.class.Class.{Class}
use Rattle.layer_model.specs.Classes.{rank, has_rank, is_among, ascending, shares, sharing, apart, joined_class, joined, insert_class, IsClass, AreDisjoint, Precedes, AreClasses, IsClassList}
use Rattle.layer_model.proofs.SameIds.{ascending_turned}
use Rattle.layer_model.proofs.IdSets.{has_rank-ascending, Ascends-ascending}
use Rattle.layer_model.proofs.ClassOrder.{AreClasses-filter, AreClasses-insert, length-insert_class}

differ : {A : Type 0} (b : Bool) → b ≡ true → b ≡ false → A
differ b p q = absurd (cc)

-- one ID of both lists is a shared one
shared : (place : ℕ) (ms ids : List AnnId) → has_rank place ms ≡ true → has_rank place ids ≡ true → list_any (λ id. is_among id ids) ms ≡ true
shared place [] ids h g = differ false h refl
shared place (m ∷ ms) ids h g =
    elim (rank m == place) as (λ b. (rank m == place) ≡ b → (b || has_rank place ms) ≡ true → (is_among m ids || list_any (λ id. is_among id ids) ms) ≡ true) [
      | true ↦ λ e _. ap (λ v. v || list_any (λ id. is_among id ids) ms) (ap (λ p. has_rank p ids) (eqb-true (rank m) place e) ∙ g)
      | false ↦ λ _ k. or_right (is_among m ids) _ (shared place ms ids k g)
    ] refl h
  where
    or_right : (a b : Bool) → b ≡ true → (a || b) ≡ true
    or_right true b e = refl
    or_right false b e = e

-- a class that shares none has none of these IDs
none_of : (kind place : ℕ) (ids : List AnnId) (class : Class) → shares kind ids class ≡ false → class.kind.n ≡ kind → has_rank place ids ≡ true → has_rank place class.members ≡ false
none_of kind place ids class not_shared same there =
    elim (has_rank place class.members) as (λ v. has_rank place class.members ≡ v → v ≡ false) [
      | true ↦ λ e. differ (shares kind ids class) (ap (λ b. b && list_any (λ id. is_among id ids) class.members) (eq-eqb class.kind.n kind same) ∙ shared place class.members ids e there) not_shared
      | false ↦ λ _. refl
    ] refl

and_left : (a b : Bool) → (a && b) ≡ true → a ≡ true
and_left true b e = refl
and_left false b e = e

-- an ID of a class behind that shares one is not in the class before
not_before : (kind place : ℕ) (ids : List AnnId) (class : Class) (classes : List Class) → AllByRecursion (Precedes class) classes → class.kind.n ≡ kind
    → has_rank place (sharing kind ids classes) ≡ true → has_rank place class.members ≡ false
not_before kind place ids class [] all same h = differ false h refl
not_before kind place ids class (x ∷ xs) all same h =
    elim (shares kind ids x) as (λ b. shares kind ids x ≡ b → has_rank place (cond b (x.members ++ sharing kind ids xs) (sharing kind ids xs)) ≡ true → has_rank place class.members ≡ false) [
      | true ↦ λ e g. elim (has_rank place x.members) as (λ v. has_rank place x.members ≡ v → (v || has_rank place (sharing kind ids xs)) ≡ true → has_rank place class.members ≡ false) [
        | true ↦ λ f _. elim (has_rank place class.members) as (λ v. has_rank place class.members ≡ v → v ≡ false) [
          | true ↦ λ k. differ (has_rank place x.members) f (all.0.disjoint (same ∙ sym (eqb-true x.kind.n kind (and_left _ _ e))) place k)
          | false ↦ λ _. refl
        ] refl
        | false ↦ λ _ k. not_before kind place ids class xs all.1 same k
      ] refl (sym (list_any-append (λ id. rank id == place) x.members (sharing kind ids xs)) ∙ g)
      | false ↦ λ e g. not_before kind place ids class xs all.1 same g
    ] refl h

abbrev HasNot : ℕ → ℕ → Class → Type 0
HasNot kind place class = class.kind.n ≡ kind → has_rank place class.members ≡ false

-- what one class has, those behind it of its type have not
behind : (kind place : ℕ) (ids : List AnnId) (class : Class) (classes : List Class) → AllByRecursion (Precedes class) classes → class.kind.n ≡ kind → has_rank place class.members ≡ true
    → AllByRecursion (HasNot kind place) (apart kind ids classes)
behind kind place ids class [] all same h = tt
behind kind place ids class (x ∷ xs) all same h =
    elim (not (shares kind ids x)) as (λ b. AllByRecursion (HasNot kind place) (cond b (x ∷ apart kind ids xs) (apart kind ids xs))) [
      | true ↦ (λ k. all.0.disjoint (same ∙ sym k) place h, behind kind place ids class xs all.1 same h)
      | false ↦ behind kind place ids class xs all.1 same h
    ]

-- an ID of the classes that share one is in no other of the type
sharing_apart : (kind place : ℕ) (ids : List AnnId) (classes : List Class) → AreClasses classes → has_rank place (sharing kind ids classes) ≡ true → AllByRecursion (HasNot kind place) (apart kind ids classes)
sharing_apart kind place ids [] all h = tt
sharing_apart kind place ids (x ∷ xs) all h =
    elim (shares kind ids x) as (λ b. shares kind ids x ≡ b → has_rank place (cond b (x.members ++ sharing kind ids xs) (sharing kind ids xs)) ≡ true
    → AllByRecursion (HasNot kind place) (cond (not b) (x ∷ apart kind ids xs) (apart kind ids xs))) [
      | true ↦ λ e g. elim (has_rank place x.members) as (λ v. has_rank place x.members ≡ v → (v || has_rank place (sharing kind ids xs)) ≡ true → AllByRecursion (HasNot kind place) (apart kind ids xs)) [
        | true ↦ λ f _. behind kind place ids x xs all.1 (eqb-true x.kind.n kind (and_left _ _ e)) f
        | false ↦ λ _ k. sharing_apart kind place ids xs all.2 k
      ] refl (sym (list_any-append (λ id. rank id == place) x.members (sharing kind ids xs)) ∙ g)
      | false ↦ λ e g. (λ same. not_before kind place ids x xs all.1 same g, sharing_apart kind place ids xs all.2 g)
    ] refl h

-- an ID of the list is in no class that shares none
listed_apart : (kind place : ℕ) (ids : List AnnId) (classes : List Class) → has_rank place ids ≡ true → AllByRecursion (HasNot kind place) (apart kind ids classes)
listed_apart kind place ids [] h = tt
listed_apart kind place ids (x ∷ xs) h =
    elim (shares kind ids x) as (λ b. shares kind ids x ≡ b → AllByRecursion (HasNot kind place) (cond (not b) (x ∷ apart kind ids xs) (apart kind ids xs))) [
      | true ↦ λ _. listed_apart kind place ids xs h
      | false ↦ λ e. (λ same. none_of kind place ids x e same h, listed_apart kind place ids xs h)
    ] refl

each_apart : (kind : ℕ) (members : List AnnId) (classes : List Class) → ((place : ℕ) → has_rank place members ≡ true → AllByRecursion (HasNot kind place) classes)
    → AllByRecursion (λ (other : Class). kind ≡ other.kind.n → (place : ℕ) → has_rank place members ≡ true → has_rank place other.members ≡ false) classes
each_apart kind members [] f = tt
each_apart kind members (x ∷ xs) f = (λ same place h. (f place h).0 (sym same), each_apart kind members xs (λ place h. (f place h).1))

joined_disjoint : (kind : RelId) (ids : List AnnId) (classes : List Class) → AreClasses classes → AllByRecursion (λ other. AreDisjoint (joined_class kind ids classes) other) (apart kind.n ids classes)
joined_disjoint kind ids classes all =
    each_apart kind.n (ascending (ids ++ sharing kind.n ids classes)) (apart kind.n ids classes) (λ place h.
    elim (has_rank place ids) as (λ v. has_rank place ids ≡ v → (v || has_rank place (sharing kind.n ids classes)) ≡ true → AllByRecursion (HasNot kind.n place) (apart kind.n ids classes)) [
      | true ↦ λ e _. listed_apart kind.n place ids classes e
      | false ↦ λ _ g. sharing_apart kind.n place ids classes all g
    ] refl (sym (list_any-append (λ id. rank id == place) ids (sharing kind.n ids classes)) ∙ sym (has_rank-ascending (ids ++ sharing kind.n ids classes) place) ∙ h))

some_of : (place : ℕ) (ids : List AnnId) → has_rank place ids ≡ true → 0 < length ids
some_of place [] h = differ false h refl
some_of place (x ∷ xs) h = omega arith

joined_is : (kind : RelId) (ids : List AnnId) (classes : List Class) → 0 < length ids → IsClass (joined_class kind ids classes)
joined_is kind [] classes h = absurd (omega arith)
joined_is kind (x ∷ xs) classes h =
    record {
      some = some_of (rank x) _ (has_rank-ascending ((x ∷ xs) ++ sharing kind.n (x ∷ xs) classes) (rank x) ∙ ap (λ b. b || has_rank (rank x) (xs ++ sharing kind.n (x ∷ xs) classes)) (eq-eqb (rank x) (rank x) refl));
      ascends = Ascends-ascending ((x ∷ xs) ++ sharing kind.n (x ∷ xs) classes);
    }

length-filter : {X : Type 0} (test : X → Bool) (xs : List X) → length (filter test xs) ≤ length xs
length-filter test [] = omega arith
length-filter test (x ∷ xs) =
    elim (test x) as (λ b. length (cond b (x ∷ filter test xs) (filter test xs)) ≤ suc (length xs)) [
      | true ↦ omega (arith, length-filter test xs)
      | false ↦ omega (arith, length-filter test xs)
    ]

pub joined_kept : (kind : RelId) (ids : List AnnId) (classes : List Class) → 0 < length ids → length classes < 4294967295 → IsClassList classes → IsClassList (joined kind ids classes)
joined_kept kind ids classes some few all =
    record {
      few = omega (arith, length-insert_class (joined_class kind ids classes) (apart kind.n ids classes), length-filter (λ class. not (shares kind.n ids class)) classes);
      ordered = AreClasses-insert (joined_class kind ids classes) (apart kind.n ids classes) (joined_is kind ids classes some) (AreClasses-filter _ classes all.ordered) (joined_disjoint kind ids classes all.ordered);
    }

-- ---- the same where the IDs are put in order before

shares-ascending : (kind : ℕ) (ids : List AnnId) (class : Class) → shares kind (ascending ids) class ≡ shares kind ids class
shares-ascending kind ids class = ap (λ b. class.kind.n == kind && b) (each class.members)
  where
    each : (ms : List AnnId) → list_any (λ id. is_among id (ascending ids)) ms ≡ list_any (λ id. is_among id ids) ms
    each [] = refl
    each (m ∷ ms) = ap (λ b. b || list_any (λ id. is_among id (ascending ids)) ms) (has_rank-ascending ids (rank m)) ∙ ap (λ b. is_among m ids || b) (each ms)

pub sharing-ascending : (kind : ℕ) (ids : List AnnId) (classes : List Class) → sharing kind (ascending ids) classes ≡ sharing kind ids classes
sharing-ascending kind ids [] = refl
sharing-ascending kind ids (x ∷ xs) =
    ap (λ b. cond b (x.members ++ sharing kind (ascending ids) xs) (sharing kind (ascending ids) xs)) (shares-ascending kind ids x)
    ∙ ap (λ ys. cond (shares kind ids x) (x.members ++ ys) ys) (sharing-ascending kind ids xs)

pub apart-ascending : (kind : ℕ) (ids : List AnnId) (classes : List Class) → apart kind (ascending ids) classes ≡ apart kind ids classes
apart-ascending kind ids [] = refl
apart-ascending kind ids (x ∷ xs) =
    ap (λ b. cond (not b) (x ∷ apart kind (ascending ids) xs) (apart kind (ascending ids) xs)) (shares-ascending kind ids x)
    ∙ ap (λ ys. cond (not (shares kind ids x)) (x ∷ ys) ys) (apart-ascending kind ids xs)

-- ---- what the steps of a join make

pub class_by : (kind : RelId) (ids sought : List AnnId) (classes : List Class) (all made : List AnnId) → sought ≡ ascending ids → all ≡ sharing kind.n sought classes ++ ids → made ≡ ascending all
    → ◌≡◌ {A = Class} (record { kind = kind; members = made }) (joined_class kind ids classes)
class_by kind ids sought classes all made is gathered put =
    ap (λ ms. let class : Class = record { kind = kind; members = ms } in class)
    (put ∙ ap ascending (gathered ∙ ap (λ xs. xs ++ ids) (ap (λ s. sharing kind.n s classes) is ∙ sharing-ascending kind.n ids classes)) ∙ ascending_turned (sharing kind.n ids classes) ids)

pub joined_by : (kind : RelId) (ids sought : List AnnId) (classes kept new : List Class) (class : Class) → sought ≡ ascending ids → class ≡ joined_class kind ids classes → kept ≡ apart kind.n sought classes
    → new ≡ insert_class class kept → new ≡ joined kind ids classes
joined_by kind ids sought classes kept new class is made left put =
    put ∙ ap (λ k. insert_class k kept) made ∙ ap (insert_class (joined_class kind ids classes)) (left ∙ ap (λ s. apart kind.n s classes) is ∙ apart-ascending kind.n ids classes)
