-- What leaves its classes comes back to them, and what was joined is parted again.
use Rattle.std.proofs.Common.{◌≡◌, ℕ, ◌<◌, ◌≤◌, ◌==◌, ◌&&◌, ◌||◌, not, nat_lt, suc, Bool, true, false, List, [], ◌∷◌, ◌++◌, length, map, refl, sym, ◌∙◌, ap, subst, cond, Option, Some, None, unwrap_or, find, arith}
use Rattle.std.proofs.lemmas.Bool.{eq-eqb, eqb-true}
use Rattle.std.proofs.lemmas.Bool.Decides.{nat_tests}
use Rattle.std.proofs.lemmas.List.Concat.{flat_map-cons}
use Rattle.std.proofs.lemmas.List.Folds.{list_any-append}
use Rattle.std.specs.Prelude.{⊤}
use Rattle.std.specs.Ordering.{nat_cmp}
use Rattle.std.specs.List.{AllByRecursion, list_any, filter, flat_map}
use Rattle.std.specs.List.Sorted.{IsStrictlySortedBy}
use Rattle.std.specs.declared.cmp.Ordering.TheVariants.{Less}
use Rattle.mark_base.specs.declared.ann_id.AnnId.{AnnId}
use Rattle.mark_base.specs.declared.table_places.RelId.{RelId}
use Rattle.layer_model.specs.declared.class.Class.{Class}
use Rattle.layer_model.specs.Classes.{rank, has_rank, is_among, Ascends, ascending, apart, shares, sharing, joined_class, joined, has_member, class_with, other_classes, without_member, settled, settled_rest, parted, insert_class, comes_before, least_of, IsClass, AreDisjoint, Precedes, AreClasses}
use Rattle.layer_model.proofs.ClassOrder.{All-filter, All-insert, comes_after, comes_before-trans, disjoint-sym}
use Rattle.layer_model.proofs.ClassPart.{part_none}
use Rattle.layer_model.proofs.IdSets.{Ascends-ascending, has_rank-ascending}
use Rattle.layer_model.proofs.SameIds.{same_ids}
use Rattle.layer_core.specs.Regrouped.{all_joined, all_parted, first_other}

-- ---- tests

first_false : (a b : Bool) → (a || b) ≡ false → a ≡ false
first_false true b e = e
first_false false b e = refl

last_false : (a b : Bool) → (a || b) ≡ false → b ≡ false
last_false true b e = absurd (let f : true ≡ false = e in cc)
last_false false b e = e

none_of : (a b : Bool) → a ≡ false → b ≡ false → (a || b) ≡ false
none_of true b e f = e
none_of false b e f = f

first_true : (a b : Bool) → (a && b) ≡ true → a ≡ true
first_true true b e = refl
first_true false b e = e

second_true : (a b : Bool) → (a && b) ≡ true → b ≡ true
second_true true b e = e
second_true false b e = absurd (let f : false ≡ true = e in cc)

both_true : (a b : Bool) → a ≡ true → b ≡ true → (a && b) ≡ true
both_true true b e f = f
both_true false b e f = e

or_true : (a b : Bool) → b ≡ true → (a || b) ≡ true
or_true true b e = refl
or_true false b e = e

differ : {A : Type 0} (b : Bool) → b ≡ true → b ≡ false → A
differ b p q = absurd (cc)

-- ---- a class put in its place

-- a class that precedes the others is put before them
first_insert : (class : Class) (classes : List Class) → AllByRecursion (Precedes class) classes → insert_class class classes ≡ class ∷ classes
first_insert class [] all = refl
first_insert class (x ∷ xs) all = ap (λ b. cond b (class ∷ x ∷ xs) (x ∷ insert_class class xs)) all.0.before

not_before : (k l m n : ℕ) → (nat_lt k m || (k == m && nat_lt l n)) ≡ true → (nat_lt m k || (m == k && nat_lt n l)) ≡ false
not_before k l m n e = grind (arith, nat_tests)

pub behind : (a b : Class) → comes_before a b ≡ true → comes_before b a ≡ false
behind a b e = not_before a.kind.n (least_of a.members) b.kind.n (least_of b.members) e

with_inserted : (kind : ℕ) (id : AnnId) (class : Class) (classes : List Class) → has_member kind id class ≡ true → list_any (has_member kind id) classes ≡ false → class_with kind id (insert_class class classes) ≡ Some class
with_inserted kind id class [] has none = ap (λ b. cond b (Some class) None) has
with_inserted kind id class (x ∷ xs) has none =
    elim (comes_before class x) as (λ b. class_with kind id (cond b (class ∷ x ∷ xs) (x ∷ insert_class class xs)) ≡ Some class) [
      | true ↦ ap (λ b. cond b (Some class) (class_with kind id (x ∷ xs))) has
      | false ↦ ap (λ b. cond b (Some x) (class_with kind id (insert_class class xs))) (first_false (has_member kind id x) _ none)
          ∙ with_inserted kind id class xs has (last_false (has_member kind id x) _ none)
    ]

others_inserted : (kind : ℕ) (id : AnnId) (class : Class) (classes : List Class) → has_member kind id class ≡ true → list_any (has_member kind id) classes ≡ false → other_classes kind id (insert_class class classes) ≡ classes
others_inserted kind id class [] has none = ap (λ b. cond b [] (class ∷ [])) has
others_inserted kind id class (x ∷ xs) has none =
    elim (comes_before class x) as (λ b. other_classes kind id (cond b (class ∷ x ∷ xs) (x ∷ insert_class class xs)) ≡ x ∷ xs) [
      | true ↦ ap (λ b. cond b (x ∷ xs) (class ∷ other_classes kind id (x ∷ xs))) has
      | false ↦ ap (λ b. cond b (insert_class class xs) (x ∷ other_classes kind id (insert_class class xs))) (first_false (has_member kind id x) _ none)
          ∙ ap (λ ys. x ∷ ys) (others_inserted kind id class xs has (last_false (has_member kind id x) _ none))
    ]

any_insert : (test : Class → Bool) (class : Class) (classes : List Class) → test class ≡ false → list_any test classes ≡ false → list_any test (insert_class class classes) ≡ false
any_insert test class [] e none = none_of (test class) false e refl
any_insert test class (x ∷ xs) e none =
    elim (comes_before class x) as (λ b. list_any test (cond b (class ∷ x ∷ xs) (x ∷ insert_class class xs)) ≡ false) [
      | true ↦ none_of (test class) _ e none
      | false ↦ none_of (test x) _ (first_false (test x) _ none) (any_insert test class xs e (last_false (test x) _ none))
    ]

none_with : (kind : ℕ) (id : AnnId) (classes : List Class) → list_any (has_member kind id) classes ≡ false → class_with kind id classes ≡ None
none_with kind id [] e = refl
none_with kind id (x ∷ xs) e =
    ap (λ b. cond b (Some x) (class_with kind id xs)) (first_false (has_member kind id x) _ e) ∙ none_with kind id xs (last_false (has_member kind id x) _ e)

parted_none : (kind : ℕ) (id : AnnId) (classes : List Class) → list_any (has_member kind id) classes ≡ false → parted kind id classes ≡ classes
parted_none kind id classes e = sym (part_none kind id classes (none_with kind id classes e))

-- ---- the class that has a member

found_so : (P : Class → Type 0) (kind : ℕ) (id : AnnId) (classes : List Class) (class : Class) → AllByRecursion P classes → class_with kind id classes ≡ Some class → P class
found_so P kind id [] class all e = absurd (let e2 : ◌≡◌ {A = Option Class} None (Some class) = e in cc)
found_so P kind id (x ∷ xs) class all e =
    elim (has_member kind id x) as (λ b. cond b (Some x) (class_with kind id xs) ≡ Some class → P class) [
      | true ↦ λ f. subst P (ap (λ o. unwrap_or o x) f) all.0
      | false ↦ λ f. found_so P kind id xs class all.1 f
    ] e

each_is : (classes : List Class) → AreClasses classes → AllByRecursion IsClass classes
each_is [] all = tt
each_is (x ∷ xs) all = (all.0, each_is xs all.2)

found_has : (kind : ℕ) (id : AnnId) (classes : List Class) (class : Class) → class_with kind id classes ≡ Some class → has_member kind id class ≡ true
found_has kind id [] class e = absurd (let e2 : ◌≡◌ {A = Option Class} None (Some class) = e in cc)
found_has kind id (x ∷ xs) class e =
    elim (has_member kind id x) as (λ b. has_member kind id x ≡ b → cond b (Some x) (class_with kind id xs) ≡ Some class → has_member kind id class ≡ true) [
      | true ↦ λ is f. subst (λ k. has_member kind id k ≡ true) (ap (λ o. unwrap_or o x) f) is
      | false ↦ λ is f. found_has kind id xs class f
    ] refl e

each_disjoint : (class : Class) (classes : List Class) → AllByRecursion (Precedes class) classes → AllByRecursion (AreDisjoint class) classes
each_disjoint class [] all = tt
each_disjoint class (x ∷ xs) all = (all.0.disjoint, each_disjoint class xs all.1)

found_apart : (kind : ℕ) (id : AnnId) (classes : List Class) (class : Class) → AreClasses classes → class_with kind id classes ≡ Some class → AllByRecursion (AreDisjoint class) (other_classes kind id classes)
found_apart kind id [] class all e = tt
found_apart kind id (x ∷ xs) class all e =
    elim (has_member kind id x) as (λ b. cond b (Some x) (class_with kind id xs) ≡ Some class → AllByRecursion (AreDisjoint class) (cond b xs (x ∷ other_classes kind id xs))) [
      | true ↦ λ f. subst (λ k. AllByRecursion (AreDisjoint k) xs) (ap (λ o. unwrap_or o x) f) (each_disjoint x xs all.1)
      | false ↦ λ f. (disjoint-sym x class (found_so (Precedes x) kind id xs class all.1 f).disjoint, found_apart kind id xs class all.2 f)
    ] e

-- the class that had a member takes its place again
put_again : (kind : ℕ) (id : AnnId) (classes : List Class) (class : Class) → AreClasses classes → class_with kind id classes ≡ Some class → insert_class class (other_classes kind id classes) ≡ classes
put_again kind id [] class all e = absurd (let e2 : ◌≡◌ {A = Option Class} None (Some class) = e in cc)
put_again kind id (x ∷ xs) class all e =
    elim (has_member kind id x) as (λ b. cond b (Some x) (class_with kind id xs) ≡ Some class → insert_class class (cond b xs (x ∷ other_classes kind id xs)) ≡ x ∷ xs) [
      | true ↦ λ f. subst (λ k. insert_class k xs ≡ x ∷ xs) (ap (λ o. unwrap_or o x) f) (first_insert x xs all.1)
      | false ↦ λ f.
          ap (λ b. cond b (class ∷ x ∷ other_classes kind id xs) (x ∷ insert_class class (other_classes kind id xs))) (behind x class (found_so (Precedes x) kind id xs class all.1 f).before)
          ∙ ap (λ ys. x ∷ ys) (put_again kind id xs class all.2 f)
    ] e

-- ---- classes of which none shares a member

-- members none of which stands among some IDs
unshared : (ids members : List AnnId) → ((place : ℕ) → has_rank place ids ≡ true → has_rank place members ≡ false) → list_any (λ id. is_among id ids) members ≡ false
unshared ids [] none = refl
unshared ids (m ∷ ms) none =
    elim (is_among m ids) as (λ b. is_among m ids ≡ b → (b || list_any (λ id. is_among id ids) ms) ≡ false) [
      | true ↦ λ e. absurd (let f : true ≡ false = sym (ap (λ b. b || has_rank (rank m) ms) (eq-eqb (rank m) (rank m) refl)) ∙ none (rank m) e in cc)
      | false ↦ λ _. unshared ids ms (λ place h. last_false (rank m == place) (has_rank place ms) (none place h))
    ] refl

-- what lies in a class is shared by no class that is disjoint from it
disjoint_unshared : (kind : ℕ) (ids : List AnnId) (class : Class) (classes : List Class) → class.kind.n ≡ kind → ((place : ℕ) → has_rank place ids ≡ true → has_rank place class.members ≡ true)
    → AllByRecursion (AreDisjoint class) classes → list_any (shares kind ids) classes ≡ false
disjoint_unshared kind ids class [] same within all = refl
disjoint_unshared kind ids class (x ∷ xs) same within all = none_of (shares kind ids x) _ here (disjoint_unshared kind ids class xs same within all.1)
  where
    here : shares kind ids x ≡ false
    here =
        elim (x.kind.n == kind) as (λ b. (x.kind.n == kind) ≡ b → (b && list_any (λ id. is_among id ids) x.members) ≡ false) [
          | true ↦ λ e. unshared ids x.members (λ place h. all.0 (same ∙ sym (eqb-true x.kind.n kind e)) place (within place h))
          | false ↦ λ _. refl
        ] refl

apart_none : (kind : ℕ) (ids : List AnnId) (classes : List Class) → list_any (shares kind ids) classes ≡ false → apart kind ids classes ≡ classes
apart_none kind ids [] e = refl
apart_none kind ids (x ∷ xs) e =
    ap (λ b. cond (not b) (x ∷ apart kind ids xs) (apart kind ids xs)) (first_false (shares kind ids x) _ e) ∙ ap (λ ys. x ∷ ys) (apart_none kind ids xs (last_false (shares kind ids x) _ e))

sharing_none : (kind : ℕ) (ids : List AnnId) (classes : List Class) → list_any (shares kind ids) classes ≡ false → sharing kind ids classes ≡ []
sharing_none kind ids [] e = refl
sharing_none kind ids (x ∷ xs) e =
    ap (λ b. cond b (x.members ++ sharing kind ids xs) (sharing kind ids xs)) (first_false (shares kind ids x) _ e) ∙ sharing_none kind ids xs (last_false (shares kind ids x) _ e)

apart_one : (kind : ℕ) (ids : List AnnId) (class : Class) (classes : List Class) → shares kind ids class ≡ true → list_any (shares kind ids) classes ≡ false → apart kind ids (insert_class class classes) ≡ classes
apart_one kind ids class [] has none = ap (λ b. cond (not b) (class ∷ []) []) has
apart_one kind ids class (x ∷ xs) has none =
    elim (comes_before class x) as (λ b. apart kind ids (cond b (class ∷ x ∷ xs) (x ∷ insert_class class xs)) ≡ x ∷ xs) [
      | true ↦ ap (λ b. cond (not b) (class ∷ apart kind ids (x ∷ xs)) (apart kind ids (x ∷ xs))) has ∙ apart_none kind ids (x ∷ xs) none
      | false ↦ ap (λ b. cond (not b) (x ∷ apart kind ids (insert_class class xs)) (apart kind ids (insert_class class xs))) (first_false (shares kind ids x) _ none)
          ∙ ap (λ ys. x ∷ ys) (apart_one kind ids class xs has (last_false (shares kind ids x) _ none))
    ]

nothing_more : {X : Type 0} (xs : List X) → xs ++ [] ≡ xs
nothing_more [] = refl
nothing_more (x ∷ xs) = ap (λ ys. x ∷ ys) (nothing_more xs)

sharing_one : (kind : ℕ) (ids : List AnnId) (class : Class) (classes : List Class) → shares kind ids class ≡ true → list_any (shares kind ids) classes ≡ false → sharing kind ids (insert_class class classes) ≡ class.members
sharing_one kind ids class [] has none = ap (λ b. cond b (class.members ++ []) []) has ∙ nothing_more class.members
sharing_one kind ids class (x ∷ xs) has none =
    elim (comes_before class x) as (λ b. sharing kind ids (cond b (class ∷ x ∷ xs) (x ∷ insert_class class xs)) ≡ class.members) [
      | true ↦
          ap (λ b. cond b (class.members ++ sharing kind ids (x ∷ xs)) (sharing kind ids (x ∷ xs))) has
          ∙ ap (λ ys. class.members ++ ys) (sharing_none kind ids (x ∷ xs) none) ∙ nothing_more class.members
      | false ↦ ap (λ b. cond b (x.members ++ sharing kind ids (insert_class class xs)) (sharing kind ids (insert_class class xs))) (first_false (shares kind ids x) _ none)
          ∙ sharing_one kind ids class xs has (last_false (shares kind ids x) _ none)
    ]

-- ---- members less some

less_has : (place q : ℕ) (ids : List AnnId) → has_rank q (filter (λ member. not (rank member == place)) ids) ≡ (has_rank q ids && not (place == q))
less_has place q [] = refl
less_has place q (x ∷ xs) =
    elim (rank x == place) as (λ b. (rank x == place) ≡ b → has_rank q (cond (not b) (x ∷ filter (λ member. not (rank member == place)) xs) (filter (λ member. not (rank member == place)) xs)) ≡ (((rank x == q) || has_rank q xs) && not (place == q))) [
      | true ↦ λ e. less_has place q xs ∙ gone (rank x == q) (has_rank q xs) (place == q) (ap (λ n. n == q) (eqb-true (rank x) place e))
      | false ↦ λ e. ap (λ b. (rank x == q) || b) (less_has place q xs) ∙ kept (rank x == q) (has_rank q xs) (place == q) (apart_places (rank x) place q e)
    ] refl
  where
    gone : (a b c : Bool) → a ≡ c → (b && not c) ≡ ((a || b) && not c)
    gone true b true e = refl_false b
      where
        refl_false : (b : Bool) → (b && false) ≡ false
        refl_false true = refl
        refl_false false = refl
    gone true b false e = absurd (let f : true ≡ false = e in cc)
    gone false b c e = refl

    apart_places : (r p q : ℕ) → (r == p) ≡ false → (r == q) ≡ true → (p == q) ≡ false
    apart_places r p q e f = grind (arith, nat_tests)

    kept : (a b c : Bool) → (a ≡ true → c ≡ false) → (a || (b && not c)) ≡ ((a || b) && not c)
    kept true b c f = sym (ap not (f refl))
    kept false b c f = refl

ascends_less : (test : AnnId → Bool) (ids : List AnnId) → Ascends ids → Ascends (filter test ids)
unfolding IsStrictlySortedBy
ascends_less test [] up = tt
ascends_less test (x ∷ xs) up =
    elim (test x) as (λ b. Ascends (cond b (x ∷ filter test xs) (filter test xs))) [
      | true ↦ (each test xs up.0, ascends_less test xs up.1)
      | false ↦ ascends_less test xs up.1
    ]
  where
    each : (test : AnnId → Bool) (ids : List AnnId) → AllByRecursion (λ y. nat_cmp (rank x) y ≡ Less) (map rank ids) → AllByRecursion (λ y. nat_cmp (rank x) y ≡ Less) (map rank (filter test ids))
    each test [] all = tt
    each test (z ∷ zs) all =
        elim (test z) as (λ b. AllByRecursion (λ y. nat_cmp (rank x) y ≡ Less) (map rank (cond b (z ∷ filter test zs) (filter test zs)))) [
          | true ↦ (all.0, each test zs all.1)
          | false ↦ each test zs all.1
        ]

-- ---- a member that left comes back beside one that stayed

-- a class whose kind has this number is of the type
of_type : (class : Class) (kind : RelId) (members : List AnnId) → class.kind.n ≡ kind.n → members ≡ class.members → ◌≡◌ {A = Class} (record { kind = kind; members = members }) class
of_type class kind members same is =
    ap (λ n. let c : Class = record { kind = record { n = n }; members = members } in c) (sym same) ∙ ap (λ ms. let c : Class = record { kind = class.kind; members = ms } in c) is

-- a member and those beside it
with_others : (place q : ℕ) (ids : List AnnId) → has_rank place ids ≡ true → has_rank q ids ≡ ((place == q) || (has_rank q ids && not (place == q)))
with_others place q ids has =
    elim (place == q) as (λ b. (place == q) ≡ b → has_rank q ids ≡ (b || (has_rank q ids && not b))) [
      | true ↦ λ e. subst (λ p. has_rank p ids ≡ true) (eqb-true place q e) has
      | false ↦ λ _. alone (has_rank q ids)
    ] refl
  where
    alone : (b : Bool) → b ≡ (b && true)
    alone true = refl
    alone false = refl

-- the first of some IDs, or else this one
abbrev first_or : AnnId → List AnnId → AnnId
first_or id [] = id
first_or id (x ∷ xs) = x

-- the one beside is the first of the others
beside_first : (place : ℕ) (id : AnnId) (ids : List AnnId) → (o : List AnnId) → filter (λ member. not (rank member == place)) ids ≡ o → unwrap_or (find (λ member. not (rank member == place)) ids) id ≡ first_or id o
beside_first place id [] o e = ap (first_or id) e
beside_first place id (x ∷ xs) o e =
    elim (not (rank x == place)) as (λ b. cond b (x ∷ filter (λ member. not (rank member == place)) xs) (filter (λ member. not (rank member == place)) xs) ≡ o
    → unwrap_or (cond b (Some x) (find (λ member. not (rank member == place)) xs)) id ≡ first_or id o) [
      | true ↦ λ f. ap (first_or id) f
      | false ↦ λ f. beside_first place id xs o f
    ] e

first_among : (id : AnnId) (others : List AnnId) (q : ℕ) → ((rank (first_or id others) == q) || has_rank q others) ≡ true → ((rank id == q) || has_rank q others) ≡ true
first_among id [] q e = e
first_among id (x ∷ xs) q e = or_true (rank id == q) _ (first_twice (rank x == q) (has_rank q xs) e)
  where
    first_twice : (a b : Bool) → (a || (a || b)) ≡ true → (a || b) ≡ true
    first_twice true b e = refl
    first_twice false b e = e

-- two lists of IDs with the same places, where one has the first of its others beside the one
same_pair : (a b c : Bool) → (b ≡ true → c ≡ true) → (a || (b || c)) ≡ (a || c)
same_pair true b c f = refl
same_pair false true c f = sym (f refl)
same_pair false false c f = refl

short_pair : (id : AnnId) (others : List AnnId) (q : ℕ) → nat_lt (length others) 2 ≡ true → ((rank id == q) || ((rank (first_or id others) == q) || false)) ≡ ((rank id == q) || has_rank q others)
short_pair id [] q few = alike (rank id == q)
  where
    alike : (a : Bool) → (a || (a || false)) ≡ (a || false)
    alike true = refl
    alike false = refl
short_pair id (x ∷ []) q few = refl
short_pair id (x ∷ (y ∷ ys)) q few = absurd (let f : nat_lt (suc (suc (length ys))) 2 ≡ true = few in many (length ys) f)
  where
    many : (n : ℕ) → nat_lt (suc (suc n)) 2 ≡ true → ⊥
    many n e = grind (arith, nat_tests)

pair_in : (id : AnnId) (others : List AnnId) (q : ℕ) → ((rank id == q) || ((rank (first_or id others) == q) || false)) ≡ true → ((rank id == q) || has_rank q others) ≡ true
pair_in id others q e = first_among_pair (rank id == q) (rank (first_or id others) == q) (has_rank q others) (first_among id others q) e
  where
    first_among_pair : (a b c : Bool) → ((b || c) ≡ true → (a || c) ≡ true) → (a || (b || false)) ≡ true → (a || c) ≡ true
    first_among_pair true b c f e = refl
    first_among_pair false true c f e = f refl
    first_among_pair false false c f e = absurd (let g : false ≡ true = e in cc)

-- an ID and the first of others
abbrev pair_of : AnnId → List AnnId → List AnnId
pair_of id rest = id ∷ first_or id rest ∷ []

-- a class with other members
abbrev left_of : Class → List AnnId → Class
left_of class rest = record class { members = rest }

-- the members but one
abbrev rest_of : AnnId → Class → List AnnId
rest_of id class = filter (λ member. not (rank member == rank id)) class.members

-- the pair joins the class that was left
rejoined : (kind : RelId) (id : AnnId) (rest : List AnnId) (class : Class) (others : List Class) → class.kind.n ≡ kind.n → IsClass class → AllByRecursion (AreDisjoint class) others
    → ((q : ℕ) → has_rank q class.members ≡ ((rank id == q) || has_rank q rest))
    → joined kind (id ∷ first_or id rest ∷ []) (settled (record class { members = rest }) others) ≡ insert_class class others
rejoined kind id rest class others same is apart_ ranks =
    elim (nat_lt (length rest) 2) as (λ b. nat_lt (length rest) 2 ≡ b → joined kind (pair_of id rest) (cond b others (insert_class (left_of class rest) others)) ≡ insert_class class others) [
      | true ↦ λ few.
          ap (λ cs. insert_class (joined_class kind (pair_of id rest) others) cs) (apart_none kind.n (pair_of id rest) others unshared_)
          ∙ ap (λ k. insert_class k others) (of_type class kind (ascending ((pair_of id rest) ++ sharing kind.n (pair_of id rest) others)) same
          (same_ids (ascending ((pair_of id rest) ++ sharing kind.n (pair_of id rest) others)) class.members (Ascends-ascending ((pair_of id rest) ++ sharing kind.n (pair_of id rest) others)) is.ascends
          (λ q. has_rank-ascending ((pair_of id rest) ++ sharing kind.n (pair_of id rest) others) q ∙ ap (λ ms. has_rank q ((pair_of id rest) ++ ms)) (sharing_none kind.n (pair_of id rest) others unshared_) ∙ short_pair id rest q few ∙ sym (ranks q))))
      | false ↦ λ many.
          let has : shares kind.n (pair_of id rest) (left_of class rest) ≡ true = both_true ((left_of class rest).kind.n == kind.n) _ (eq-eqb class.kind.n kind.n same) (first_shared rest many) in
          ap (λ cs. insert_class (joined_class kind (pair_of id rest) (insert_class (left_of class rest) others)) cs) (apart_one kind.n (pair_of id rest) (left_of class rest) others has unshared_)
          ∙ ap (λ k. insert_class k others) (of_type class kind (ascending ((pair_of id rest) ++ sharing kind.n (pair_of id rest) (insert_class (left_of class rest) others))) same
          (same_ids (ascending ((pair_of id rest) ++ sharing kind.n (pair_of id rest) (insert_class (left_of class rest) others))) class.members (Ascends-ascending ((pair_of id rest) ++ sharing kind.n (pair_of id rest) (insert_class (left_of class rest) others))) is.ascends
          (λ q. has_rank-ascending ((pair_of id rest) ++ sharing kind.n (pair_of id rest) (insert_class (left_of class rest) others)) q ∙ ap (λ ms. has_rank q ((pair_of id rest) ++ ms)) (sharing_one kind.n (pair_of id rest) (left_of class rest) others has unshared_)
          ∙ same_pair (rank id == q) (rank (first_or id rest) == q) (has_rank q rest) (first_has rest many q) ∙ sym (ranks q))))
    ] refl
  where
    unshared_ : list_any (shares kind.n (pair_of id rest)) others ≡ false
    unshared_ = disjoint_unshared kind.n (pair_of id rest) class others same (λ q h. ranks q ∙ pair_in id rest q h) apart_

    none_few : {X : Type 0} → nat_lt 0 2 ≡ false → X
    none_few e = absurd (let f : true ≡ false = e in cc)

    first_has : (ms : List AnnId) → nat_lt (length ms) 2 ≡ false → (q : ℕ) → (rank (first_or id ms) == q) ≡ true → has_rank q ms ≡ true
    first_has [] many q e = none_few many
    first_has (x ∷ xs) many q e = ap (λ b. b || has_rank q xs) e

    first_shared : (ms : List AnnId) → nat_lt (length ms) 2 ≡ false → list_any (λ m. is_among m (id ∷ first_or id ms ∷ [])) ms ≡ true
    first_shared [] many = none_few many
    first_shared (x ∷ xs) many = ap (λ b. b || list_any (λ m. is_among m (id ∷ x ∷ [])) xs) (or_true (rank id == rank x) _ (ap (λ b. b || false) (eq-eqb (rank x) (rank x) refl)))

-- the classes as they were, where a member that left comes back beside one that stayed
pub comes_back : (kind : RelId) (id other : AnnId) (classes : List Class) (class : Class) → AreClasses classes → class_with kind.n id classes ≡ Some class → other ≡ first_other id class.members
    → joined kind (id ∷ other ∷ []) (parted kind.n id classes) ≡ classes
comes_back kind id other classes class all found is =
    ap (λ o. joined kind (id ∷ o ∷ []) (parted kind.n id classes)) (is ∙ beside_first (rank id) id class.members (rest_of id class) refl)
    ∙ ap (λ o. joined kind (id ∷ first_or id (rest_of id class) ∷ []) (settled_rest id o (other_classes kind.n id classes))) found
    ∙ rejoined kind id (rest_of id class) class (other_classes kind.n id classes) (eqb-true class.kind.n kind.n (first_true _ _ has)) (found_so IsClass kind.n id classes class (each_is classes all) found)
    (found_apart kind.n id classes class all found)
    (λ q. with_others (rank id) q class.members (second_true (class.kind.n == kind.n) _ has) ∙ ap (λ b. (rank id == q) || b) (sym (less_has (rank id) q class.members)))
    ∙ put_again kind.n id classes class all found
  where
    has : has_member kind.n id class ≡ true
    has = found_has kind.n id classes class found

-- ---- members that leave a class that was put

-- a class less some members
abbrev all_less : List AnnId → Class → Class
all_less [] class = class
all_less (id ∷ ids) class = all_less ids (without_member id class)

fewer : (test : AnnId → Bool) (ids : List AnnId) → length (filter test ids) ≤ length ids
fewer test [] = omega arith
fewer test (x ∷ xs) =
    elim (test x) as (λ b. length (cond b (x ∷ filter test xs) (filter test xs)) ≤ suc (length xs)) [
      | true ↦ omega (arith, fewer test xs)
      | false ↦ omega (arith, fewer test xs)
    ]

less_few : (id : AnnId) (class : Class) → nat_lt (length class.members) 2 ≡ true → nat_lt (length (without_member id class).members) 2 ≡ true
less_few id class few = below (length (without_member id class).members) (length class.members) (fewer (λ member. not (rank member == rank id)) class.members) few
  where
    below : (m n : ℕ) → m ≤ n → nat_lt n 2 ≡ true → nat_lt m 2 ≡ true
    below m n h e = grind (arith, nat_tests)

none_less : (place : ℕ) (ids : List AnnId) → has_rank place ids ≡ false → filter (λ member. not (rank member == place)) ids ≡ ids
none_less place [] e = refl
none_less place (x ∷ xs) e =
    ap (λ b. cond (not b) (x ∷ filter (λ member. not (rank member == place)) xs) (filter (λ member. not (rank member == place)) xs)) (first_false (rank x == place) (has_rank place xs) e)
    ∙ ap (λ ys. x ∷ ys) (none_less place xs (last_false (rank x == place) (has_rank place xs) e))

-- none of these classes of a type has the one of an ID
abbrev pub HasNone : ℕ → List Class → AnnId → Type 0
HasNone kind classes id = list_any (has_member kind id) classes ≡ false

-- a member leaves a class that was put
put_leaves : (kind : ℕ) (id : AnnId) (class : Class) (others : List Class) → class.kind.n ≡ kind → has_rank (rank id) class.members ≡ true → HasNone kind others id
    → parted kind id (insert_class class others) ≡ settled (without_member id class) others
put_leaves kind id class others same has none =
    let member : has_member kind id class ≡ true = both_true (class.kind.n == kind) _ (eq-eqb class.kind.n kind same) has in
    ap (λ o. settled_rest id o (other_classes kind id (insert_class class others))) (with_inserted kind id class others member none)
    ∙ ap (settled (without_member id class)) (others_inserted kind id class others member none)

leaves : (kind : ℕ) (id : AnnId) (class : Class) (others : List Class) → class.kind.n ≡ kind → HasNone kind others id → parted kind id (settled class others) ≡ settled (without_member id class) others
leaves kind id class others same none =
    elim (nat_lt (length class.members) 2) as (λ b. nat_lt (length class.members) 2 ≡ b → parted kind id (cond b others (insert_class class others)) ≡ settled (without_member id class) others) [
      | true ↦ λ few. parted_none kind id others none ∙ sym (ap (λ b. cond b others (insert_class (without_member id class) others)) (less_few id class few))
      | false ↦ λ many. elim (has_rank (rank id) class.members) as (λ b. has_rank (rank id) class.members ≡ b → parted kind id (insert_class class others) ≡ settled (without_member id class) others) [
        | true ↦ λ has. put_leaves kind id class others same has none
        | false ↦ λ misses.
            parted_none kind id (insert_class class others) (any_insert (has_member kind id) class others (ap (λ b. (class.kind.n == kind) && b) misses ∙ with_false (class.kind.n == kind)) none)
            ∙ sym (ap (λ b. cond b others (insert_class class others)) many)
            ∙ ap (λ ms. settled (left_of class ms) others) (sym (none_less (rank id) class.members misses))
      ] refl
    ] refl
  where
    with_false : (b : Bool) → (b && false) ≡ false
    with_false true = refl
    with_false false = refl

all_leave : (kind : ℕ) (ids : List AnnId) (class : Class) (others : List Class) → class.kind.n ≡ kind → AllByRecursion (HasNone kind others) ids → all_parted kind ids (settled class others) ≡ settled (all_less ids class) others
all_leave kind [] class others same none = refl
all_leave kind (id ∷ ids) class others same none = ap (all_parted kind ids) (leaves kind id class others same none.0) ∙ all_leave kind ids (without_member id class) others same none.1

less_has_all : (q : ℕ) (ids : List AnnId) (class : Class) → has_rank q (all_less ids class).members ≡ (has_rank q class.members && not (has_rank q ids))
less_has_all q [] class = whole (has_rank q class.members)
  where
    whole : (b : Bool) → b ≡ (b && true)
    whole true = refl
    whole false = refl
less_has_all q (id ∷ ids) class =
    less_has_all q ids (without_member id class) ∙ ap (λ b. b && not (has_rank q ids)) (less_has (rank id) q class.members) ∙ neither (has_rank q class.members) (rank id == q) (has_rank q ids)
  where
    neither : (a b c : Bool) → ((a && not b) && not c) ≡ (a && not (b || c))
    neither true true c = refl
    neither true false c = refl
    neither false b c = refl

less_ascends_all : (ids : List AnnId) (class : Class) → Ascends class.members → Ascends (all_less ids class).members
less_ascends_all [] class up = up
less_ascends_all (id ∷ ids) class up = less_ascends_all ids (without_member id class) (ascends_less (λ member. not (rank member == rank id)) class.members up)

less_is : (ids : List AnnId) (class : Class) → ◌≡◌ {A = Class} (all_less ids class) (left_of class (all_less ids class).members)
less_is [] class = refl
less_is (id ∷ ids) class = less_is ids (without_member id class)

-- ---- classes that are taken out of some and put among them again

-- each of these classes takes its place, the last first
abbrev all_put : List Class → List Class → List Class
all_put [] classes = classes
all_put (class ∷ more_) classes = insert_class class (all_put more_ classes)

behind_first : (first : Class) (ks xs : List Class) → AllByRecursion (λ k. comes_before k first ≡ false) ks → all_put ks (first ∷ xs) ≡ first ∷ all_put ks xs
behind_first first [] xs all = refl
behind_first first (k ∷ ks) xs all =
    ap (insert_class k) (behind_first first ks xs all.1) ∙ ap (λ b. cond b (k ∷ first ∷ all_put ks xs) (first ∷ insert_class k (all_put ks xs))) all.0

each_behind : (class : Class) (classes : List Class) → AllByRecursion (Precedes class) classes → AllByRecursion (λ k. comes_before k class ≡ false) classes
each_behind class [] all = tt
each_behind class (x ∷ xs) all = (behind class x all.0.before, each_behind class xs all.1)

put_filtered : (test : Class → Bool) (classes : List Class) → AreClasses classes → all_put (filter test classes) (filter (λ class. not (test class)) classes) ≡ classes
put_filtered test [] all = refl
put_filtered test (x ∷ xs) all =
    elim (test x) as (λ b. all_put (cond b (x ∷ filter test xs) (filter test xs)) (cond (not b) (x ∷ filter (λ class. not (test class)) xs) (filter (λ class. not (test class)) xs)) ≡ x ∷ xs) [
      | true ↦ ap (insert_class x) (put_filtered test xs all.2) ∙ first_insert x xs all.1
      | false ↦
          behind_first x (filter test xs) (filter (λ class. not (test class)) xs) (All-filter (λ k. comes_before k x ≡ false) test xs (each_behind x xs all.1))
          ∙ ap (λ ys. x ∷ ys) (put_filtered test xs all.2)
    ]

-- classes that share no member with each other, nor with others
abbrev AreApart : List Class → List Class → Type 0
AreApart [] others = ⊤
AreApart (class ∷ classes) others = (IsClass class × AllByRecursion (AreDisjoint class) classes) × (AllByRecursion (AreDisjoint class) others × AreApart classes others)

one_more : (class : Class) (classes others : List Class) → AreApart classes others → AllByRecursion (λ k. AreDisjoint k class) classes → AreApart classes (class ∷ others)
one_more class [] others all apart_ = tt
one_more class (x ∷ xs) others all apart_ = (all.0, ((apart_.0, all.1.0), one_more class xs others all.1.1 apart_.1))

each_turned : (class : Class) (classes : List Class) → AllByRecursion (AreDisjoint class) classes → AllByRecursion (λ k. AreDisjoint k class) classes
each_turned class [] all = tt
each_turned class (x ∷ xs) all = (disjoint-sym class x all.0, each_turned class xs all.1)

filtered_apart : (test : Class → Bool) (classes : List Class) → AreClasses classes → AreApart (filter test classes) (filter (λ class. not (test class)) classes)
filtered_apart test [] all = tt
filtered_apart test (x ∷ xs) all =
    elim (test x) as (λ b. AreApart (cond b (x ∷ filter test xs) (filter test xs)) (cond (not b) (x ∷ filter (λ class. not (test class)) xs) (filter (λ class. not (test class)) xs))) [
      | true ↦ ((all.0, All-filter (AreDisjoint x) test xs (each_disjoint x xs all.1)), (All-filter (AreDisjoint x) (λ class. not (test class)) xs (each_disjoint x xs all.1), filtered_apart test xs all.2))
      | false ↦ one_more x (filter test xs) (filter (λ class. not (test class)) xs) (filtered_apart test xs all.2) (All-filter (λ k. AreDisjoint k x) test xs (each_turned x xs (each_disjoint x xs all.1)))
    ]

-- a class that shares no member with others is joined as it is
joined_alone : (class : Class) (classes : List Class) → IsClass class → AllByRecursion (AreDisjoint class) classes → joined class.kind class.members classes ≡ insert_class class classes
joined_alone class classes is apart_ =
    let none : list_any (shares class.kind.n class.members) classes ≡ false = disjoint_unshared class.kind.n class.members class classes refl (λ q h. h) apart_ in
    ap (insert_class (joined_class class.kind class.members classes)) (apart_none class.kind.n class.members classes none)
    ∙ ap (λ k. insert_class k classes) (of_type class class.kind (ascending (class.members ++ sharing class.kind.n class.members classes)) refl
    (same_ids (ascending (class.members ++ sharing class.kind.n class.members classes)) class.members (Ascends-ascending (class.members ++ sharing class.kind.n class.members classes)) is.ascends
    (λ q. has_rank-ascending (class.members ++ sharing class.kind.n class.members classes) q ∙ ap (λ ms. has_rank q (class.members ++ ms)) (sharing_none class.kind.n class.members classes none) ∙ ap (has_rank q) (nothing_more class.members))))

all_so : (P : Class → Type 0) (classes others : List Class) → AllByRecursion P classes → AllByRecursion P others → AllByRecursion P (all_put classes others)
all_so P [] others all rest = rest
all_so P (x ∷ xs) others all rest = All-insert P x (all_put xs others) all.0 (all_so P xs others all.1 rest)

joined_put : (classes others : List Class) → AreApart classes others → all_joined classes others ≡ all_put classes others
joined_put [] others all = refl
joined_put (x ∷ xs) others all =
    ap (joined x.kind x.members) (joined_put xs others all.1.1) ∙ joined_alone x (all_put xs others) all.0.0 (all_so (AreDisjoint x) xs others all.0.1 all.1.0)

pub joined_last : (classes : List Class) (class : Class) (others : List Class) → all_joined (classes ++ class ∷ []) others ≡ all_joined classes (joined class.kind class.members others)
joined_last [] class others = refl
joined_last (x ∷ xs) class others = ap (joined x.kind x.members) (joined_last xs class others)

-- one of two classes in its place, and then the other
first_put : (a b : Class) (classes : List Class) → comes_before a b ≡ true → insert_class a (insert_class b classes) ≡ insert_class b (insert_class a classes)
first_put a b [] before = ap (λ t. cond t (a ∷ b ∷ []) (b ∷ a ∷ [])) before ∙ sym (ap (λ t. cond t (b ∷ a ∷ []) (a ∷ b ∷ [])) (behind a b before))
first_put a b (x ∷ xs) before = split (comes_before b x) (comes_before a x) (first_put a b xs before) refl refl
  where
    split : (p q : Bool) → insert_class a (insert_class b xs) ≡ insert_class b (insert_class a xs) → comes_before b x ≡ p → comes_before a x ≡ q → insert_class a (insert_class b (x ∷ xs)) ≡ insert_class b (insert_class a (x ∷ xs))
    split true q rest e f =
        ap (insert_class a) (ap (λ t. cond t (b ∷ x ∷ xs) (x ∷ insert_class b xs)) e)
        ∙ ap (λ t. cond t (a ∷ b ∷ x ∷ xs) (b ∷ insert_class a (x ∷ xs))) before
        ∙ sym (ap (insert_class b) (ap (λ t. cond t (a ∷ x ∷ xs) (x ∷ insert_class a xs)) (comes_before-trans a b x before e))
        ∙ ap (λ t. cond t (b ∷ a ∷ x ∷ xs) (a ∷ insert_class b (x ∷ xs))) (behind a b before)
        ∙ ap (λ ys. a ∷ ys) (ap (λ t. cond t (b ∷ x ∷ xs) (x ∷ insert_class b xs)) e))
    split false true rest e f =
        ap (insert_class a) (ap (λ t. cond t (b ∷ x ∷ xs) (x ∷ insert_class b xs)) e)
        ∙ ap (λ t. cond t (a ∷ x ∷ insert_class b xs) (x ∷ insert_class a (insert_class b xs))) f
        ∙ sym (ap (insert_class b) (ap (λ t. cond t (a ∷ x ∷ xs) (x ∷ insert_class a xs)) f)
        ∙ ap (λ t. cond t (b ∷ a ∷ x ∷ xs) (a ∷ insert_class b (x ∷ xs))) (behind a b before)
        ∙ ap (λ ys. a ∷ ys) (ap (λ t. cond t (b ∷ x ∷ xs) (x ∷ insert_class b xs)) e))
    split false false rest e f =
        ap (insert_class a) (ap (λ t. cond t (b ∷ x ∷ xs) (x ∷ insert_class b xs)) e)
        ∙ ap (λ t. cond t (a ∷ x ∷ insert_class b xs) (x ∷ insert_class a (insert_class b xs))) f
        ∙ ap (λ ys. x ∷ ys) rest
        ∙ sym (ap (insert_class b) (ap (λ t. cond t (a ∷ x ∷ xs) (x ∷ insert_class a xs)) f)
        ∙ ap (λ t. cond t (b ∷ x ∷ insert_class a xs) (x ∷ insert_class b (insert_class a xs))) e)

-- two classes take their places in either order
put_turned : (a b : Class) (classes : List Class) → IsClass a → IsClass b → AreDisjoint a b → insert_class a (insert_class b classes) ≡ insert_class b (insert_class a classes)
put_turned a b classes first second apart_ =
    elim (comes_before a b) as (λ t. comes_before a b ≡ t → insert_class a (insert_class b classes) ≡ insert_class b (insert_class a classes)) [
      | true ↦ λ e. first_put a b classes e
      | false ↦ λ e. sym (first_put b a classes (comes_after a b first second apart_ e))
    ] refl

put_behind : (class : Class) (after others : List Class) → IsClass class → AllByRecursion (AreDisjoint class) after → AreApart after others → all_put after (insert_class class others) ≡ insert_class class (all_put after others)
put_behind class [] others is all apart_ = refl
put_behind class (x ∷ xs) others is all apart_ =
    ap (insert_class x) (put_behind class xs others is all.1 apart_.1.1) ∙ put_turned x class (all_put xs others) apart_.0.0 is (disjoint-sym class x all.0)

-- it is the same which of some classes is put first
put_between : (front : List Class) (class : Class) (after others : List Class) → AreApart (front ++ class ∷ after) others → all_put (front ++ after) (insert_class class others) ≡ all_put (front ++ class ∷ after) others
put_between [] class after others all = put_behind class after others all.0.0 all.0.1 all.1.1
put_between (x ∷ xs) class after others all = ap (insert_class x) (put_between xs class after others all.1.1)

pub one_so : (P : Class → Type 0) (front : List Class) (class : Class) (after : List Class) → AllByRecursion P (front ++ class ∷ after) → P class × AllByRecursion P (front ++ after)
one_so P [] class after all = all
one_so P (x ∷ xs) class after all = let rest : P class × AllByRecursion P (xs ++ after) = one_so P xs class after all.1 in (rest.0, (all.0, rest.1))

one_apart : (front : List Class) (class : Class) (after others : List Class) → AreApart (front ++ class ∷ after) others → IsClass class × AllByRecursion (AreDisjoint class) others
one_apart [] class after others all = (all.0.0, all.1.0)
one_apart (x ∷ xs) class after others all = one_apart xs class after others all.1.1

put_apart : (class : Class) (classes others : List Class) → AreApart classes others → AllByRecursion (λ k. AreDisjoint k class) classes → AreApart classes (insert_class class others)
put_apart class [] others all apart_ = tt
put_apart class (x ∷ xs) others all apart_ = (all.0, (All-insert (AreDisjoint x) class others apart_.0 all.1.0, put_apart class xs others all.1.1 apart_.1))

others_apart : (front : List Class) (class : Class) (after others : List Class) → AreApart (front ++ class ∷ after) others → AreApart (front ++ after) (insert_class class others)
others_apart [] class after others all = put_apart class after others all.1.1 (each_turned class after all.0.1)
others_apart (x ∷ xs) class after others all =
    let rest : AreDisjoint x class × AllByRecursion (AreDisjoint x) (xs ++ after) = one_so (AreDisjoint x) xs class after all.0.1 in
    ((all.0.0, rest.1), (All-insert (AreDisjoint x) class others rest.0 all.1.0, others_apart xs class after others all.1.1))

-- classes that are taken out of some, one of them put and the others joined again
joined_again : (test : Class → Bool) (classes front : List Class) (kept : Class) (after : List Class) → AreClasses classes → filter test classes ≡ front ++ kept ∷ after
    → all_joined (front ++ after) (insert_class kept (filter (λ class. not (test class)) classes)) ≡ classes
joined_again test classes front kept after all is =
    let others = filter (λ class. not (test class)) classes in
    let apart_ : AreApart (front ++ kept ∷ after) others = subst (λ cs. AreApart cs others) is (filtered_apart test classes all) in
    joined_put (front ++ after) (insert_class kept others) (others_apart front kept after others apart_) ∙ put_between front kept after others apart_ ∙ ap (λ cs. all_put cs others) (sym is)
    ∙ put_filtered test classes all

-- ---- what was joined is parted

pub sharing_filtered : (kind : ℕ) (ids : List AnnId) (classes : List Class) → sharing kind ids classes ≡ flat_map (λ class. class.members) (filter (shares kind ids) classes)
sharing_filtered kind ids [] = refl
sharing_filtered kind ids (x ∷ xs) =
    elim (shares kind ids x) as (λ b. cond b (x.members ++ sharing kind ids xs) (sharing kind ids xs) ≡ flat_map (λ class. class.members) (cond b (x ∷ filter (shares kind ids) xs) (filter (shares kind ids) xs))) [
      | true ↦ ap (λ ys. x.members ++ ys) (sharing_filtered kind ids xs) ∙ sym (flat_map-cons (λ class. class.members) x (filter (shares kind ids) xs))
      | false ↦ sharing_filtered kind ids xs
    ]

has_one : (q : ℕ) (front : List Class) (class : Class) (after : List Class)
    → has_rank q (flat_map (λ class. class.members) (front ++ class ∷ after)) ≡ (has_rank q (flat_map (λ class. class.members) (front ++ after)) || has_rank q class.members)
has_one q [] class after =
    ap (has_rank q) (flat_map-cons (λ class. class.members) class after) ∙ list_any-append (λ id. rank id == q) class.members (flat_map (λ class. class.members) after)
    ∙ turned (has_rank q class.members) (has_rank q (flat_map (λ class. class.members) after))
  where
    turned : (a b : Bool) → (a || b) ≡ (b || a)
    turned true true = refl
    turned true false = refl
    turned false true = refl
    turned false false = refl
has_one q (x ∷ xs) class after =
    ap (has_rank q) (flat_map-cons (λ class. class.members) x (xs ++ class ∷ after)) ∙ list_any-append (λ id. rank id == q) x.members (flat_map (λ class. class.members) (xs ++ class ∷ after))
    ∙ ap (λ b. has_rank q x.members || b) (has_one q xs class after)
    ∙ grouped (has_rank q x.members) (has_rank q (flat_map (λ class. class.members) (xs ++ after))) (has_rank q class.members)
    ∙ ap (λ b. b || has_rank q class.members) (sym (list_any-append (λ id. rank id == q) x.members (flat_map (λ class. class.members) (xs ++ after))) ∙ sym (ap (has_rank q) (flat_map-cons (λ class. class.members) x (xs ++ after))))
  where
    grouped : (a b c : Bool) → (a || (b || c)) ≡ ((a || b) || c)
    grouped true b c = refl
    grouped false b c = refl

inserted_apart : (class : Class) (others : List Class) → AreClasses (insert_class class others) → IsClass class × AllByRecursion (AreDisjoint class) others
inserted_apart class [] all = (all.0, tt)
inserted_apart class (x ∷ xs) all =
    elim (comes_before class x) as (λ b. AreClasses (cond b (class ∷ x ∷ xs) (x ∷ insert_class class xs)) → IsClass class × AllByRecursion (AreDisjoint class) (x ∷ xs)) [
      | true ↦ λ before. (before.0, each_disjoint class (x ∷ xs) before.1)
      | false ↦ λ after.
          let later = inserted_apart class xs after.2 in
          (later.0, (disjoint-sym x class (inserted_so (Precedes x) class xs after.1).disjoint, later.1))
    ] all
  where
    inserted_so : (P : Class → Type 0) (class : Class) (others : List Class) → AllByRecursion P (insert_class class others) → P class
    inserted_so P class [] all = all.0
    inserted_so P class (x ∷ xs) all =
        elim (comes_before class x) as (λ b. AllByRecursion P (cond b (class ∷ x ∷ xs) (x ∷ insert_class class xs)) → P class) [
          | true ↦ λ before. before.0
          | false ↦ λ after. inserted_so P class xs after.1
        ] all

-- what lies in a class lies in none that is disjoint from it
disjoint_none : (kind : ℕ) (id : AnnId) (class : Class) (others : List Class) → class.kind.n ≡ kind → has_rank (rank id) class.members ≡ true → AllByRecursion (AreDisjoint class) others → HasNone kind others id
disjoint_none kind id class [] same has all = refl
disjoint_none kind id class (x ∷ xs) same has all = none_of (has_member kind id x) _ here (disjoint_none kind id class xs same has all.1)
  where
    here : has_member kind id x ≡ false
    here =
        elim (x.kind.n == kind) as (λ b. (x.kind.n == kind) ≡ b → (b && has_rank (rank id) x.members) ≡ false) [
          | true ↦ λ e. all.0 (same ∙ sym (eqb-true x.kind.n kind e)) (rank id) has
          | false ↦ λ _. refl
        ] refl

each_none : (kind : ℕ) (ids : List AnnId) (class : Class) (others : List Class) → class.kind.n ≡ kind → ((q : ℕ) → has_rank q ids ≡ true → has_rank q class.members ≡ true) → AllByRecursion (AreDisjoint class) others
    → AllByRecursion (HasNone kind others) ids
each_none kind [] class others same within all = tt
each_none kind (x ∷ xs) class others same within all = (
  disjoint_none kind x class others same (within (rank x) (first_has x xs)) all,
  each_none kind xs class others same (λ q h. within q (or_true (rank x == q) _ h)) all,
)
  where
    first_has : (x : AnnId) (xs : List AnnId) → has_rank (rank x) (x ∷ xs) ≡ true
    first_has x xs = ap (λ b. b || has_rank (rank x) xs) (eq-eqb (rank x) (rank x) refl)

-- members of a class that was put leave it, all but those of another class
put_parted : (kind : ℕ) (ids : List AnnId) (class kept : Class) (others : List Class) → class.kind.n ≡ kind → kept.kind.n ≡ kind → IsClass class → Ascends kept.members → AllByRecursion (AreDisjoint class) others
    → nat_lt (length kept.members) 2 ≡ false → ((q : ℕ) → has_rank q ids ≡ true → has_rank q class.members ≡ true)
    → ((q : ℕ) → (has_rank q class.members && not (has_rank q ids)) ≡ has_rank q kept.members) → all_parted kind ids (insert_class class others) ≡ insert_class kept others
put_parted kind ids class kept others same typed is up apart_ many within ranks = split ids refl
  where
    less_kept : all_less ids class ≡ kept
    less_kept =
        less_is ids class
        ∙ of_type kept class.kind (all_less ids class).members (typed ∙ sym same)
        (same_ids (all_less ids class).members kept.members (less_ascends_all ids class is.ascends) up (λ q. less_has_all q ids class ∙ ranks q))

    split : (os : List AnnId) → ids ≡ os → all_parted kind ids (insert_class class others) ≡ insert_class kept others
    split [] e = ap (λ is_. all_parted kind is_ (insert_class class others)) e ∙ ap (λ k. insert_class k others) (sym (ap (λ is_. all_less is_ class) e) ∙ less_kept)
    split (o ∷ os) e =
        let none : AllByRecursion (HasNone kind others) ids = each_none kind ids class others same within apart_ in
        let none_each : AllByRecursion (HasNone kind others) (o ∷ os) = subst (AllByRecursion (HasNone kind others)) e none in
        let has : has_rank (rank o) class.members ≡ true =
        within (rank o) (ap (has_rank (rank o)) e ∙ ap (λ b. b || has_rank (rank o) os) (eq-eqb (rank o) (rank o) refl)) in
        ap (λ is_. all_parted kind is_ (insert_class class others)) e
        ∙ ap (all_parted kind os) (put_leaves kind o class others same has none_each.0)
        ∙ all_leave kind os (without_member o class) others same none_each.1
        ∙ ap (λ k. settled k others) (sym (ap (λ is_. all_less is_ class) e) ∙ less_kept)
        ∙ ap (λ b. cond b others (insert_class kept others)) many

each_passes : (test : Class → Bool) (classes : List Class) → AllByRecursion (λ class. test class ≡ true) (filter test classes)
each_passes test [] = tt
each_passes test (x ∷ xs) =
    elim (test x) as (λ b. test x ≡ b → AllByRecursion (λ class. test class ≡ true) (cond b (x ∷ filter test xs) (filter test xs))) [
      | true ↦ λ e. (e, each_passes test xs)
      | false ↦ λ _. each_passes test xs
    ] refl

joined_has : (kind : RelId) (ids : List AnnId) (classes : List Class) (q : ℕ) → has_rank q (joined_class kind ids classes).members ≡ (has_rank q ids || has_rank q (flat_map (λ class. class.members) (filter (shares kind.n ids) classes)))
joined_has kind ids classes q =
    has_rank-ascending (ids ++ sharing kind.n ids classes) q ∙ list_any-append (λ id. rank id == q) ids (sharing kind.n ids classes)
    ∙ ap (λ ms. has_rank q ids || has_rank q ms) (sharing_filtered kind.n ids classes)

-- the classes as they were, where all that was joined leaves one of the classes that shared, and the others are classes again
pub joined_parts : (kind : RelId) (ids out : List AnnId) (classes front : List Class) (kept : Class) (after : List Class) → AreClasses classes → AreClasses (joined kind ids classes)
    → filter (shares kind.n ids) classes ≡ front ++ kept ∷ after → nat_lt (length kept.members) 2 ≡ false
    → ((q : ℕ) → has_rank q out ≡ ((has_rank q ids || has_rank q (flat_map (λ class. class.members) (front ++ after))) && not (has_rank q kept.members)))
    → all_joined (front ++ after) (all_parted kind.n out (joined kind ids classes)) ≡ classes
joined_parts kind ids out classes front kept after all made is many leave =
    let class : Class = joined_class kind ids classes in
    let others : List Class = apart kind.n ids classes in
    let rest : List Class = front ++ after in
    let put : IsClass class × AllByRecursion (AreDisjoint class) others = inserted_apart class others made in
    let one : IsClass kept × AllByRecursion (AreDisjoint kept) others = one_apart front kept after others (subst (λ cs. AreApart cs others) is (filtered_apart (shares kind.n ids) classes all)) in
    let shared : shares kind.n ids kept ≡ true =
    (one_so (λ c. shares kind.n ids c ≡ true) front kept after (subst (AllByRecursion (λ c. shares kind.n ids c ≡ true)) is (each_passes (shares kind.n ids) classes))).0 in
    let typed : kept.kind.n ≡ kind.n = eqb-true kept.kind.n kind.n (first_true _ _ shared) in
    let has : (q : ℕ) → has_rank q class.members ≡ (has_rank q ids || (has_rank q (flat_map (λ class. class.members) rest) || has_rank q kept.members)) =
    λ q. joined_has kind ids classes q ∙ ap (λ cs. has_rank q ids || has_rank q (flat_map (λ class. class.members) cs)) is ∙ ap (λ b. has_rank q ids || b) (has_one q front kept after) in
    ap (all_joined rest) (put_parted kind.n out class kept others refl typed put.0 one.0.ascends put.1 many
    (λ q h. has q ∙ within (has_rank q ids) (has_rank q (flat_map (λ class. class.members) rest)) (has_rank q kept.members) (sym (leave q) ∙ h))
    (λ q. ap (λ b. b && not (has_rank q out)) (has q) ∙ ap (λ b. (has_rank q ids || (has_rank q (flat_map (λ class. class.members) rest) || has_rank q kept.members)) && not b) (leave q)
    ∙ left_over (has_rank q ids) (has_rank q (flat_map (λ class. class.members) rest)) (has_rank q kept.members)))
    ∙ joined_again (shares kind.n ids) classes front kept after all is
  where
    within : (a b c : Bool) → ((a || b) && not c) ≡ true → (a || (b || c)) ≡ true
    within true b c e = refl
    within false true c e = refl
    within false false c e = absurd (let f : false ≡ true = e in cc)

    left_over : (a b c : Bool) → ((a || (b || c)) && not ((a || b) && not c)) ≡ c
    left_over true b true = refl
    left_over true b false = refl
    left_over false true true = refl
    left_over false true false = refl
    left_over false false true = refl
    left_over false false false = refl

none_passes : (test : Class → Bool) (classes : List Class) → filter test classes ≡ [] → filter (λ class. not (test class)) classes ≡ classes
none_passes test [] e = refl
none_passes test (x ∷ xs) e =
    elim (test x) as (λ b. cond b (x ∷ filter test xs) (filter test xs) ≡ [] → cond (not b) (x ∷ filter (λ class. not (test class)) xs) (filter (λ class. not (test class)) xs) ≡ x ∷ xs) [
      | true ↦ λ f. absurd (let g : x ∷ filter test xs ≡ [] = f in cc)
      | false ↦ λ f. ap (λ ys. x ∷ ys) (none_passes test xs f)
    ] e

no_member : (ids : List AnnId) → ((q : ℕ) → has_rank q ids ≡ false) → ids ≡ []
no_member [] none = refl
no_member (x ∷ xs) none = absurd (let f : true ≡ false = sym (ap (λ b. b || has_rank (rank x) xs) (eq-eqb (rank x) (rank x) refl)) ∙ none (rank x) in cc)

-- the classes as they were, where no class shared a member with those that were joined, and these leave the class that they made
pub joined_new : (kind : RelId) (ids : List AnnId) (classes : List Class) → AreClasses (joined kind ids classes) → filter (shares kind.n ids) classes ≡ [] → 0 < length ids
    → all_parted kind.n ids (joined kind ids classes) ≡ classes
joined_new kind [] classes made is some = absurd (omega arith)
joined_new kind (o ∷ os) classes made is some =
    let ids : List AnnId = o ∷ os in
    let class : Class = joined_class kind ids classes in
    let others : List Class = apart kind.n ids classes in
    let put : IsClass class × AllByRecursion (AreDisjoint class) others = inserted_apart class others made in
    let has : (q : ℕ) → has_rank q class.members ≡ has_rank q ids = λ q. joined_has kind ids classes q ∙ ap (λ cs. has_rank q ids || has_rank q (flat_map (λ class. class.members) cs)) is ∙ alone (has_rank q ids) in
    let none : AllByRecursion (HasNone kind.n others) ids = each_none kind.n ids class others refl (λ q h. has q ∙ h) put.1 in
    ap (all_parted kind.n os) (put_leaves kind.n o class others refl (has (rank o) ∙ ap (λ b. b || has_rank (rank o) os) (eq-eqb (rank o) (rank o) refl)) none.0)
    ∙ all_leave kind.n os (without_member o class) others refl none.1
    ∙ ap (λ k. settled k others) (less_is ids class)
    ∙ ap (λ ms. settled (left_of class ms) others) (no_member (all_less ids class).members (λ q. less_has_all q ids class ∙ ap (λ b. b && not (has_rank q ids)) (has q) ∙ never (has_rank q ids)))
    ∙ none_passes (shares kind.n ids) classes is
  where
    alone : (b : Bool) → (b || false) ≡ b
    alone true = refl
    alone false = refl

    never : (b : Bool) → (b && not b) ≡ false
    never true = refl
    never false = refl
