-- Names that no earlier line declares differ, and lists that are never past a bound keep it.
use Rattle.std.proofs.Common.{◌≡◌, ℕ, ◌≤◌, ◌&&◌, true, false, List, [], ◌∷◌, map, length, Some, nat_lt, nat_le, bytes_eq, count_by, slice_get, zero, suc, refl, sym, subst, ◌∙◌, ap, arith, inl, inr}
use Rattle.std.specs.List.{AllByRecursion as Each}
use Rattle.std.proofs.lemmas.Bool.{or_from, lt-ltb, le-leb, ltb-false, cases_order, false_from_ne_true, true≢false}
use Rattle.std.proofs.lemmas.Option.{none-some, same_Some}
use Rattle.std.proofs.lemmas.Slice.Eq.{bytes_eq-Decides}
use Rattle.conf_model.specs.ConfFaults.{Declared, stood_before, are_past, is_among, stands_twice}
use Rattle.annotation_conf.proofs.SoundLists.{each_weaker, each_both, Each-map, each_fails, none_passes, highest, highest_above, highest_all, highest_one, count_all}

pub same_bytes : (xs ys : List ℕ) → bytes_eq xs ys ≡ true → xs ≡ ys
same_bytes xs ys e = (bytes_eq-Decides xs ys).0 e

pub bytes_same : (xs ys : List ℕ) → xs ≡ ys → bytes_eq xs ys ≡ true
bytes_same xs ys e = (bytes_eq-Decides xs ys).1 e

pub bytes_differ : (xs ys : List ℕ) → bytes_eq xs ys ≡ false → bytes_eq ys xs ≡ false
bytes_differ xs ys e = false_from_ne_true (bytes_eq ys xs) (λ t. true≢false (sym (bytes_same xs ys (sym (same_bytes ys xs t))) ∙ e))

-- no two have the same number
abbrev pub NumbersDiffer : List Declared → Type 0
NumbersDiffer [] = Unit {0}
NumbersDiffer (d ∷ ds) = Each (λ (one : Declared). one.number ≡ d.number → ⊥) ds × NumbersDiffer ds

-- two names on different lines, neither of which is declared before the other
names_differ : (a b : Declared) → (b.number ≡ a.number → ⊥) → (nat_lt b.number a.number && bytes_eq b.name a.name) ≡ false → (nat_lt a.number b.number && bytes_eq a.name b.name) ≡ false
    → bytes_eq a.name b.name ≡ false
names_differ a b apart p q =
    elim (cases_order a.number b.number) [
      | inl same ↦ absurd (apart (sym same))
      | inr sides ↦ elim sides [
        | inl lt ↦ sym (ap (λ t. t && bytes_eq a.name b.name) (lt-ltb a.number b.number lt)) ∙ q
        | inr gt ↦ bytes_differ b.name a.name (sym (ap (λ t. t && bytes_eq b.name a.name) (lt-ltb b.number a.number gt)) ∙ p)
      ]
    ]

once_differ : (ds : List Declared) → Each (λ (d : Declared). Each (λ (one : Declared). (nat_lt one.number d.number && bytes_eq one.name d.name) ≡ false) ds) ds → NumbersDiffer ds
    → stands_twice (map (λ (d : Declared). d.name) ds) ≡ false
once_differ [] e a = refl
once_differ (x ∷ ds) e a =
    or_from (is_among (map (λ (d : Declared). d.name) ds) x.name) (stands_twice (map (λ (d : Declared). d.name) ds))
    (none_passes (bytes_eq x.name) (map (λ (d : Declared). d.name) ds)
    (Each-map (λ name. bytes_eq x.name name ≡ false) (λ (d : Declared). d.name) ds
    (each_both (λ (d : Declared). d.number ≡ x.number → ⊥) (λ (d : Declared). ((nat_lt d.number x.number && bytes_eq d.name x.name) ≡ false) × ((nat_lt x.number d.number && bytes_eq x.name d.name) ≡ false))
    (λ (d : Declared). bytes_eq x.name d.name ≡ false) (λ d apart both. names_differ x d apart both.0 both.1) ds a.0
    (each_both (λ (d : Declared). (nat_lt d.number x.number && bytes_eq d.name x.name) ≡ false) (λ (d : Declared). Each (λ (one : Declared). (nat_lt one.number d.number && bytes_eq one.name d.name) ≡ false) (x ∷ ds)) _ (λ d p q. (p, q.0)) ds e.0.1 e.1))))
    (once_differ ds (each_weaker (λ (d : Declared). Each (λ (one : Declared). (nat_lt one.number d.number && bytes_eq one.name d.name) ≡ false) (x ∷ ds)) (λ (d : Declared). Each (λ (one : Declared). (nat_lt one.number d.number && bytes_eq one.name d.name) ≡ false) ds) (λ d q. q.1) ds e.1) a.1)

-- where no line before a line declares its name, names differ
pub differ_once : (ds : List Declared) → Each (λ (d : Declared). stood_before d.number d.name ds ≡ false) ds → NumbersDiffer ds → stands_twice (map (λ (d : Declared). d.name) ds) ≡ false
differ_once ds e a =
    once_differ ds
    (each_weaker (λ (d : Declared). stood_before d.number d.name ds ≡ false) (λ (d : Declared). Each (λ (one : Declared). (nat_lt one.number d.number && bytes_eq one.name d.name) ≡ false) ds)
    (λ d f. each_fails (λ (one : Declared). nat_lt one.number d.number && bytes_eq one.name d.name) ds f) ds e) a

-- the element of a place
pub each_at : {X : Type 0} (P : X → Type 0) (xs : List X) (k : ℕ) (x : X) → Each P xs → slice_get xs k ≡ Some x → P x
each_at P [] k x a e = absurd (none-some x e)
each_at P (y ∷ xs) zero x a e = let same : y ≡ x = same_Some y x e in subst P same a.0
each_at P (y ∷ xs) (suc k) x a e = each_at P xs k x a.1 e

-- not more than a bound are declared, where no line is past it
pub few_by : (most : ℕ) (ys : List Declared) (ns : List ℕ) → Each (λ n. are_past most n ys ≡ false) ns
    → ((top : ℕ) → Each (λ n. n ≤ top) ns → Each (λ (y : Declared). y.number ≤ top) ys) → (ns ≡ [] → ys ≡ []) → length ys ≤ most
few_by most ys [] a within none = let no : length ys ≡ 0 = ap length (none refl) in omega arith
few_by most ys (n ∷ ns) a within none =
    let top = highest n ns in
    let low : Each (λ (y : Declared). y.number ≤ top) ys = within top (highest_above n ns, highest_all n ns) in
    let all : count_by (λ (one : Declared). nat_le one.number top) ys ≡ length ys =
    count_all (λ (one : Declared). nat_le one.number top) ys (each_weaker (λ (y : Declared). y.number ≤ top) (λ (y : Declared). nat_le y.number top ≡ true) (λ y h. le-leb y.number top h) ys low) in
    let past : count_by (λ (one : Declared). nat_le one.number top) ys ≤ most =
    ltb-false most (count_by (λ (one : Declared). nat_le one.number top) ys) (highest_one (λ k. are_past most k ys ≡ false) n ns a.0 a.1) in
    omega (arith, all, past)
