-- Lists of numbers that were met before.
use Rattle.std.proofs.Common.{◌≡◌, ℕ, ◌+◌, ◌<◌, ◌≤◌, zero, suc, Bool, true, false, cond, ◌&&◌, ◌==◌, eq-eqb, ne_eqb, List, [], ◌∷◌, ◌++◌, map, take, drop, length, get_or, refl, sym, ◌∙◌, ap, Option, Some, None, arith}
use Rattle.std.specs.Option.{option_or, option_map}
use Rattle.std.specs.List.{find}
use Rattle.std.specs.Ordering.{nat_cmp, is_eq, ordering_then}
use Rattle.std.specs.Cmp.{eq_by_cmp_equiv, ranked}
use Rattle.std.specs.Cmp.Lexicographic.{slice_cmp, nat_list_cmp_total}
use Rattle.std.specs.FinMap.{nat_cmp-IsAntisymmetric, slice_cmp-IsAntisymmetric}
use Rattle.std.specs.declared.cmp.Ordering.{Ordering}
use Rattle.std.specs.declared.cmp.Ordering.TheVariants.{Less, Equal, Greater}
use Rattle.mark_base.specs.declared.ann_id.AnnId.{AnnId}
use Rattle.layer_rules.specs.declared.repeats.KeyedId.{KeyedId}
use Rattle.layer_rules.specs.declared.repeats.Repeat.{Repeat}
use Rattle.layer_rules.specs.Repeats.{first_with, repeat_after, same_numbers, shown}

tied : (r : Ordering) → is_eq r ≡ true → r ≡ Equal
tied Less p = cc
tied Equal p = refl
tied Greater p = cc

pub same_numbers-equal : (a b : List ℕ) → same_numbers a b ≡ true → a ≡ b
same_numbers-equal a b e = slice_cmp-IsAntisymmetric nat_cmp-IsAntisymmetric a b (tied _ e)

-- one more annotation is found where none before it has the numbers
pub with_more : (q : List ℕ) (seen : List (AnnId × List ℕ)) (one : AnnId × List ℕ) → first_with q (seen ++ (one ∷ [])) ≡ option_or (first_with q seen) (cond (same_numbers q one.1) (Some one.0) None)
with_more q [] one = elim (same_numbers q one.1) as (λ b. option_map (λ (o : AnnId × List ℕ). o.0) (cond b (Some one) None) ≡ cond b (Some one.0) None) [ true ↦ refl | false ↦ refl ]
with_more q (s ∷ seen) one =
    elim (same_numbers q s.1) as (λ b. option_map (λ (o : AnnId × List ℕ). o.0) (cond b (Some s) (find (λ o. same_numbers q o.1) (seen ++ (one ∷ []))))
    ≡ option_or (option_map (λ (o : AnnId × List ℕ). o.0) (cond b (Some s) (find (λ o. same_numbers q o.1) seen))) (cond (same_numbers q one.1) (Some one.0) None)) [
      | true ↦ refl
      | false ↦ with_more q seen one
    ]

or-None : {X : Type 0} (a : Option X) → option_or a None ≡ a
or-None None = refl
or-None (Some a) = refl

same_turned : (a b : List ℕ) → same_numbers a b ≡ same_numbers b a
same_turned a b = (eq_by_cmp_equiv nat_list_cmp_total).symm a b

pub put_more : (q key : List ℕ) (id : AnnId) (seen : List (AnnId × List ℕ)) → first_with key seen ≡ None
    → cond (same_numbers key q) (Some id) (first_with q seen) ≡ first_with q (seen ++ ((id, key) ∷ []))
put_more q key id seen new =
    ap (λ b. cond b (Some id) (first_with q seen)) (same_turned key q)
    ∙ elim (same_numbers q key) as (λ b. same_numbers q key ≡ b → cond b (Some id) (first_with q seen) ≡ option_or (first_with q seen) (cond b (Some id) None)) [
      | true ↦ λ e. sym (ap (λ o. option_or o (Some id)) (ap (λ k. first_with k seen) (same_numbers-equal q key e) ∙ new))
      | false ↦ λ e. sym (or-None (first_with q seen))
    ] refl
    ∙ sym (with_more q seen (id, key))

-- ---- a loop over the annotations

taken_ : (all : List KeyedId) (i : ℕ) (one : KeyedId) → i < length all → one ≡ get_or all i one → map shown (take (suc i) all) ≡ map shown (take i all) ++ (shown one ∷ [])
taken_ [] i one below is = absurd (omega arith)
taken_ (x ∷ all) zero one below is = ap (λ y. shown y ∷ []) (sym is)
taken_ (x ∷ all) (suc i) one below is = ap (λ r. shown x ∷ r) (taken_ all i one (omega arith) is)

left_ : (all : List KeyedId) (i : ℕ) (one : KeyedId) → i < length all → one ≡ get_or all i one → map shown (drop i all) ≡ shown one ∷ map shown (drop (suc i) all)
left_ [] i one below is = absurd (omega arith)
left_ (x ∷ all) zero one below is = ap (λ y. shown y ∷ map shown all) (sym is)
left_ (x ∷ all) (suc i) one below is = left_ all i one (omega arith) is

pub taken : (all : List KeyedId) (i : ℕ) (one : KeyedId) → i < length all → one ≡ get_or all i one → map shown (take (i + 1) all) ≡ map shown (take i all) ++ (shown one ∷ [])
taken all i one below is = let next : i + 1 ≡ suc i = omega arith in ap (λ n. map shown (take n all)) next ∙ taken_ all i one below is

left_over : (all : List KeyedId) (i : ℕ) (one : KeyedId) → i < length all → one ≡ get_or all i one → map shown (drop i all) ≡ shown one ∷ map shown (drop (i + 1) all)
left_over all i one below is = let next : suc i ≡ i + 1 = omega arith in left_ all i one below is ∙ ap (λ n. shown one ∷ map shown (drop n all)) next

none_left : (all : List KeyedId) (i : ℕ) → length all ≤ i → map shown (drop i all) ≡ []
none_left [] zero h = refl
none_left [] (suc i) h = refl
none_left (x ∷ all) zero h = absurd (omega arith)
none_left (x ∷ all) (suc i) h = none_left all i (omega arith)

at_first : (seen : List (AnnId × List ℕ)) (one : KeyedId) (more : List (AnnId × List ℕ)) (o : Option AnnId) (whole : Option Repeat) → first_with one.key.items seen ≡ o
    → repeat_after seen (shown one ∷ more) ≡ whole → option_or (option_map (λ first. record { first = first; again = one.id }) o) (repeat_after (seen ++ (shown one ∷ [])) more) ≡ whole
at_first seen one more o whole is before =
    let sofar : Option AnnId → Option Repeat = λ x. option_or (option_map (λ first. record { first = first; again = one.id }) x) (repeat_after (seen ++ (shown one ∷ [])) more) in
    ap sofar (sym is) ∙ before

pub turn : (all : List KeyedId) (i : ℕ) (one : KeyedId) (whole : Option Repeat) → i < length all → one ≡ get_or all i one → first_with one.key.items (map shown (take i all)) ≡ None
    → repeat_after (map shown (take i all)) (map shown (drop i all)) ≡ whole → repeat_after (map shown (take (i + 1) all)) (map shown (drop (i + 1) all)) ≡ whole
turn all i one whole below is new before =
    ap (λ s. repeat_after s (map shown (drop (i + 1) all))) (taken all i one below is)
    ∙ at_first (map shown (take i all)) one (map shown (drop (i + 1) all)) None whole new (sym (ap (repeat_after (map shown (take i all))) (left_over all i one below is)) ∙ before)

pub found : (all : List KeyedId) (i : ℕ) (one : KeyedId) (first : AnnId) (whole : Option Repeat) → i < length all → one ≡ get_or all i one → first_with one.key.items (map shown (take i all)) ≡ Some first
    → repeat_after (map shown (take i all)) (map shown (drop i all)) ≡ whole → Some (record { first = first; again = one.id }) ≡ whole
found all i one first whole below is old before =
    at_first (map shown (take i all)) one (map shown (drop (i + 1) all)) (Some first) whole old (sym (ap (repeat_after (map shown (take i all))) (left_over all i one below is)) ∙ before)

pub ended : (all : List KeyedId) (i : ℕ) (whole : Option Repeat) → length all ≤ i → repeat_after (map shown (take i all)) (map shown (drop i all)) ≡ whole → None ≡ whole
ended all i whole over before = sym (ap (repeat_after (map shown (take i all))) (none_left all i over)) ∙ before

then_same : (r s : Ordering) → is_eq (ordering_then r s) ≡ (is_eq r && is_eq s)
then_same Less s = refl
then_same Equal s = refl
then_same Greater s = refl

number_same : (a b : ℕ) → is_eq (nat_cmp a b) ≡ (a == b)
number_same a b =
    elim (nat_cmp a b) as (λ r. r ≡ nat_cmp a b → is_eq r ≡ (a == b)) [
      | Less ↦ λ w. sym (let less : a < b = ranked a b Less w in ne_eqb a b (λ e. omega arith))
      | Equal ↦ λ w. sym (eq-eqb a b (ranked a b Equal w))
      | Greater ↦ λ w. sym (let more : b < a = ranked a b Greater w in ne_eqb a b (λ e. omega arith))
    ] refl

-- lists of numbers are the same where the first numbers and the others are
pub same_cons : (a b : ℕ) (as_ bs : List ℕ) → same_numbers (a ∷ as_) (b ∷ bs) ≡ (a == b && same_numbers as_ bs)
same_cons a b as_ bs = then_same (nat_cmp a b) (slice_cmp nat_cmp as_ bs) ∙ ap (λ c. c && same_numbers as_ bs) (number_same a b)

pub and_three : (a b c : Bool) → (a && b && c) ≡ (a && (b && c))
and_three true b c = refl
and_three false b c = refl

pub and_true : (a : Bool) → (a && true) ≡ a
and_true true = refl
and_true false = refl

pub same_numbers-itself : (xs : List ℕ) → same_numbers xs xs ≡ true
same_numbers-itself [] = refl
same_numbers-itself (x ∷ xs) = same_cons x x xs xs ∙ ap (λ b. b && same_numbers xs xs) (eq-eqb x x refl) ∙ same_numbers-itself xs
