-- Counts of what passes a test.
use Rattle.std.proofs.Common.{◌≡◌, ℕ, zero, suc, ◌+◌, ◌<◌, Bool, true, false, not, cond, List, [], ◌∷◌, Option, Some, None, map, length, take, get_or, count_by, refl, sym, ◌∙◌, ap, arith}
use Rattle.std.specs.List.{slice_get}
use Rattle.std.specs.Option.{option_map_or}
use Rattle.std.proofs.lemmas.List.Sums.{sum_by-cons, sum_by_more}
use Rattle.std.proofs.lemmas.Option.{same_Some}

counted : {X : Type 0} (p : X → Bool) (x : X) (xs : List X) → count_by p (x ∷ xs) ≡ cond (p x) 1 0 + count_by p xs
counted p x xs = sum_by-cons (λ y. cond (p y) 1 0) x xs

-- what is made of each thing passes a test as often as the things pass one that says the same of them
pub count_made : {X Y : Type 0} (p : Y → Bool) (q : X → Bool) (f : X → Y) → ((x : X) → p (f x) ≡ q x) → (xs : List X) → count_by p (map f xs) ≡ count_by q xs
count_made p q f same [] = refl
count_made p q f same (x ∷ xs) =
    counted p (f x) (map f xs) ∙ (ap (λ b. cond b 1 0 + count_by p (map f xs)) (same x) ∙ (ap (λ n. cond (q x) 1 0 + n) (count_made p q f same xs) ∙ sym (counted q x xs)))

one_of_two : (b : Bool) → cond b 1 0 + cond (not b) 1 0 ≡ 1
one_of_two true = refl
one_of_two false = refl

-- what passes a test and what does not are all
pub count_either : {X : Type 0} (p : X → Bool) (xs : List X) → count_by p xs + count_by (λ x. not (p x)) xs ≡ length xs
count_either p [] = refl
count_either p (x ∷ xs) =
    let one = counted p x xs in
    let other = counted (λ y. not (p y)) x xs in
    let rest = count_either p xs in
    let both = one_of_two (p x) in
    omega (arith, one, other, rest, both)

-- ---- one thing after another

got : {X : Type 0} (xs : List X) (i : ℕ) (x d : X) → slice_get xs i ≡ Some x → get_or xs i d ≡ x
got [] i x d is = cc
got (y ∷ xs) zero x d is = same_Some _ _ is
got (y ∷ xs) (suc i) x d is = got xs i x d is

lacking : {X : Type 0} (xs : List X) (i : ℕ) → slice_get xs i ≡ None → i < length xs → ⊥
lacking [] i is within = omega arith
lacking (y ∷ xs) zero is within = cc
lacking (y ∷ xs) (suc i) is within = lacking xs i is (omega arith)

-- the count goes on with the thing that is found at the next place
pub count_next : {X : Type 0} (p : X → Bool) (xs : List X) (i : ℕ) (found : Option X) → i < length xs → found ≡ slice_get xs i
    → count_by p (take (i + 1) xs) ≡ count_by p (take i xs) + cond (option_map_or p found false) 1 0
count_next p xs i None within is = absurd (lacking xs i (sym is) within)
count_next p xs i (Some x) within is =
    sum_by_more (λ y. cond (p y) 1 0) xs i x within ∙ ap (λ y. count_by p (take i xs) + cond (p y) 1 0) (got xs i x x (sym is))
