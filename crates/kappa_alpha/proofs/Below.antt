use Rattle.std.proofs.Common.{◌≡◌, ℕ, suc, zero, ◌+◌, ◌<◌, ◌≤◌, refl, arith, sym, ap, add-one, inl, inr}
use Rattle.std.proofs.lemmas.Bool.{cases_eq}
use Rattle.kappa_alpha.specs.Standing.{sum_below}

pub sum_none : (f : ℕ → ℕ) → sum_below f 0 ≡ 0
unfolding sum_below
sum_none f = refl

pub sum_more : (f : ℕ → ℕ) (n : ℕ) → sum_below f (n + 1) ≡ sum_below f n + f n
unfolding sum_below
sum_more f n = ap (sum_below f) (add-one n)

-- a term and those before it are within the sum
pub sum_more_le : (f : ℕ → ℕ) (i n : ℕ) → i < n → sum_below f i + f i ≤ sum_below f n
unfolding sum_below
sum_more_le f i zero h = absurd (omega arith)
sum_more_le f i (suc n) h =
    elim (cases_eq i n) [
      | inl e ↦ omega (arith, ap (sum_below f) e, ap f e)
      | inr e ↦ omega (arith, sum_more_le f i n (grind arith))
    ]

pub sum_zero : (f : ℕ → ℕ) (n : ℕ) → ((s : ℕ) → f s ≡ 0) → sum_below f n ≡ 0
unfolding sum_below
sum_zero f zero h = refl
sum_zero f (suc n) h = omega (arith, h n, sum_zero f n h)

pub sum_before : (f : ℕ → ℕ) (q n : ℕ) → ((s : ℕ) → (s ≡ q → ⊥) → f s ≡ 0) → n ≤ q → sum_below f n ≡ 0
unfolding sum_below
sum_before f q zero h l = refl
sum_before f q (suc n) h l = omega (arith, h n (λ e. omega arith), sum_before f q n h (omega arith))

-- a sum of which all terms but one are 0
pub sum_one : (f : ℕ → ℕ) (q n : ℕ) → ((s : ℕ) → (s ≡ q → ⊥) → f s ≡ 0) → q < n → sum_below f n ≡ f q
unfolding sum_below
sum_one f q zero h l = absurd (omega arith)
sum_one f q (suc n) h l =
    elim (cases_eq n q) [
      | inl e ↦ omega (arith, ap f e, sum_before f q n h (omega arith))
      | inr e ↦ omega (arith, h n e, sum_one f q n h (grind arith))
    ]

pub sum_same : (f g : ℕ → ℕ) (n : ℕ) → ((i : ℕ) → f i ≡ g i) → sum_below f n ≡ sum_below g n
unfolding sum_below
sum_same f g zero h = refl
sum_same f g (suc n) h = omega (arith, h n, sum_same f g n h)

pub sum_both : (f g : ℕ → ℕ) (n : ℕ) → sum_below (λ i. f i + g i) n ≡ sum_below f n + sum_below g n
unfolding sum_below
sum_both f g zero = refl
sum_both f g (suc n) = omega (arith, sum_both f g n)

pub sum_zeros : (n : ℕ) → sum_below (λ i. 0) n ≡ 0
unfolding sum_below
sum_zeros zero = refl
sum_zeros (suc n) = omega (arith, sum_zeros n)

-- the sum of the columns is the sum of the rows
pub sum_swap : (t : ℕ → ℕ → ℕ) (n m : ℕ) → sum_below (λ k. sum_below (λ j. t k j) m) n ≡ sum_below (λ j. sum_below (λ k. t k j) n) m
unfolding sum_below
sum_swap t zero m = sym (sum_zeros m)
sum_swap t (suc n) m =
    omega (arith, sum_swap t n m, sum_both (λ j. sum_below (λ k. t k j) n) (λ j. t n j) m)
