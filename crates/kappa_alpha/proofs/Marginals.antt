use Rattle.std.proofs.Common.{◌≡◌, ℕ, suc, zero, ◌+◌, ◌*◌, ◌≤◌, ◌^◌, arith}
use Rattle.std.proofs.lemmas.Nat.{mul-le}
use Rattle.kappa_alpha.specs.Standing.{sum_below}
use Rattle.kappa_alpha.specs.Figures.{row_sum, column_sum, cells_sum, chance}
use Rattle.kappa_alpha.proofs.Below.{sum_none, sum_more, sum_swap}

pub product_step : (F G f g : ℕ) → F * G + f * g ≤ (F + f) * (G + g)
product_step F G f g = grind arith

pub products_within : (f g : ℕ → ℕ) (n : ℕ) → sum_below (λ i. f i * g i) n ≤ sum_below f n * sum_below g n
unfolding sum_below
products_within f g zero = omega arith
products_within f g (suc n) = omega (arith, products_within f g n, product_step (sum_below f n) (sum_below g n) (f n) (g n))

-- chance agreement is within the square of the units
pub chance_within : (t : ℕ → ℕ → ℕ) (w : ℕ) → chance t w w ≤ cells_sum t w w * cells_sum t w w
unfolding chance cells_sum row_sum column_sum
chance_within t w =
    let s : sum_below (λ k. sum_below (λ j. t k j) w) w ≡ sum_below (λ k. sum_below (λ j. t j k) w) w = sum_swap t w w in
    let p : sum_below (λ k. sum_below (λ j. t k j) w * sum_below (λ j. t j k) w) w ≤ sum_below (λ k. sum_below (λ j. t k j) w) w * sum_below (λ k. sum_below (λ j. t j k) w) w =
    products_within (λ k. sum_below (λ j. t k j) w) (λ k. sum_below (λ j. t j k) w) w in
    rw (← s) at p

pub row_none : (t : ℕ → ℕ → ℕ) (k : ℕ) → row_sum t k 0 ≡ 0
unfolding row_sum
row_none t k = sum_none _

pub row_more : (t : ℕ → ℕ → ℕ) (k n : ℕ) → row_sum t k (n + 1) ≡ row_sum t k n + t k n
unfolding row_sum
row_more t k n = sum_more _ n

pub column_none : (t : ℕ → ℕ → ℕ) (k : ℕ) → column_sum t k 0 ≡ 0
unfolding column_sum
column_none t k = sum_none _

pub column_more : (t : ℕ → ℕ → ℕ) (k n : ℕ) → column_sum t k (n + 1) ≡ column_sum t k n + t n k
unfolding column_sum
column_more t k n = sum_more _ n

pub units_none : (t : ℕ → ℕ → ℕ) (w : ℕ) → cells_sum t w 0 ≡ 0
unfolding cells_sum
units_none t w = sum_none _

pub units_more : (t : ℕ → ℕ → ℕ) (w n : ℕ) → cells_sum t w (n + 1) ≡ cells_sum t w n + row_sum t n w
unfolding cells_sum
units_more t w n = sum_more _ n

pub chance_none : (t : ℕ → ℕ → ℕ) (w : ℕ) → chance t w 0 ≡ 0
unfolding chance
chance_none t w = sum_none _

pub chance_more : (t : ℕ → ℕ → ℕ) (w n : ℕ) → chance t w (n + 1) ≡ chance t w n + row_sum t n w * column_sum t n w
unfolding chance
chance_more t w n = sum_more _ n

pub small_product : (a b : ℕ) → a ≤ 2 ^ 30 → b ≤ 2 ^ 30 → a * b ≤ 2 ^ 60
small_product a b h k = mul-le a b (2 ^ 30) (2 ^ 30) h k
