use Rattle.std.proofs.Common.{◌≡◌, ℕ, ◌+◌, ◌-◌, ◌*◌, ◌≤◌, ◌^◌, arith}
use Rattle.std.proofs.lemmas.Nat.{mul-le}
use Rattle.kappa_alpha.specs.Figures.{diagonal, same_pairs}
use Rattle.kappa_alpha.proofs.Below.{sum_none, sum_more}

-- the pairs within two groups are among the pairs of both together
pub pairs_within : (s x : ℕ) → s * (s - 1) + x * (x - 1) ≤ (s + x) * (s + x - 1)
pairs_within s x = grind arith

pub below_square : (x : ℕ) → x ≤ 2 ^ 28 → x * (x - 1) ≤ 2 ^ 56
below_square x h = mul-le x (x - 1) (2 ^ 28) (2 ^ 28) h (omega arith)

pub diagonal_none : (f : ℕ → ℕ → ℕ) → diagonal f 0 ≡ 0
unfolding diagonal
diagonal_none f = sum_none _

pub diagonal_more : (f : ℕ → ℕ → ℕ) (n : ℕ) → diagonal f (n + 1) ≡ diagonal f n + f n n
unfolding diagonal
diagonal_more f n = sum_more _ n

pub same_none : (f : ℕ → ℕ) → same_pairs f 0 ≡ 0
unfolding same_pairs
same_none f = sum_none _

pub same_more : (f : ℕ → ℕ) (n : ℕ) → same_pairs f (n + 1) ≡ same_pairs f n + f n * (f n - 1)
unfolding same_pairs
same_more f n = sum_more _ n
