-- Numbers of at most 18 digits fit.
use Rattle.std.proofs.Common.{ℕ, ◌+◌, ◌*◌, ◌≤◌, ◌<◌, ◌^◌, arith, lit<}
use Rattle.std.proofs.Math.Nat.{pow-le-pow_right}

-- a number of at most 17 digits and one more digit fits
pub digits_fit : (n i : ℕ) → n < 10 ^ i → i < 18 → n * 10 + 10 ≤ 10 ^ 18
digits_fit n i h k =
    let small : i ≤ 17 = omega arith in
    let bound : 10 ^ i ≤ 10 ^ 17 = pow-le-pow_right {n = 10} (lit< tt) {i = i} {j = 17} small in
    omega arith
