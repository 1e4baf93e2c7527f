use Rattle.std.proofs.Common.{◌≡◌, ℕ, suc, ◌+◌, ◌*◌, ◌<◌, ◌≤◌, ◌⊎◌, List, [], ◌∷◌, refl, sym, ap, arith, inl, inr}
use Rattle.std.proofs.Math.Nat.{mul-le-mul}
use Rattle.content_keys.specs.Numbers.{paired, listed}

-- squares are far apart
squares : (s t : ℕ) → s < t → s * s + s < t * t
squares s t h = let k : (s + 1) * (s + 1) ≤ t * t = mul-le-mul (omega arith) (omega arith) in omega (arith, k)

sums : (s t a c : ℕ) → a ≤ s → c ≤ t → s * s + a ≡ t * t + c → s < t → ⊥
sums s t a c ha hc e h = let k : s * s + s < t * t = squares s t h in omega (arith, k)

three : (s t : ℕ) → (s < t) ⊎ ((t < s) ⊎ (s ≡ t))
three s t = grind arith

pub paired_same_sum : (a b c d : ℕ) → paired a b ≡ paired c d → a + b ≡ c + d
unfolding paired
paired_same_sum a b c d e =
    elim (three (a + b) (c + d)) [
      | inl h ↦ absurd (sums (a + b) (c + d) a c (omega arith) (omega arith) e h)
      | inr o ↦ elim o [
        | inl h ↦ absurd (sums (c + d) (a + b) c a (omega arith) (omega arith) (sym e) h)
        | inr h ↦ h
      ]
    ]

pub paired_first : (a b c d : ℕ) → paired a b ≡ paired c d → a ≡ c
unfolding paired
paired_first a b c d e =
    let s : a + b ≡ c + d = paired_same_sum a b c d e in
    let q : (a + b) * (a + b) ≡ (c + d) * (c + d) = ap (λ n. n * n) s in
    omega (arith, q, e)

pub paired_second : (a b c d : ℕ) → paired a b ≡ paired c d → b ≡ d
paired_second a b c d e =
    let s : a + b ≡ c + d = paired_same_sum a b c d e in
    let f : a ≡ c = paired_first a b c d e in
    omega (arith, s, f)

same_suc : (a b : ℕ) → suc a ≡ suc b → a ≡ b
same_suc a b e = omega arith

no_suc : (a : ℕ) → suc a ≡ 0 → ⊥
no_suc a e = omega arith

pub listed_same : (xs ys : List ℕ) → listed xs ≡ listed ys → xs ≡ ys
unfolding listed
listed_same [] [] e = refl
listed_same [] (y ∷ ys) e = absurd (no_suc _ (sym e))
listed_same (x ∷ xs) [] e = absurd (no_suc _ e)
listed_same (x ∷ xs) (y ∷ ys) e =
    let p : paired x (listed xs) ≡ paired y (listed ys) = same_suc _ _ e in
    let h : x ≡ y = paired_first x _ y _ p in
    let t : xs ≡ ys = listed_same xs ys (paired_second x _ y _ p) in
    λ i. h i ∷ t i
