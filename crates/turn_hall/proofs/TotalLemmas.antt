-- Sums over the views.
use Rattle.std.proofs.Common.{◌≡◌, ◌≢◌, ℕ, zero, suc, ◌+◌, ◌*◌, ◌<◌, ◌≤◌, List, [], ◌∷◌, ◌++◌, set, refl, sym, ap, arith}
use mathlib.Core.Option.{some, some-injective, some-ne-none}
use mathlib.Core.Logic.{dite}
use native.Mathlib.Decide.{ℕ_discrete}
use lib.ListN.{get_elem?}
use Rattle.turn_hall.specs.Views.{View}
use Rattle.turn_hall.specs.Counts.{total}

pub total_set : (f : View → ℕ) (vs : List View) (j : ℕ) (v w : View) → get_elem? vs j ≡ some v → total f (set vs j w) + f v ≡ total f vs + f w
total_set f [] j v w e = absurd (some-ne-none v (sym e))
total_set f (x ∷ xs) zero v w e = let s : f x ≡ f v = ap f (some-injective x v e) in omega arith
total_set f (x ∷ xs) (suc j) v w e = let r = total_set f xs j v w e in omega arith

pub total_snoc : (f : View → ℕ) (vs : List View) (w : View) → total f (vs ++ w ∷ []) ≡ total f vs + f w
total_snoc f [] w = omega arith
total_snoc f (x ∷ xs) w = let r = total_snoc f xs w in omega arith

pub total_one : (f : View → ℕ) (vs : List View) (j : ℕ) (v : View) → get_elem? vs j ≡ some v → f v ≤ total f vs
total_one f [] j v e = absurd (some-ne-none v (sym e))
total_one f (x ∷ xs) zero v e = let s : f x ≡ f v = ap f (some-injective x v e) in omega arith
total_one f (x ∷ xs) (suc j) v e = let r = total_one f xs j v e in omega arith

pub total_two : (f : View → ℕ) (vs : List View) (j k : ℕ) (v w : View) → j ≢ k → get_elem? vs j ≡ some v → get_elem? vs k ≡ some w → f v + f w ≤ total f vs
total_two f [] j k v w n e d = absurd (some-ne-none v (sym e))
total_two f (x ∷ xs) zero zero v w n e d = absurd (n refl)
total_two f (x ∷ xs) zero (suc k) v w n e d = let s : f x ≡ f v = ap f (some-injective x v e) in let r = total_one f xs k w d in omega arith
total_two f (x ∷ xs) (suc j) zero v w n e d = let s : f x ≡ f w = ap f (some-injective x w d) in let r = total_one f xs j v e in omega arith
total_two f (x ∷ xs) (suc j) (suc k) v w n e d = let r = total_two f xs j k v w (λ s. n (ap suc s)) e d in omega arith

-- where f is at most 4294967296 times g of each view, so is the sum
pub total_le : (f g : View → ℕ) (vs : List View) → ((j : ℕ) (v : View) → get_elem? vs j ≡ some v → f v ≤ 4294967296 * g v) → total f vs ≤ 4294967296 * total g vs
total_le f g [] all = omega arith
total_le f g (x ∷ xs) all = let a = all zero x refl in let r = total_le f g xs (λ j v e. all (suc j) v e) in omega arith

total_zero : (f : View → ℕ) (vs : List View) → ((j : ℕ) (v : View) → get_elem? vs j ≡ some v → f v ≡ 0) → total f vs ≡ 0
total_zero f [] all = refl
total_zero f (x ∷ xs) all = let a = all zero x refl in let r = total_zero f xs (λ j v e. all (suc j) v e) in omega arith

-- where f is 0 of each other view
pub total_only : (f : View → ℕ) (vs : List View) (j : ℕ) (v : View) → get_elem? vs j ≡ some v → ((k : ℕ) (w : View) → k ≢ j → get_elem? vs k ≡ some w → f w ≡ 0) → total f vs ≡ f v
total_only f [] j v e all = absurd (some-ne-none v (sym e))
total_only f (x ∷ xs) zero v e all =
    let s : f x ≡ f v = ap f (some-injective x v e) in
    let r = total_zero f xs (λ k w d. all (suc k) w (λ q. omega arith) d) in
    omega arith
total_only f (x ∷ xs) (suc j) v e all =
    let a : f x ≡ 0 = all zero x (λ q. omega arith) refl in
    let r = total_only f xs j v e (λ k w n d. all (suc k) w (λ q. n (omega arith)) d) in
    omega arith

-- a view where f is not 0
pub record Finds (f : View → ℕ) (vs : List View) : Type 0 where
  pub at : ℕ
  pub view : View
  pub there : get_elem? vs at ≡ some view
  pub some_of : 0 < f view

pub finds : (f : View → ℕ) (vs : List View) → 0 < total f vs → Finds f vs
finds f [] h = absurd (omega arith)
finds f (x ∷ xs) h =
    dite (ℕ_discrete (f x) 0)
    (λ z. let r = finds f xs (omega arith) in record { at = suc r.at; view = r.view; there = r.there; some_of = r.some_of })
    (λ n. record { at = 0; view = x; there = refl; some_of = omega arith })
