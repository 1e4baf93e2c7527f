use Rattle.std.proofs.Common.{◌≡◌, ℕ, ◌+◌, ◌<◌, ◌≤◌, ◌==◌, ◌&&◌, true, false, Option, Some, None, refl, arith}
use Rattle.std.proofs.Common.{inl, inr}
use Rattle.std.proofs.lemmas.Bool.{cases_Bool, and_parts, eqb-true, cond-true, cond-false, and_from, eq-eqb}
use Rattle.kappa_alpha.specs.Columns.{worth}

pub worth_here : (w c k x y : ℕ) → ((c == x) && (k == y)) ≡ true → worth w c k (Some x) (Some y) ≡ w
unfolding worth
worth_here w c k x y e = cond-true ((c == x) && (k == y)) w 0 e

pub worth_elsewhere : (w c k x y : ℕ) → ((c == x) && (k == y)) ≡ false → worth w c k (Some x) (Some y) ≡ 0
unfolding worth
worth_elsewhere w c k x y e = cond-false ((c == x) && (k == y)) w 0 e

pub worth_le : (w c k : ℕ) (x y : Option ℕ) → worth w c k x y ≤ w
unfolding worth
worth_le w c k None y = omega arith
worth_le w c k (Some x) None = omega arith
worth_le w c k (Some x) (Some y) =
    elim (cases_Bool ((c == x) && (k == y))) [
      | inl e ↦ omega (arith, cond-true ((c == x) && (k == y)) w 0 e)
      | inr e ↦ omega (arith, cond-false ((c == x) && (k == y)) w 0 e)
    ]

pub worth_self : (w x y : ℕ) → worth w x y (Some x) (Some y) ≡ w
worth_self w x y = worth_here w x y x y (and_from (x == x) (y == y) (eq-eqb x x refl) (eq-eqb y y refl))

-- the cell that was shifted and every other one, from what `add` says of each
pub shifted_each : (f g : ℕ → ℕ → ℕ) (n c k v w : ℕ) → g c k + v ≡ f c k + w → ((x y : ℕ) → x < n → y < n → ((x == c) && (y == k)) ≡ false → g x y ≡ f x y) → (x y : ℕ) → x < n → y < n → g x y + worth v x y (Some c) (Some k) ≡ f x y + worth w x y (Some c) (Some k)
shifted_each f g n c k v w here other x y hx hy =
    elim (cases_Bool ((x == c) && (y == k))) [
      | inl e ↦
          let p : ((x == c) ≡ true) × ((y == k) ≡ true) = and_parts (x == c) (y == k) e in
          let ex : x ≡ c = eqb-true x c p.0 in
          let ey : y ≡ k = eqb-true y k p.1 in
          rw (worth_here v x y c k e, worth_here w x y c k e, ex, ey) here
      | inr e ↦ omega (arith, worth_elsewhere v x y c k e, worth_elsewhere w x y c k e, other x y hx hy e)
    ]
