-- What follows from the first Content-Length of a head, and that its number fits.
use Rattle.std.proofs.Common.{◌≡◌, ℕ, ◌+◌, ◌*◌, ◌≤◌, ◌<◌, ◌^◌, Bool, true, false, List, [], ◌∷◌, Some, None, refl, ◌∙◌, ap, arith, lit<}
use Rattle.std.proofs.Math.Nat.{pow-le-pow_right}
use Rattle.std.specs.Prelude.{codes}
use Rattle.std.specs.List.{list_any}
use Rattle.http_wire.specs.Fields.{first_value, is_length, is_named, is_other_length}

-- a number of at most 17 digits and one more digit fits
pub digits_fit : (n i : ℕ) → n < 10 ^ i → i < 18 → n * 10 + 10 ≤ 10 ^ 18
digits_fit n i h k =
    let small : i ≤ 17 = omega arith in
    let bound : 10 ^ i ≤ 10 ^ 17 = pow-le-pow_right {n = 10} (lit< tt) {i = i} {j = 17} small in
    omega arith

-- ---- no Content-Length

no_other_at : (number : ℕ) (field : List ℕ × List ℕ) (fields : List (List ℕ × List ℕ)) (b : Bool) → is_named (codes "content-length") field ≡ b
    → first_value (codes "content-length") (field ∷ fields) ≡ None
    → (first_value (codes "content-length") fields ≡ None → list_any (is_other_length number) fields ≡ false)
    → list_any (is_other_length number) (field ∷ fields) ≡ false
no_other_at number field fields true named none rest = let k : Some field.1 ≡ None = (simp named at none) in cc
no_other_at number field fields false named none rest =
    let k : first_value (codes "content-length") fields ≡ None = (simp named at none) in simp named (rest k)

-- where there is none, none is bad
pub no_other : (number : ℕ) (fields : List (List ℕ × List ℕ)) → first_value (codes "content-length") fields ≡ None
    → list_any (is_other_length number) fields ≡ false
no_other number [] none = refl
no_other number (field ∷ fields) none =
    no_other_at number field fields (is_named (codes "content-length") field) refl none (no_other number fields)

-- ---- a first Content-Length that is no length

bad_first_at : (number : ℕ) (value : List ℕ) (field : List ℕ × List ℕ) (fields : List (List ℕ × List ℕ)) (b : Bool)
    → is_named (codes "content-length") field ≡ b → first_value (codes "content-length") (field ∷ fields) ≡ Some value → is_length value ≡ false
    → (first_value (codes "content-length") fields ≡ Some value → list_any (is_other_length number) fields ≡ true)
    → list_any (is_other_length number) (field ∷ fields) ≡ true
bad_first_at number value field fields true named first bad rest =
    let k : Some field.1 ≡ Some value = (simp named at first) in
    let same : field.1 ≡ value = cc in
    let fails : is_length field.1 ≡ false = ap is_length same ∙ bad in
    simp (named, fails)
bad_first_at number value field fields false named first bad rest =
    let k : first_value (codes "content-length") fields ≡ Some value = (simp named at first) in simp named (rest k)

pub bad_first : (number : ℕ) (value : List ℕ) (fields : List (List ℕ × List ℕ)) → first_value (codes "content-length") fields ≡ Some value
    → is_length value ≡ false → list_any (is_other_length number) fields ≡ true
bad_first number value [] first bad = cc
bad_first number value (field ∷ fields) first bad =
    bad_first_at number value field fields (is_named (codes "content-length") field) refl first bad (λ e. bad_first number value fields e bad)
