-- The place of a first character, where one is found and where none is.
use Rattle.std.proofs.Common.{◌≡◌, ◌≤◌, ℕ, suc, ◌+◌, Bool, true, false, not, cond, List, [], ◌∷◌, length, drop, nat_lt, Some, None, refl, arith}
use Rattle.std.specs.Char.{is_whitespace}
use Rattle.std.specs.Str.{skip_leading_whitespace}
use Rattle.std.specs.List.{position, position_or_len}
use Rattle.std.proofs.Math.ListN.{drop_of_length-le}
use Rattle.std.proofs.lemmas.Bool.{ltb-false}
use Rattle.std.proofs.lemmas.List.Sums.{prefix_len-le-length}

-- where none is found
pub position-none : {X : Type 0} (p : X → Bool) (xs : List X) → None ≡ position p xs → length xs ≡ position_or_len p xs
position-none p xs e =
    let k = position_or_len p xs in
    let at_most : k ≤ length xs = prefix_len-le-length (λ x. not (p x)) xs in
    let P : Bool → Type 0 = λ b. nat_lt k (length xs) ≡ b → None ≡ cond b (Some k) None → length xs ≡ k in
    let cases : P (nat_lt k (length xs)) = elim (nat_lt k (length xs)) as P [ true ↦ λ t f. cc | false ↦ λ t f. let least : length xs ≤ k = ltb-false k (length xs) t in omega arith ] in
    cases refl e

-- white space at the front is passed up to the first character that is none
pub skip_leading_whitespace-is : (cs : List ℕ) → skip_leading_whitespace cs ≡ drop (position_or_len (λ c. not (is_whitespace c)) cs) cs
skip_leading_whitespace-is [] = refl
skip_leading_whitespace-is (c ∷ cs) =
    let k = position_or_len (λ x. not (is_whitespace x)) cs in
    let P : Bool → Type 0 = λ b. cond b (skip_leading_whitespace cs) (c ∷ cs) ≡ drop (cond (not (not b)) (1 + k) 0) (c ∷ cs) in
    elim (is_whitespace c) as P [ true ↦ let e : 1 + k ≡ suc k = omega arith in rw e (skip_leading_whitespace-is cs) | false ↦ refl ]

-- where there is nothing else, nothing is left
pub skip_leading_whitespace-none : (cs : List ℕ) → None ≡ position (λ c. not (is_whitespace c)) cs → skip_leading_whitespace cs ≡ []
skip_leading_whitespace-none cs e =
    let same : length cs ≡ position_or_len (λ c. not (is_whitespace c)) cs = position-none _ cs e in
    rw skip_leading_whitespace-is (drop_of_length-le cs (omega arith))
