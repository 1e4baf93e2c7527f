-- Bits that are all set.
use Rattle.std.proofs.Common.{◌≡◌, ℕ, suc, ◌+◌, ◌*◌, ◌-◌, ◌^◌, ◌<◌, ◌≤◌, ◌==◌, ◌&&◌, Bool, true, false, List, [], ◌∷◌, map, length, refl, sym, ◌∙◌, ap, arith, eq-eqb}
use Rattle.std.specs.List.{list_all}
use Rattle.std.proofs.Math.Nat.{pow-suc}
use borrow.Author.Tests.{ne_eqb}
use Rattle.unanimous_merge.specs.Items.{number_of_bits}

few : (bits : List Bool) → number_of_bits bits + 1 ≤ 2 ^ length bits
few [] = omega arith
few (true ∷ bits) = let below = few bits in let power : 2 ^ suc (length bits) ≡ 2 ^ length bits * 2 = pow-suc 2 (length bits) in omega (arith, below, power)
few (false ∷ bits) = let below = few bits in let power : 2 ^ suc (length bits) ≡ 2 ^ length bits * 2 = pow-suc 2 (length bits) in omega (arith, below, power)

all_set : (bits : List Bool) → list_all (λ bit. bit) bits ≡ true → number_of_bits bits + 1 ≡ 2 ^ length bits
all_set [] all = omega arith
all_set (true ∷ bits) all = let others = all_set bits all in let power : 2 ^ suc (length bits) ≡ 2 ^ length bits * 2 = pow-suc 2 (length bits) in omega (arith, others, power)
all_set (false ∷ bits) all = cc

one_lacks : (bits : List Bool) → list_all (λ bit. bit) bits ≡ false → number_of_bits bits + 1 < 2 ^ length bits
one_lacks [] lacks = cc
one_lacks (true ∷ bits) lacks = let others = one_lacks bits lacks in let power : 2 ^ suc (length bits) ≡ 2 ^ length bits * 2 = pow-suc 2 (length bits) in omega (arith, others, power)
one_lacks (false ∷ bits) lacks = let below = few bits in let power : 2 ^ suc (length bits) ≡ 2 ^ length bits * 2 = pow-suc 2 (length bits) in omega (arith, below, power)

by_all : (bits : List Bool) (b : Bool) → list_all (λ bit. bit) bits ≡ b → (number_of_bits bits == 2 ^ length bits - 1) ≡ b
by_all bits true all = let is = all_set bits all in eq-eqb (number_of_bits bits) (2 ^ length bits - 1) (omega (arith, is))
by_all bits false lacks = let below = one_lacks bits lacks in ne_eqb (number_of_bits bits) (2 ^ length bits - 1) (λ same. omega (arith, below, same))

made : {X : Type 0} (p : X → Bool) (xs : List X) → list_all (λ bit. bit) (map p xs) ≡ list_all p xs
made p [] = refl
made p (x ∷ xs) = ap (λ b. p x && b) (made p xs)

mapped : {X Y : Type 0} (f : X → Y) (xs : List X) → length (map f xs) ≡ length xs
mapped f [] = refl
mapped f (x ∷ xs) = ap suc (mapped f xs)

twice : {X Y Z : Type 0} (f : X → Y) (g : Y → Z) (xs : List X) → map g (map f xs) ≡ map (λ x. g (f x)) xs
twice f g [] = refl
twice {X} {Y} {Z} f g (x ∷ xs) = ap (λ (rest : List Z). g (f x) ∷ rest) (twice f g xs)

-- the number whose bits say of each thing whether what is made of it passes a test has all bits exactly where all pass
pub bits_of_all_set : {X Y : Type 0} (f : X → Y) (p : Y → Bool) (xs : List X) (all : ℕ) → all ≡ 2 ^ length xs - 1 → (number_of_bits (map p (map f xs)) == all) ≡ list_all (λ x. p (f x)) xs
bits_of_all_set f p xs all is =
    ap (λ n. number_of_bits (map p (map f xs)) == n) (is ∙ ap (λ k. 2 ^ k - 1) (sym (mapped f xs) ∙ sym (mapped p (map f xs))))
    ∙ by_all (map p (map f xs)) (list_all (λ x. p (f x)) xs) (ap (list_all (λ bit. bit)) (twice f p xs) ∙ made (λ x. p (f x)) xs)
