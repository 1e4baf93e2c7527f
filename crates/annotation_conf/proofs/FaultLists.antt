-- Tests of lists through what they show.
use Rattle.std.proofs.Common.{◌≡◌, ◌||◌, ◌&&◌, Bool, List, [], ◌∷◌, map, refl, ◌∙◌, ap}
use Rattle.std.specs.List.{list_any, list_all}

-- a test of what is shown
pub list_any_map : {X Y : Type 0} (p : Y → Bool) (f : X → Y) (xs : List X) → list_any p (map f xs) ≡ list_any (λ x. p (f x)) xs
list_any_map p f [] = refl
list_any_map p f (x ∷ xs) = ap (λ b. p (f x) || b) (list_any_map p f xs)

-- tests that agree
pub list_any_same : {X : Type 0} (p q : X → Bool) (xs : List X) → ((x : X) → p x ≡ q x) → list_any p xs ≡ list_any q xs
list_any_same p q [] same = refl
list_any_same p q (x ∷ xs) same = ap (λ b. b || list_any p xs) (same x) ∙ ap (λ b. q x || b) (list_any_same p q xs same)

pub list_all_map : {X Y : Type 0} (p : Y → Bool) (f : X → Y) (xs : List X) → list_all p (map f xs) ≡ list_all (λ x. p (f x)) xs
list_all_map p f [] = refl
list_all_map p f (x ∷ xs) = ap (λ b. p (f x) && b) (list_all_map p f xs)

pub map_twice : {X Y Z : Type 0} (h : Y → Z) (f : X → Y) (xs : List X) → map h (map f xs) ≡ map (λ x. h (f x)) xs
map_twice h f [] = refl
map_twice h f (x ∷ xs) = ap (λ r. h (f x) ∷ r) (map_twice h f xs)
