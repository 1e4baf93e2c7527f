-- What an annotation is made of, alike for every sort, and its content as a number.
use Rattle.std.specs.Prelude.{◌≡◌, ◌⊎◌, ℕ, List, [], ◌∷◌, map, refl}
use Rattle.std.specs.Coded.{Coded, code_by, coded×, coded_ℕ, coded_list}
use Rattle.content_keys.specs.Numbers.{paired, listed, sorted}

-- its own numbers, what it names in order, and what it names as a bag, with a role each;
-- what is named is an ID in a layer, and a place in a table of contents
pub record Node (I : Type 0) : Type 0 where
  pub own : List ℕ
  pub named : List I
  pub bag : List (ℕ × I)

-- one of the list
abbrev pub IsIn : {X : Type 0} → X → List X → Type 0
IsIn x [] = ⊥
IsIn x (y ∷ ys) = (x ≡ y) ⊎ IsIn x ys

-- what a node names
abbrev pub Names : {I : Type 0} → I → Node I → Type 0
Names {I} x s = IsIn x s.named ⊎ ((r : ℕ) × IsIn (r, x) s.bag)

-- the number of a content, where `v` numbers the contents that it names; the order of the bag does not count
unfoldable pub number : {I : Type 0} → (I → ℕ) → Node I → ℕ
number v s = listed (listed s.own ∷ listed (map v s.named) ∷ sorted (map (λ p. paired p.0 (v p.1)) s.bag))

-- two nodes have the same own numbers, name the same contents in order, and the same bag of roles and contents
pub record AreAlike {I J : Type 0} (v : I → ℕ) (w : J → ℕ) (s : Node I) (t : Node J) : Type 0 where
  pub own : s.own ≡ t.own
  pub named : map v s.named ≡ map w t.named
  pub bag : sorted (map (λ p. paired p.0 (v p.1)) s.bag) ≡ sorted (map (λ p. paired p.0 (w p.1)) t.bag)

-- a node over places is stored as the tuple of its fields
abbrev pub node_code : Coded (Node ℕ)
node_code =
    code_by (List ℕ × (List ℕ × List (ℕ × ℕ))) (coded× (coded_list coded_ℕ) (coded× (coded_list coded_ℕ) (coded_list (coded× coded_ℕ coded_ℕ)))) (λ s. (s.own, (s.named, s.bag))) (λ p. record { own = p.0; named = p.1.0; bag = p.1.1 }) (λ _. refl)
