use Rattle.std.proofs.Common.{◌≡◌, ℕ, List, ◌∷◌, refl, ap, inl, inr}
use Rattle.content_keys.specs.Numbers.{paired, listed, sorted}
use Rattle.content_keys.specs.Nodes.{Node, number}
pub use Rattle.content_keys.specs.Nodes.{AreAlike, Names}
use Rattle.content_keys.proofs.NumberLemmas.{listed_same}
use Rattle.content_keys.proofs.BagLemmas.{map_same}

head_same : (x y : ℕ) (xs ys : List ℕ) → x ∷ xs ≡ y ∷ ys → x ≡ y
head_same x y xs ys e = cc

tail_same : (x y : ℕ) (xs ys : List ℕ) → x ∷ xs ≡ y ∷ ys → xs ≡ ys
tail_same x y xs ys e = cc

-- equal numbers are equal contents
pub alike : {I J : Type 0} (v : I → ℕ) (w : J → ℕ) (s : Node I) (t : Node J) → number v s ≡ number w t → AreAlike v w s t
unfolding number
alike v w s t e =
    let l = listed_same _ _ e in
    let m = tail_same _ _ _ _ l in
    record { own = listed_same _ _ (head_same _ _ _ _ l); named = listed_same _ _ (head_same _ _ _ _ m); bag = tail_same _ _ _ _ m }

pub number_alike : {I J : Type 0} (v : I → ℕ) (w : J → ℕ) (s : Node I) (t : Node J) → AreAlike v w s t → number v s ≡ number w t
unfolding number
number_alike v w s t h = λ i. listed (listed (h.own i) ∷ listed (h.named i) ∷ h.bag i)

-- only the numbers of what it names count
pub number_same : {I : Type 0} (v w : I → ℕ) (s : Node I) → ((x : I) → Names x s → v x ≡ w x) → number v s ≡ number w s
number_same {I} v w s h = number_alike v w s s record {
  own = refl;
  named = map_same v w s.named (λ x k. h x (inl k));
  bag = ap sorted (map_same (λ p. paired p.0 (v p.1)) (λ p. paired p.0 (w p.1)) s.bag (λ p k. ap (paired p.0) (h p.1 (inr (p.0, k)))));
}
