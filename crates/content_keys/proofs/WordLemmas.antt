-- A content is known by its word.
use Rattle.std.proofs.Common.{◌≡◌, ℕ, suc, List, [], ◌∷◌, ◌++◌, length, refl, sym, ap, ◌∙◌, arith, Option, Some, None, append_assoc}
use Rattle.content_keys.specs.Nodes.{Node}
use Rattle.content_keys.specs.Tables.{links, flat, IsAt, IsWordAt}

same_suc : (a b : ℕ) → suc a ≡ suc b → a ≡ b
same_suc a b e = omega arith

no_suc : (a : ℕ) → suc a ≡ 0 → ⊥
no_suc a e = omega arith

split_same : {X : Type 0} (xs ys us vs : List X) → length xs ≡ length ys → xs ++ us ≡ ys ++ vs → (xs ≡ ys) × (us ≡ vs)
split_same [] [] us vs l e = (refl, e)
split_same [] (y ∷ ys) us vs l e = absurd (no_suc _ (sym l))
split_same (x ∷ xs) [] us vs l e = absurd (no_suc _ l)
split_same {X} (x ∷ xs) (y ∷ ys) us vs l e =
    let h : x ≡ y = cc in
    let t : xs ++ us ≡ ys ++ vs = cc in
    let r : (xs ≡ ys) × (us ≡ vs) = split_same xs ys us vs (same_suc _ _ l) t in
    (λ i. h i ∷ r.0 i, r.1)

links_same : (ps qs : List (ℕ × ℕ)) → links ps ≡ links qs → ps ≡ qs
links_same [] [] e = refl
links_same [] (q ∷ qs) e = cc
links_same (p ∷ ps) [] e = cc
links_same (p ∷ ps) (q ∷ qs) e =
    let a : p.0 ≡ q.0 = cc in
    let b : p.1 ≡ q.1 = cc in
    let t : links ps ≡ links qs = cc in
    let r : ps ≡ qs = links_same ps qs t in
    λ i. (a i, b i) ∷ r i

regroup : (n : ℕ) (a b c : List ℕ) → ((a ++ n ∷ []) ++ b) ++ c ≡ a ++ (n ∷ (b ++ c))
regroup n a b c = simp append_assoc

pub flat_same : (s t : Node ℕ) → flat s ≡ flat t → s ≡ t
flat_same s t e =
    let l : length s.own ≡ length t.own = cc in
    let r : ((s.own ++ length s.named ∷ []) ++ s.named) ++ links s.bag ≡ ((t.own ++ length t.named ∷ []) ++ t.named) ++ links t.bag = cc in
    let q : s.own ++ (length s.named ∷ (s.named ++ links s.bag)) ≡ t.own ++ (length t.named ∷ (t.named ++ links t.bag)) =
    sym (regroup (length s.named) s.own s.named (links s.bag)) ∙ r ∙ regroup (length t.named) t.own t.named (links t.bag) in
    let o : (s.own ≡ t.own) × (length s.named ∷ (s.named ++ links s.bag) ≡ length t.named ∷ (t.named ++ links t.bag)) = split_same s.own t.own _ _ l q in
    let w = o.1 in
    let m : length s.named ≡ length t.named = cc in
    let k : s.named ++ links s.bag ≡ t.named ++ links t.bag = cc in
    let n : (s.named ≡ t.named) × (links s.bag ≡ links t.bag) = split_same s.named t.named _ _ m k in
    let b : s.bag ≡ t.bag = links_same s.bag t.bag n.1 in
    λ i. record { own = o.0 i; named = n.0 i; bag = b i }

pub at_from_word : (ss : List (Node ℕ)) (s : Node ℕ) (o : Option ℕ) → IsWordAt ss (flat s) o → IsAt ss s o
at_from_word ss s None h = λ j d lt e. h j d lt (ap flat e)
at_from_word ss s (Some j) h = (h.0, λ d. flat_same _ _ (h.1 d))
