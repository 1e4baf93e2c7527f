use Rattle.std.proofs.Common.{◌≡◌, ℕ, zero, suc, ◌+◌, ◌*◌, ◌<◌, ◌≤◌, ◌⊎◌, List, [], ◌∷◌, ◌++◌, map, length, get_or, refl, sym, ap, ◌∙◌, arith, inl, inr}
use Rattle.std.proofs.lemmas.Grind.{common_steps}
use Rattle.content_keys.specs.Numbers.{paired, sorted}
use Rattle.content_keys.specs.Nodes.{Node, number}
use Rattle.content_keys.specs.Tables.{values, values_from, link_rank}
pub use Rattle.content_keys.specs.Tables.{IsTable}
use Rattle.content_keys.proofs.NumberLemmas.{paired_first, paired_second}
use Rattle.content_keys.proofs.BagLemmas.{IsIn, bags_carry}
use Rattle.content_keys.proofs.NodeLemmas.{AreAlike, alike, Names, number_same}

abbrev pub read : List ℕ → ℕ → ℕ
read vs k = get_or vs k 0

get_or-front : (vs ws : List ℕ) (i : ℕ) → i < length vs → get_or (vs ++ ws) i 0 ≡ get_or vs i 0
get_or-front vs ws i h = grind (arith, common_steps)

get_or-end : (vs : List ℕ) (n : ℕ) → get_or (vs ++ n ∷ []) (length vs) 0 ≡ n
get_or-end vs n = grind (arith, common_steps)

longer : (vs : List ℕ) (n : ℕ) → length (vs ++ n ∷ []) ≡ length vs + 1
longer vs n = grind (arith, common_steps)

pub values_from-front : (vs : List ℕ) (ss : List (Node ℕ)) (i : ℕ) → i < length vs → read (values_from vs ss) i ≡ read vs i
values_from-front vs [] i h = refl
values_from-front vs (s ∷ ss) i h =
    let n : ℕ = number (read vs) s in
    let l : length (vs ++ n ∷ []) ≡ length vs + 1 = longer vs n in
    values_from-front (vs ++ n ∷ []) ss i (omega (arith, l)) ∙ get_or-front vs (n ∷ []) i h

pub length-values_from : (vs : List ℕ) (ss : List (Node ℕ)) → length (values_from vs ss) ≡ length vs + length ss
length-values_from vs [] = omega arith
length-values_from vs (s ∷ ss) =
    let n : ℕ = number (read vs) s in
    let l : length (vs ++ n ∷ []) ≡ length vs + 1 = longer vs n in
    omega (arith, l, length-values_from (vs ++ n ∷ []) ss)

pub values_from-append : (vs : List ℕ) (ss ts : List (Node ℕ)) → values_from vs (ss ++ ts) ≡ values_from (values_from vs ss) ts
values_from-append vs [] ts = refl
values_from-append vs (s ∷ ss) ts = values_from-append (vs ++ number (read vs) s ∷ []) ss ts

pub values-push : (ss : List (Node ℕ)) (s : Node ℕ) → values (ss ++ s ∷ []) ≡ values ss ++ number (read (values ss)) s ∷ []
values-push ss s = values_from-append [] ss (s ∷ [])

values_from-each : (vs : List ℕ) (ss : List (Node ℕ)) (k : ℕ) (d : Node ℕ) → k < length ss
    → ((j : ℕ) (x : ℕ) → j < length ss → Names x (get_or ss j d) → x < length vs + j)
    → read (values_from vs ss) (length vs + k) ≡ number (read (values_from vs ss)) (get_or ss k d)
values_from-each vs [] k d h below = absurd (omega arith)
values_from-each vs (s ∷ ss) zero d h below =
    let n : ℕ = number (read vs) s in
    let l : length (vs ++ n ∷ []) ≡ length vs + 1 = longer vs n in
    let z : length vs + 0 ≡ length vs = omega arith in
    let w : List ℕ = values_from (vs ++ n ∷ []) ss in
    let here : read w (length vs) ≡ n = values_from-front (vs ++ n ∷ []) ss (length vs) (omega (arith, l)) ∙ get_or-end vs n in
    ap (read w) z ∙ here ∙ number_same (read vs) (read w) s (λ x k.
    let b : x < length vs + 0 = below 0 x h k in
    sym (values_from-front (vs ++ n ∷ []) ss x (omega (arith, l)) ∙ get_or-front vs (n ∷ []) x (omega arith)))
values_from-each vs (s ∷ ss) (suc k) d h below =
    let n : ℕ = number (read vs) s in
    let l : length (vs ++ n ∷ []) ≡ length vs + 1 = longer vs n in
    let w : List ℕ = values_from (vs ++ n ∷ []) ss in
    let z : length vs + suc k ≡ length (vs ++ n ∷ []) + k = omega (arith, l) in
    ap (read w) z ∙ values_from-each (vs ++ n ∷ []) ss k d (omega arith) (λ j x lt nm.
    let b : x < length vs + suc j = below (suc j) x (omega arith) nm in
    omega (arith, l, b))

pub value_at : (ss : List (Node ℕ)) → IsTable ss → (i : ℕ) (d : Node ℕ) → i < length ss → read (values ss) i ≡ number (read (values ss)) (get_or ss i d)
value_at ss t i d h =
    let z : 0 + i ≡ i = omega arith in
    ap (read (values ss)) (sym z) ∙ values_from-each [] ss i d h (λ j x lt nm. let b : x < j = t.below j x d lt nm in omega arith)

rank_first : (r c q e : ℕ) → c < 4294967296 → e < 4294967296 → link_rank (r, c) ≡ link_rank (q, e) → r ≡ q
rank_first r c q e a b h = omega arith

rank_second : (r c q e : ℕ) → c < 4294967296 → e < 4294967296 → link_rank (r, c) ≡ link_rank (q, e) → c ≡ e
rank_second r c q e a b h = omega arith

pub map_one_to_one : {X : Type 0} {Y : Type 0} (f : X → Y) (xs ys : List X) → ((x y : X) → IsIn x xs → IsIn y ys → f x ≡ f y → x ≡ y) → map f xs ≡ map f ys → xs ≡ ys
map_one_to_one f [] [] h e = refl
map_one_to_one f [] (y ∷ ys) h e = cc
map_one_to_one f (x ∷ xs) [] h e = cc
map_one_to_one f (x ∷ xs) (y ∷ ys) h e =
    let a : x ≡ y = h x y (inl refl) (inl refl) cc in
    let b : xs ≡ ys = map_one_to_one f xs ys (λ u w p q. h u w (inr p) (inr q)) cc in
    λ i. a i ∷ b i

-- two contents are the same where what they name is known by its number
pub same_node : (v : ℕ → ℕ) (s t : Node ℕ) → ((x y : ℕ) → Names x s ⊎ Names x t → Names y s ⊎ Names y t → v x ≡ v y → x ≡ y)
    → ((x : ℕ) → Names x s ⊎ Names x t → x < 4294967296)
    → sorted (map link_rank s.bag) ≡ map link_rank s.bag → sorted (map link_rank t.bag) ≡ map link_rank t.bag
    → AreAlike v v s t → s ≡ t
same_node v s t one small up up' a =
    let pair_one : (p q : ℕ × ℕ) → IsIn p s.bag ⊎ IsIn p t.bag → IsIn q s.bag ⊎ IsIn q t.bag → paired p.0 (v p.1) ≡ paired q.0 (v q.1) → link_rank p ≡ link_rank q =
    λ p q hp hq e.
    let r : p.0 ≡ q.0 = paired_first _ _ _ _ e in
    let c : p.1 ≡ q.1 = one p.1 q.1 (side p hp) (side q hq) (paired_second p.0 _ q.0 _ e) in
    λ i. r i * 4294967296 + c i in
    let bags : sorted (map link_rank s.bag) ≡ sorted (map link_rank t.bag) =
    bags_carry (λ p. paired p.0 (v p.1)) link_rank (λ p. paired p.0 (v p.1)) link_rank s.bag t.bag a.bag
    (λ p q hp hq e. pair_one p q (inl hp) (inr hq) e)
    (λ p q hp hq e. pair_one p q (inr hp) (inr hq) e) in
    let ranks : map link_rank s.bag ≡ map link_rank t.bag = sym up ∙ bags ∙ up' in
    let named : s.named ≡ t.named = map_one_to_one v s.named t.named (λ x y hx hy. one x y (inl (inl hx)) (inr (inl hy))) a.named in
    let bag : s.bag ≡ t.bag = map_one_to_one link_rank s.bag t.bag (λ p q hp hq e.
    let b : p.1 < 4294967296 = small p.1 (side p (inl hp)) in
    let c : q.1 < 4294967296 = small q.1 (side q (inr hq)) in
    let first : p.0 ≡ q.0 = rank_first p.0 p.1 q.0 q.1 b c e in
    let second : p.1 ≡ q.1 = rank_second p.0 p.1 q.0 q.1 b c e in
    λ i. (first i, second i)) ranks in
    λ i. record { own = a.own i; named = named i; bag = bag i }
  where
    side : (p : ℕ × ℕ) → IsIn p s.bag ⊎ IsIn p t.bag → Names p.1 s ⊎ Names p.1 t
    side p h = elim h [ inl k ↦ inl (inr (p.0, k)) | inr k ↦ inr (inr (p.0, k)) ]

-- no two contents of a table have one number
one_each : (ss : List (Node ℕ)) (t : IsTable ss) (d : Node ℕ) (n i j : ℕ) → i < n → j < n → i < length ss → j < length ss → read (values ss) i ≡ read (values ss) j → i ≡ j
one_each ss t d zero i j a b c e h = absurd (omega arith)
one_each ss t d (suc n) i j a b c e h =
    let v : ℕ → ℕ = read (values ss) in
    let s : Node ℕ = get_or ss i d in
    let u : Node ℕ = get_or ss j d in
    let al : AreAlike v v s u = alike v v s u (sym (value_at ss t i d c) ∙ h ∙ value_at ss t j d e) in
    let under : (x : ℕ) → Names x s ⊎ Names x u → (x < n) × (x < length ss) =
    λ x k. elim k [ inl p ↦ (let q : x < i = t.below i x d c p in (omega arith, omega arith)) | inr p ↦ (let q : x < j = t.below j x d e p in (omega arith, omega arith)) ] in
    let same : s ≡ u =
    same_node v s u
    (λ x y hx hy. one_each ss t d n x y (under x hx).0 (under y hy).0 (under x hx).1 (under y hy).1)
    (λ x hx. let l : x < length ss = (under x hx).1 in let m : length ss ≤ 4294967296 = t.short in omega arith)
    (t.rising i d c) (t.rising j d e) al in
    t.distinct i j d c e same

pub one_value : (ss : List (Node ℕ)) → IsTable ss → (d : Node ℕ) (i j : ℕ) → i < length ss → j < length ss → read (values ss) i ≡ read (values ss) j → i ≡ j
one_value ss t d i j a b h = one_each ss t d (length ss) i j a b a b h
