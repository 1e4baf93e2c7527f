-- What lists tell, element by element, where one of them changes.
use Rattle.std.proofs.Common.{◌≡◌, ℕ, ◌+◌, ◌<◌, ◌≤◌, List, [], ◌∷◌, ◌++◌, length, set, get_or, zero, suc, refl, sym, ◌∙◌, ap, arith, append_assoc, append-nil}
use Rattle.std.specs.List.{enumerate_from, flat_map, zip}

-- what tells the same of each element tells the same of all
pub flat_same : {X A : Type 0} (f g : X → List A) (xs : List X) → ((x : X) → f x ≡ g x) → flat_map f xs ≡ flat_map g xs
flat_same f g [] e = refl
flat_same {A = A} f g (x ∷ xs) e = ap (λ (t : List A). t ++ flat_map f xs) (e x) ∙ ap (λ (t : List A). g x ++ t) (flat_same f g xs e)

-- ---- elements with their numbers

-- elements that tell nothing
pub numbered_none : {X A : Type 0} (f : ℕ × X → List A) (d : X) (n : ℕ) (xs : List X) → ((i j : ℕ) → j ≡ n + i → f (j, get_or xs i d) ≡ []) → flat_map f (enumerate_from n xs) ≡ []
numbered_none f d n [] e = refl
numbered_none {A = A} f d n (x ∷ xs) e = ap (λ (t : List A). t ++ flat_map f (enumerate_from (n + 1) xs)) (e 0 n (omega arith)) ∙ numbered_none f d (n + 1) xs (λ i j is. e (suc i) j (omega arith))

-- an element that tells more, where those behind it tell nothing: what is more stands last
pub numbered_put : {X A : Type 0} (f : ℕ × X → List A) (d : X) (n : ℕ) (xs : List X) (k : ℕ) (y : X) (more : List A) → k < length xs → ((j : ℕ) → j ≡ n + k → f (j, y) ≡ f (j, get_or xs k d) ++ more)
    → ((i j : ℕ) → k < i → j ≡ n + i → f (j, get_or xs i d) ≡ []) → flat_map f (enumerate_from n (set xs k y)) ≡ flat_map f (enumerate_from n xs) ++ more
numbered_put f d n [] k y more within here behind = absurd (omega arith)
numbered_put {A = A} f d n (x ∷ xs) zero y more within here behind =
    let rest : flat_map f (enumerate_from (n + 1) xs) ≡ [] = numbered_none f d (n + 1) xs (λ i j is. behind (suc i) j (omega arith) (omega arith)) in
    ap (λ (t : List A). f (n, y) ++ t) rest
    ∙ (append-nil (f (n, y))
    ∙ (here n (omega arith)
    ∙ sym (ap (λ (t : List A). (f (n, x) ++ t) ++ more) rest ∙ ap (λ (t : List A). t ++ more) (append-nil (f (n, x))))))
numbered_put {A = A} f d n (x ∷ xs) (suc k) y more within here behind =
    ap (λ (t : List A). f (n, x) ++ t) (numbered_put f d (n + 1) xs k y more (omega arith) (λ j is. here j (omega arith)) (λ i j low is. behind (suc i) j (omega arith) (omega arith)))
    ∙ sym (append_assoc (f (n, x)) (flat_map f (enumerate_from (n + 1) xs)) more)

-- ---- elements with their names

-- elements that tell nothing, whatever their names
pub named_none : {K X A : Type 0} (f : K × X → List A) (d : X) (names : List K) (xs : List X) → ((name : K) (i : ℕ) → f (name, get_or xs i d) ≡ []) → flat_map f (zip names xs) ≡ []
named_none f d [] xs e = refl
named_none f d (name ∷ names) [] e = refl
named_none {A = A} f d (name ∷ names) (x ∷ xs) e = ap (λ (t : List A). t ++ flat_map f (zip names xs)) (e name 0) ∙ named_none f d names xs (λ other i. e other (suc i))

-- an element in the place of one that tells nothing, as those behind it: it tells last
pub named_put : {K X A : Type 0} (f : K × X → List A) (c : K) (d : X) (names : List K) (xs : List X) (k : ℕ) (y : X) → k < length xs → k < length names → ((name : K) (i : ℕ) → k ≤ i → f (name, get_or xs i d) ≡ [])
    → flat_map f (zip names (set xs k y)) ≡ flat_map f (zip names xs) ++ f (get_or names k c, y)
named_put f c d names [] k y within low e = absurd (omega arith)
named_put f c d [] (x ∷ xs) k y within low e = absurd (omega arith)
named_put {A = A} f c d (name ∷ names) (x ∷ xs) zero y within low e =
    let rest : flat_map f (zip names xs) ≡ [] = named_none f d names xs (λ other i. e other (suc i) (omega arith)) in
    ap (λ (t : List A). f (name, y) ++ t) rest
    ∙ (append-nil (f (name, y))
    ∙ sym (ap (λ (t : List A). (t ++ flat_map f (zip names xs)) ++ f (name, y)) (e name 0 (omega arith)) ∙ ap (λ (t : List A). t ++ f (name, y)) rest))
named_put {A = A} f c d (name ∷ names) (x ∷ xs) (suc k) y within low e =
    ap (λ (t : List A). f (name, x) ++ t) (named_put f c d names xs k y (omega arith) (omega arith) (λ other i past. e other (suc i) (omega arith)))
    ∙ sym (append_assoc (f (name, x)) (flat_map f (zip names xs)) (f (get_or names k c, y)))
