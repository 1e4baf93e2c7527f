use Rattle.std.proofs.Common.{◌-◌, length-drop, ◌≡◌, ℕ, ◌+◌, ◌*◌, ◌<◌, ◌≤◌, Bool, true, false, cond, List, [], ◌∷◌, length, get_or, take, drop, set, Option, Some, None, refl, arith, ◌∙◌, ap, suc, zero, add-one, drop-cons}
use Rattle.std.specs.List.{sum_by}
use Rattle.std.specs.Option.{is_some}
use Rattle.std.proofs.lemmas.List.{drop_all, take_all}
use Rattle.std.proofs.lemmas.List.Sums.{sum_by_more, sum_by_more_le, sum_by-set, sum_by-cons, sum_by-drop_more}
use Rattle.kappa_alpha.specs.Columns.{worth, both, toward, ordered, raters_in}

pub toward_more : (w c k : ℕ) (x : Option ℕ) (others : List (Option ℕ)) (i : ℕ) (d : Option ℕ) → i < length others → toward w c k x (take (i + 1) others) ≡ toward w c k x (take i others) + both w c k x (get_or others i d)
unfolding toward
toward_more w c k x others i d h = sum_by_more (both w c k x) others i d h

pub toward_more_le : (w c k : ℕ) (x : Option ℕ) (others : List (Option ℕ)) (i : ℕ) (d : Option ℕ) → i < length others → toward w c k x (take i others) + both w c k x (get_or others i d) ≤ toward w c k x others
unfolding toward
toward_more_le w c k x others i d h = sum_by_more_le (both w c k x) others i d h

pub toward_none_of : (w c k : ℕ) (x : Option ℕ) → toward w c k x [] ≡ 0
unfolding toward
toward_none_of w c k x = refl

pub toward_cons : (w c k : ℕ) (x y : Option ℕ) (others : List (Option ℕ)) → toward w c k x (y ∷ others) ≡ both w c k x y + toward w c k x others
unfolding toward
toward_cons w c k x y others = sum_by-cons (both w c k x) y others

pub both_none : (w c k : ℕ) (x : Option ℕ) → both w c k x None ≡ 0
unfolding worth
both_none w c k None = refl
both_none w c k (Some x) = refl

pub none_both : (w c k : ℕ) (x : Option ℕ) → both w c k None x ≡ 0
unfolding worth
none_both w c k None = refl
none_both w c k (Some x) = refl

pub none_toward : (w c k : ℕ) (others : List (Option ℕ)) → toward w c k None others ≡ 0
none_toward w c k [] = toward_none_of w c k None
none_toward w c k (y ∷ others) = omega (arith, toward_cons w c k None y others, none_both w c k y, none_toward w c k others)

-- a label set at a place that had none
pub toward_set : (w c k : ℕ) (x : Option ℕ) (others : List (Option ℕ)) (r : ℕ) (y : Option ℕ) → r < length others → get_or others r None ≡ None → toward w c k x (set others r y) ≡ toward w c k x others + both w c k x y
unfolding toward
toward_set w c k x others r y h e =
    let z : both w c k x (get_or others r None) ≡ 0 = rw e (both_none w c k x) in
    let s : sum_by (both w c k x) (set others r y) + both w c k x (get_or others r None) ≡ sum_by (both w c k x) others + both w c k x y = sum_by-set (both w c k x) others r y None h in
    omega (arith, z, s)

pub ordered_set : (w c k : ℕ) (col : List (Option ℕ)) (r : ℕ) (y : Option ℕ) → r < length col → get_or col r None ≡ None → ordered w c k (set col r y) ≡ ordered w c k col + toward w c k y col
unfolding ordered
ordered_set w c k [] r y h e = absurd (omega arith)
ordered_set w c k (x ∷ xs) zero y h e =
    rw (e, toward_cons) (omega (arith, none_toward w c k xs, both_none w c k y))
ordered_set w c k (x ∷ xs) (suc r) y h e =
    omega (arith, toward_set w c k x xs r y (omega arith) e, ordered_set w c k xs r y (omega arith) e, toward_cons w c k y x xs)

pub raters_more : (col : List (Option ℕ)) (i : ℕ) (d : Option ℕ) → i < length col → raters_in (take (i + 1) col) ≡ raters_in (take i col) + cond (is_some (get_or col i d)) 1 0
unfolding raters_in
raters_more col i d h = sum_by_more (λ x. cond (is_some x) 1 0) col i d h

pub raters_put : (col : List (Option ℕ)) (r : ℕ) (v : Option ℕ) → r < length col → get_or col r None ≡ None → raters_in (set col r v) ≡ raters_in col + cond (is_some v) 1 0
unfolding raters_in
raters_put col r v h e =
    let f : Option ℕ → ℕ = λ o. cond (is_some o) 1 0 in
    let s : sum_by (λ x. cond (is_some x) 1 0) (set col r v) + f (get_or col r None) ≡ sum_by (λ x. cond (is_some x) 1 0) col + f v = sum_by-set (λ x. cond (is_some x) 1 0) col r v None h in
    let z : f (get_or col r None) ≡ 0 = ap f e in
    omega (arith, z, s)

pub raters_none : raters_in [] ≡ 0
unfolding raters_in
raters_none = refl

pub raters_drop : (col : List (Option ℕ)) (i : ℕ) (d : Option ℕ) → i < length col → raters_in (drop i col) ≡ cond (is_some (get_or col i d)) 1 0 + raters_in (drop (i + 1) col)
unfolding raters_in
raters_drop col i d h = sum_by-drop_more (λ x. cond (is_some x) 1 0) col i d h

pub ordered_nil : (w c k : ℕ) → ordered w c k [] ≡ 0
unfolding ordered
ordered_nil w c k = refl

pub ordered_cons : (w c k : ℕ) (x : Option ℕ) (xs : List (Option ℕ)) → ordered w c k (x ∷ xs) ≡ toward w c k x xs + ordered w c k xs
unfolding ordered
ordered_cons w c k x xs = refl

pub ordered_drop : (w c k : ℕ) (col : List (Option ℕ)) (i : ℕ) (d : Option ℕ) → i < length col → ordered w c k (drop i col) ≡ toward w c k (get_or col i d) (drop (i + 1) col) + ordered w c k (drop (i + 1) col)
ordered_drop w c k col i d h = ap (ordered w c k) (rw add-one (drop-cons col i d h)) ∙ ordered_cons w c k (get_or col i d) (drop (i + 1) col)

-- a front that is taken out leaves room
pub ordered_drop_le : (w c k : ℕ) (col : List (Option ℕ)) (i : ℕ) → ordered w c k (drop i col) ≤ ordered w c k col
ordered_drop_le w c k col zero = omega arith
ordered_drop_le w c k [] (suc i) = omega arith
ordered_drop_le w c k (x ∷ xs) (suc i) = omega (arith, ordered_cons w c k x xs, ordered_drop_le w c k xs i)

pub square_step : (q : ℕ) → (q + 1) * (q + 1) ≡ q * q + 2 * q + 1
square_step q = grind arith

pub ordered_past : (w c k : ℕ) (col : List (Option ℕ)) (i : ℕ) → length col ≤ i → ordered w c k (drop i col) ≡ 0
ordered_past w c k col i h = ap (ordered w c k) (drop_all i col h) ∙ ordered_nil w c k

pub raters_past : (col : List (Option ℕ)) (i : ℕ) → length col ≤ i → raters_in (drop i col) ≡ 0
raters_past col i h = ap raters_in (drop_all i col h) ∙ raters_none

-- p raters are left, and q after the next one; s steps were taken, and t after it
pub steps_step : (b : Bool) (p q s t m u : ℕ) → p ≡ cond b 1 0 + q → s + p * p + m ≡ u + p → t ≡ s + cond b (2 * q) 0 → t + q * q + m ≡ u + q
steps_step true p q s t m u e h k =
    let f : p ≡ q + 1 = omega (arith, e) in
    let h2 : s + (q + 1) * (q + 1) + m ≡ u + (q + 1) = rw (← f) h in
    let h3 : s + (q * q + 2 * q + 1) + m ≡ u + (q + 1) = rw (← square_step q) h2 in
    omega (arith, h3, k)
steps_step false p q s t m u e h k =
    let f : p ≡ q = omega (arith, e) in
    let h2 : s + q * q + m ≡ u + q = rw (← f) h in
    omega (arith, h2, k)

pub rest_is : (col : List (Option ℕ)) (i : ℕ) → take (length col - i) (drop i col) ≡ drop i col
rest_is col i = take_all (length col - i) (drop i col) (omega (arith, length-drop i col))
