-- Lists of which each element keeps something.
use Rattle.std.proofs.Common.{◌≡◌, ℕ, ◌≤◌, max, Bool, true, false, cond, List, [], ◌∷◌, ◌++◌, map, length, Some, None, filter, find, count_by, nat_le, refl, sym, subst, ◌∙◌, ap, ap₂, arith}
use Rattle.std.specs.List.{AllByRecursion as Each, list_any}
use Rattle.std.proofs.lemmas.Bool.{or_parts, or_from, cond-true, cond-false}
use Rattle.std.proofs.lemmas.List.Sums.{sum_by-cons}

pub Each-append : {X : Type 0} (P : X → Type 0) (xs ys : List X) → Each P xs → Each P ys → Each P (xs ++ ys)
Each-append P [] ys a b = b
Each-append P (x ∷ xs) ys a b = (a.0, Each-append P xs ys a.1 b)

pub each_left : {X : Type 0} (P : X → Type 0) (xs ys : List X) → Each P (xs ++ ys) → Each P xs
each_left P [] ys a = tt
each_left P (x ∷ xs) ys a = (a.0, each_left P xs ys a.1)

pub each_right : {X : Type 0} (P : X → Type 0) (xs ys : List X) → Each P (xs ++ ys) → Each P ys
each_right P [] ys a = a
each_right P (x ∷ xs) ys a = each_right P xs ys a.1

pub each_weaker : {X : Type 0} (P Q : X → Type 0) → ((x : X) → P x → Q x) → (xs : List X) → Each P xs → Each Q xs
each_weaker P Q h [] a = tt
each_weaker P Q h (x ∷ xs) a = (h x a.0, each_weaker P Q h xs a.1)

-- what two facts of each element give together
pub each_both : {X : Type 0} (P Q R : X → Type 0) → ((x : X) → P x → Q x → R x) → (xs : List X) → Each P xs → Each Q xs → Each R xs
each_both P Q R h [] a b = tt
each_both P Q R h (x ∷ xs) a b = (h x a.0 b.0, each_both P Q R h xs a.1 b.1)

pub each_always : {X : Type 0} (P : X → Type 0) → ((x : X) → P x) → (xs : List X) → Each P xs
each_always P h [] = tt
each_always P h (x ∷ xs) = (h x, each_always P h xs)

pub Each-map : {X Y : Type 0} (P : X → Type 0) (f : Y → X) (ys : List Y) → Each (λ y. P (f y)) ys → Each P (map f ys)
Each-map P f [] a = tt
Each-map P f (y ∷ ys) a = (a.0, Each-map P f ys a.1)

pub each_of_map : {X Y : Type 0} (P : X → Type 0) (f : Y → X) (ys : List Y) → Each P (map f ys) → Each (λ y. P (f y)) ys
each_of_map P f [] a = tt
each_of_map P f (y ∷ ys) a = (a.0, each_of_map P f ys a.1)

pub Each-filter : {X : Type 0} (P : X → Type 0) (p : X → Bool) (xs : List X) → Each P xs → Each P (filter p xs)
Each-filter P p [] a = tt
Each-filter P p (x ∷ xs) a =
    elim (p x) as (λ b. Each P (cond b (x ∷ filter p xs) (filter p xs))) [ true ↦ (a.0, Each-filter P p xs a.1) | false ↦ Each-filter P p xs a.1 ]

pub each_passes : {X : Type 0} (p : X → Bool) (xs : List X) → Each (λ x. p x ≡ true) (filter p xs)
each_passes p [] = tt
each_passes p (x ∷ xs) = go (p x) refl (each_passes p xs)
  where
    go : (b : Bool) → p x ≡ b → Each (λ y. p y ≡ true) (filter p xs) → Each (λ y. p y ≡ true) (cond b (x ∷ filter p xs) (filter p xs))
    go true e more = (e, more)
    go false e more = more

-- no element passes a test, as a test and as a fact
pub each_fails : {X : Type 0} (p : X → Bool) (xs : List X) → list_any p xs ≡ false → Each (λ x. p x ≡ false) xs
each_fails p [] e = tt
each_fails p (x ∷ xs) e = let both = or_parts (p x) (list_any p xs) e in (both.0, each_fails p xs both.1)

pub none_passes : {X : Type 0} (p : X → Bool) (xs : List X) → Each (λ x. p x ≡ false) xs → list_any p xs ≡ false
none_passes p [] a = refl
none_passes p (x ∷ xs) a = or_from (p x) (list_any p xs) a.0 (none_passes p xs a.1)

pub find-none : {X : Type 0} (p : X → Bool) (xs : List X) → Each (λ x. p x ≡ false) xs → find p xs ≡ None
find-none p [] a = refl
find-none p (x ∷ xs) a = cond-false (p x) (Some x) (find p xs) a.0 ∙ find-none p xs a.1

-- the first that passes
pub find-first : {X : Type 0} (p : X → Bool) (front : List X) (x : X) (back : List X) → Each (λ y. p y ≡ false) front → p x ≡ true → find p (front ++ x ∷ back) ≡ Some x
find-first p [] x back a e = cond-true (p x) (Some x) (find p back) e
find-first p (y ∷ front) x back a e = cond-false (p y) (Some y) (find p (front ++ x ∷ back)) a.0 ∙ find-first p front x back a.1 e

-- an element that a test keeps is found among those that it keeps
pub find-filter : {X : Type 0} (q p : X → Bool) (front : List X) (x : X) (back : List X) → Each (λ y. q y ≡ false) front → Each (λ y. q y ≡ false) back → q x ≡ true
    → find q (filter p (front ++ x ∷ back)) ≡ cond (p x) (Some x) None
find-filter q p [] x back a b e =
    elim (p x) as (λ c. find q (cond c (x ∷ filter p back) (filter p back)) ≡ cond c (Some x) None) [
      | true ↦ cond-true (q x) (Some x) (find q (filter p back)) e
      | false ↦ find-none q (filter p back) (Each-filter (λ y. q y ≡ false) p back b)
    ]
find-filter q p (y ∷ front) x back a b e =
    elim (p y) as (λ c. find q (cond c (y ∷ filter p (front ++ x ∷ back)) (filter p (front ++ x ∷ back))) ≡ cond (p x) (Some x) None) [
      | true ↦ cond-false (q y) (Some y) (find q (filter p (front ++ x ∷ back))) a.0 ∙ find-filter q p front x back a.1 b e
      | false ↦ find-filter q p front x back a.1 b e
    ]

-- the highest of some numbers, and of one more
abbrev pub highest : ℕ → List ℕ → ℕ
highest top [] = top
highest top (n ∷ ns) = highest (max top n) ns

pub highest_above : (top : ℕ) (ns : List ℕ) → top ≤ highest top ns
highest_above top [] = omega arith
highest_above top (n ∷ ns) = let h = highest_above (max top n) ns in omega arith

pub highest_all : (top : ℕ) (ns : List ℕ) → Each (λ n. n ≤ highest top ns) ns
highest_all top [] = tt
highest_all top (n ∷ ns) = ((let h = highest_above (max top n) ns in omega arith), highest_all (max top n) ns)

max_is : (P : ℕ → Type 0) (a b : ℕ) → P a → P b → P (max a b)
max_is P a b x y = go (nat_le a b) refl
  where
    go : (c : Bool) → nat_le a b ≡ c → P (max a b)
    go true e = let is : max a b ≡ b = grind (arith) in subst P (sym is) y
    go false e = let is : max a b ≡ a = grind (arith) in subst P (sym is) x

-- the highest is one of them
pub highest_one : (P : ℕ → Type 0) (top : ℕ) (ns : List ℕ) → P top → Each P ns → P (highest top ns)
highest_one P top [] h a = h
highest_one P top (n ∷ ns) h a = highest_one P (max top n) ns (max_is P top n h a.0) a.1

pub count_all : {X : Type 0} (p : X → Bool) (xs : List X) → Each (λ x. p x ≡ true) xs → count_by p xs ≡ length xs
count_all p [] a = refl
count_all p (x ∷ xs) a =
    let one : ◌≡◌ {A = ℕ} (cond (p x) 1 0) 1 = cond-true (p x) 1 0 a.0 in
    let more : count_by p xs ≡ length xs = count_all p xs a.1 in
    sum_by-cons (λ y. cond (p y) 1 0) x xs ∙ (omega (arith, one, more))

pub map-map : {A B C : Type 0} (f : B → C) (g : A → B) (xs : List A) → map f (map g xs) ≡ map (λ x. f (g x)) xs
map-map f g [] = refl
map-map f g (x ∷ xs) = ap (λ ys. f (g x) ∷ ys) (map-map f g xs)

-- functions that agree on each element
pub map_agree : {A B : Type 0} (f g : A → B) (xs : List A) → Each (λ x. f x ≡ g x) xs → map f xs ≡ map g xs
map_agree f g [] a = refl
map_agree f g (x ∷ xs) a = ap₂ (λ y ys. y ∷ ys) a.0 (map_agree f g xs a.1)
