-- Lists that are mapped, filtered and tested.
use Rattle.std.proofs.Common.{◌≡◌, ℕ, zero, suc, ◌+◌, ◌<◌, Bool, true, false, ◌||◌, ◌&&◌, cond, eqb, List, [], ◌∷◌, ◌++◌, map, length, get_or, take, refl, sym, ap, ◌∙◌, arith, inl, inr, Some, None, All}
use Rattle.std.proofs.lemmas.Bool.Decides.{eqb_tells}
use Rattle.std.specs.List.{filter, list_all, list_any, slice_get}

pub map_map : {X Y Z : Type 0} (g : Y → Z) (f : X → Y) (xs : List X) → map g (map f xs) ≡ map (λ x. g (f x)) xs
map_map g f [] = refl
map_map g f (x ∷ xs) = λ i. g (f x) ∷ map_map g f xs i

pub length_map : {X Y : Type 0} (f : X → Y) (xs : List X) → length (map f xs) ≡ length xs
length_map f [] = refl
length_map f (x ∷ xs) = ap suc (length_map f xs)

-- what holds of each element by its place, taken apart
pub all_head : {X : Type 0} (P : X → Type 0) (x : X) (xs : List X) → All P (x ∷ xs) → P x
all_head P x xs all = all 0 x (omega arith)

pub all_tail : {X : Type 0} (P : X → Type 0) (x : X) (xs : List X) → All P (x ∷ xs) → All P xs
all_tail P x xs all k d h = all (suc k) d (omega arith)

pub all_none : {X : Type 0} (P : X → Type 0) → All P []
all_none P k d h = absurd (omega arith)

pub all_cons : {X : Type 0} (P : X → Type 0) (x : X) (xs : List X) → P x → All P xs → All P (x ∷ xs)
all_cons P x xs here all zero d h = here
all_cons P x xs here all (suc k) d h = all k d (omega arith)

pub all_append : {X : Type 0} (P : X → Type 0) (xs ys : List X) → All P xs → All P ys → All P (xs ++ ys)
all_append P [] ys all more = more
all_append P (x ∷ xs) ys all more = all_cons P x (xs ++ ys) (all_head P x xs all) (all_append P xs ys (all_tail P x xs all) more)

pub all_map : {X Y : Type 0} (P : Y → Type 0) (f : X → Y) (xs : List X) → All (λ x. P (f x)) xs → All P (map f xs)
all_map P f [] all = all_none P
all_map P f (x ∷ xs) all = all_cons P (f x) (map f xs) (all_head (λ y. P (f y)) x xs all) (all_map P f xs (all_tail (λ y. P (f y)) x xs all))

pub all_more : {X : Type 0} (P Q : X → Type 0) → ((x : X) → P x → Q x) → (xs : List X) → All P xs → All Q xs
all_more P Q f [] all = all_none Q
all_more P Q f (x ∷ xs) all = all_cons Q x xs (f x (all_head P x xs all)) (all_more P Q f xs (all_tail P x xs all))

pub all_filter : {X : Type 0} (P : X → Type 0) (p : X → Bool) (xs : List X) → All P xs → All P (filter p xs)
all_filter P p [] all = all_none P
all_filter P p (x ∷ xs) all =
    let rest : All P (filter p xs) = all_filter P p xs (all_tail P x xs all) in
    elim (p x) as (λ b. All P (cond b (x ∷ filter p xs) (filter p xs))) [
      | true ↦ all_cons P x (filter p xs) (all_head P x xs all) rest
      | false ↦ rest
    ]

-- functions that agree on each element
pub map_same : {X Y : Type 0} (P : X → Type 0) (f g : X → Y) → ((x : X) → P x → f x ≡ g x) → (xs : List X) → All P xs → map f xs ≡ map g xs
map_same P f g same [] all = refl
map_same P f g same (x ∷ xs) all =
    let here : P x = all_head P x xs all in
    let rest : All P xs = all_tail P x xs all in
    λ i. same x here i ∷ map_same P f g same xs rest i

pub any_same : {X : Type 0} (P : X → Type 0) (p q : X → Bool) → ((x : X) → P x → p x ≡ q x) → (xs : List X) → All P xs → list_any p xs ≡ list_any q xs
any_same P p q same [] all = refl
any_same P p q same (x ∷ xs) all =
    let here : P x = all_head P x xs all in
    let rest : All P xs = all_tail P x xs all in
    λ i. same x here i || any_same P p q same xs rest i

pub filter_same : {X : Type 0} (P : X → Type 0) (p q : X → Bool) → ((x : X) → P x → p x ≡ q x) → (xs : List X) → All P xs → filter p xs ≡ filter q xs
filter_same P p q same [] all = refl
filter_same P p q same (x ∷ xs) all =
    let here : P x = all_head P x xs all in
    let rest : All P xs = all_tail P x xs all in
    λ i. cond (same x here i) (x ∷ filter_same P p q same xs rest i) (filter_same P p q same xs rest i)

pub any_map : {X Y : Type 0} (p : Y → Bool) (f : X → Y) (xs : List X) → list_any p (map f xs) ≡ list_any (λ x. p (f x)) xs
any_map p f [] = refl
any_map p f (x ∷ xs) = ap (λ b. p (f x) || b) (any_map p f xs)

pub all_test_map : {X Y : Type 0} (p : Y → Bool) (f : X → Y) (xs : List X) → list_all p (map f xs) ≡ list_all (λ x. p (f x)) xs
all_test_map p f [] = refl
all_test_map p f (x ∷ xs) = ap (λ b. p (f x) && b) (all_test_map p f xs)

pub filter_map_is : {X Y : Type 0} (p : Y → Bool) (f : X → Y) (xs : List X) → filter p (map f xs) ≡ map f (filter (λ x. p (f x)) xs)
filter_map_is p f [] = refl
filter_map_is p f (x ∷ xs) =
    elim (p (f x)) as (λ b. cond b (f x ∷ filter p (map f xs)) (filter p (map f xs)) ≡ map f (cond b (x ∷ filter (λ y. p (f y)) xs) (filter (λ y. p (f y)) xs))) [
      | true ↦ ap (λ ys. f x ∷ ys) (filter_map_is p f xs)
      | false ↦ filter_map_is p f xs
    ]

pub any_append : {X : Type 0} (p : X → Bool) (xs : List X) (y : X) → list_any p (xs ++ y ∷ []) ≡ (list_any p xs || p y)
any_append p [] y = elim (p y) as (λ b. (b || false) ≡ b) [ true ↦ refl | false ↦ refl ]
any_append p (x ∷ xs) y =
    elim (p x) as (λ b. (b || list_any p (xs ++ y ∷ [])) ≡ ((b || list_any p xs) || p y)) [
      | true ↦ refl
      | false ↦ any_append p xs y
    ]

-- two tests that pass together are one
pub same_test : (a b c d : ℕ) → (a ≡ b → c ≡ d) → (c ≡ d → a ≡ b) → eqb a b ≡ eqb c d
same_test a b c d there back =
    elim (eqb_tells a b) [
      | inl p ↦ elim (eqb_tells c d) [
        | inl q ↦ p.0 ∙ sym q.0
        | inr q ↦ absurd (q.1 (there p.1))
      ]
      | inr p ↦ elim (eqb_tells c d) [
        | inl q ↦ absurd (p.1 (back q.1))
        | inr q ↦ p.0 ∙ sym q.0
      ]
    ]

pub any_default : {X : Type 0} (xs : List X) (i : ℕ) (d e : X) → i < length xs → get_or xs i d ≡ get_or xs i e
any_default [] i d e h = absurd (omega arith)
any_default (x ∷ xs) zero d e h = refl
any_default (x ∷ xs) (suc i) d e h = any_default xs i d e (omega arith)

-- the element that an index finds is the next one
pub take_found : {X : Type 0} (xs : List X) (i : ℕ) (x : X) → slice_get xs i ≡ Some x → take (i + 1) xs ≡ take i xs ++ x ∷ []
take_found [] i x e = cc
take_found (y ∷ ys) zero x e = let same : y ≡ x = cc in ap (λ z. z ∷ []) same
take_found (y ∷ ys) (suc i) x e =
    let n : suc i + 1 ≡ suc (i + 1) = omega arith in
    ap (λ k. take k (y ∷ ys)) n ∙ ap (λ zs. y ∷ zs) (take_found ys i x e)

pub found_within : {X : Type 0} (xs : List X) (i : ℕ) → i < length xs → slice_get xs i ≡ None → ⊥
found_within [] i h e = omega arith
found_within (x ∷ xs) zero h e = cc
found_within (x ∷ xs) (suc i) h e = found_within xs i (omega arith) e
