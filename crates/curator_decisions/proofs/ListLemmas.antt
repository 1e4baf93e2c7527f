-- Lists in which each element stands in a relation to those behind it, and counts.
use Rattle.std.proofs.Common.{◌≡◌, ℕ, ◌+◌, ◌≤◌, ◌⊎◌, ◌&&◌, ◌||◌, Bool, true, false, cond, List, [], ◌∷◌, ◌++◌, filter, map, refl, sym, ◌∙◌, ap, subst, inl, inr, Option, Some, None, arith}
use Rattle.std.proofs.lemmas.List.Sums.{sum_by-cons}
use Rattle.std.specs.List.{cons_option, count_by, filter_map}
use Rattle.content_keys.specs.Nodes.{IsIn}
use Rattle.content_keys.proofs.BagLemmas.{IsIn-either, map-IsIn}

-- each element stands in the relation to each behind it
abbrev pub Pairs : {X : Type 0} → (X → X → Type 0) → List X → Type 0
Pairs R [] = Unit {0}
Pairs {X} R (x ∷ xs) = ((y : X) → IsIn y xs → R x y) × Pairs R xs

pub in_filter : {X : Type 0} (p : X → Bool) (xs : List X) (x : X) → IsIn x (filter p xs) → IsIn x xs × (p x ≡ true)
in_filter p [] x h = absurd h
in_filter {X} p (y ∷ ys) x h =
    elim (p y) as (λ b. p y ≡ b → IsIn x (cond b (y ∷ filter p ys) (filter p ys)) → ((x ≡ y) ⊎ IsIn x ys) × (p x ≡ true)) [
      | true ↦ λ e k. elim k [
        | inl same ↦ (inl same, ap p same ∙ e)
        | inr m ↦ let r : IsIn x ys × (p x ≡ true) = in_filter p ys x m in (inr r.0, r.1)
      ]
      | false ↦ λ e k. let r : IsIn x ys × (p x ≡ true) = in_filter p ys x k in (inr r.0, r.1)
    ] refl h

pub filter_in : {X : Type 0} (p : X → Bool) (xs : List X) (x : X) → IsIn x xs → p x ≡ true → IsIn x (filter p xs)
filter_in p [] x h t = absurd h
filter_in {X} p (y ∷ ys) x h t =
    elim (p y) as (λ b. p y ≡ b → IsIn x (cond b (y ∷ filter p ys) (filter p ys))) [
      | true ↦ λ e. elim h as (λ _. (x ≡ y) ⊎ IsIn x (filter p ys)) [ inl same ↦ inl same | inr m ↦ inr (filter_in p ys x m t) ]
      | false ↦ λ e. elim h [
        | inl same ↦ absurd (let e2 : true ≡ false = sym t ∙ ap p same ∙ e in cc)
        | inr m ↦ filter_in p ys x m t
      ]
    ] refl

pub pairs_filter : {X : Type 0} (R : X → X → Type 0) (p : X → Bool) (xs : List X) → Pairs R xs → Pairs R (filter p xs)
pairs_filter R p [] h = tt
pairs_filter R p (x ∷ xs) h =
    elim (p x) as (λ b. Pairs R (cond b (x ∷ filter p xs) (filter p xs))) [
      | true ↦ (λ y k. h.0 y (in_filter p xs y k).0, pairs_filter R p xs h.1)
      | false ↦ pairs_filter R p xs h.1
    ]

pub pairs_more : {X : Type 0} (R S : X → X → Type 0) (xs : List X) → ((x y : X) → IsIn x xs → IsIn y xs → R x y → S x y) → Pairs R xs → Pairs S xs
pairs_more R S [] f h = tt
pairs_more R S (x ∷ xs) f h = (λ y k. f x y (inl refl) (inr k) (h.0 y k), pairs_more R S xs (λ a b i j. f a b (inr i) (inr j)) h.1)

pub pairs_append : {X : Type 0} (R : X → X → Type 0) (xs ys : List X) → Pairs R xs → Pairs R ys → ((x y : X) → IsIn x xs → IsIn y ys → R x y) → Pairs R (xs ++ ys)
pairs_append R [] ys h g across = g
pairs_append R (x ∷ xs) ys h g across =
    (λ y k. elim (IsIn-either y xs ys k) [ inl i ↦ h.0 y i | inr j ↦ across x y (inl refl) j ], pairs_append R xs ys h.1 g (λ a b i j. across a b (inr i) j))

pub pairs_map : {X Y : Type 0} (R : X → X → Type 0) (S : Y → Y → Type 0) (f : X → Y) (xs : List X) → ((a b : X) → R a b → S (f a) (f b)) → Pairs R xs → Pairs S (map f xs)
pairs_map R S f [] keeps h = tt
pairs_map {X} {Y} R S f (x ∷ xs) keeps h = (
  λ y k. let r : (z : X) × (IsIn z xs × (y ≡ f z)) = map-IsIn f y xs k in subst (S (f x)) (sym r.1.1) (keeps x r.0 (h.0 r.0 r.1.0)),
  pairs_map R S f xs keeps h.1,
)

-- ---- lists that are mapped where something is given

pub in_given : {X Y : Type 0} (f : X → Option Y) (xs : List X) (y : Y) → IsIn y (filter_map f xs) → (x : X) × (IsIn x xs × (f x ≡ Some y))
in_given f [] y k = absurd k
in_given {X} {Y} f (x ∷ xs) y k =
    elim (f x) as (λ o. f x ≡ o → IsIn y (cons_option o (filter_map f xs)) → (z : X) × (((z ≡ x) ⊎ IsIn z xs) × (f z ≡ Some y))) [
      | None ↦ λ e m. let r : (z : X) × (IsIn z xs × (f z ≡ Some y)) = in_given f xs y m in (r.0, (inr r.1.0, r.1.1))
      | Some v ↦ λ e m. elim m as (λ _. (z : X) × (((z ≡ x) ⊎ IsIn z xs) × (f z ≡ Some y))) [
        | inl same ↦ (x, (inl refl, e ∙ ap Some (sym same)))
        | inr n ↦ let r : (z : X) × (IsIn z xs × (f z ≡ Some y)) = in_given f xs y n in (r.0, (inr r.1.0, r.1.1))
      ]
    ] refl k

pub given_in : {X Y : Type 0} (f : X → Option Y) (xs : List X) (x : X) (y : Y) → IsIn x xs → f x ≡ Some y → IsIn y (filter_map f xs)
given_in f [] x y k e = absurd k
given_in {X} {Y} f (z ∷ xs) x y k e = elim k [
  | inl same ↦
      let there : f z ≡ Some y = ap f (sym same) ∙ e in
      let P : Option Y → Type 0 = λ o. IsIn y (cons_option o (filter_map f xs)) in
      subst P (sym there) (inl refl)
  | inr m ↦ more (f z) (given_in f xs x y m e)
]
  where
    more : (o : Option Y) → IsIn y (filter_map f xs) → IsIn y (cons_option o (filter_map f xs))
    more None h = h
    more (Some v) h = inr h

pub pairs_given : {X Y : Type 0} (R : X → X → Type 0) (S : Y → Y → Type 0) (f : X → Option Y) (xs : List X) → ((a b : X) (y z : Y) → IsIn a xs → IsIn b xs → f a ≡ Some y → f b ≡ Some z → R a b → S y z) → Pairs R xs → Pairs S (filter_map f xs)
pairs_given R S f [] h up = tt
pairs_given {X} {Y} R S f (x ∷ xs) h up =
    elim (f x) as (λ o. f x ≡ o → Pairs S (cons_option o (filter_map f xs))) [
      | None ↦ λ e. pairs_given R S f xs (λ a b y z i j. h a b y z (inr i) (inr j)) up.1
      | Some v ↦ λ e. (
        λ z k.
            let r : (b : X) × (IsIn b xs × (f b ≡ Some z)) = in_given f xs z k in
            h x r.0 v z (inl refl) (inr r.1.0) e r.1.1 (up.0 r.0 r.1.0),
        pairs_given R S f xs (λ a b y z i j. h a b y z (inr i) (inr j)) up.1,
      )
    ] refl

pub two_of : {X : Type 0} (R : X → X → Type 0) (xs : List X) → Pairs R xs → (a b : X) → IsIn a xs → IsIn b xs → (a ≡ b) ⊎ (R a b ⊎ R b a)
two_of R [] up a b i j = absurd i
two_of {X} R (x ∷ xs) up a b i j = elim i [
  | inl p ↦ elim j [
    | inl q ↦ inl (p ∙ sym q)
    | inr n ↦ inr (inl (subst (λ (z : X). R z b) (sym p) (up.0 b n)))
  ]
  | inr m ↦ elim j [
    | inl q ↦ inr (inr (subst (λ (z : X). R z a) (sym q) (up.0 a m)))
    | inr n ↦ two_of R xs up.1 a b m n
  ]
]

pub pairs_both : {X : Type 0} (R S : X → X → Type 0) (xs : List X) → Pairs R xs → Pairs S xs → Pairs (λ a b. R a b × S a b) xs
pairs_both R S [] h g = tt
pairs_both R S (x ∷ xs) h g = (λ y k. (h.0 y k, g.0 y k), pairs_both R S xs h.1 g.1)

-- ---- lists by parts

pub filter_twice : {X : Type 0} (p q : X → Bool) (xs : List X) → filter p (filter q xs) ≡ filter (λ x. q x && p x) xs
filter_twice p q [] = refl
filter_twice p q (x ∷ xs) =
    elim (q x) as (λ b. filter p (cond b (x ∷ filter q xs) (filter q xs)) ≡ cond (b && p x) (x ∷ filter (λ y. q y && p y) xs) (filter (λ y. q y && p y) xs)) [
      | true ↦ ap (λ ys. cond (p x) (x ∷ ys) ys) (filter_twice p q xs)
      | false ↦ filter_twice p q xs
    ]

pub filter_nothing : {X : Type 0} (p : X → Bool) (xs : List X) → ((x : X) → p x ≡ false) → filter p xs ≡ []
filter_nothing p [] h = refl
filter_nothing p (x ∷ xs) h = ap (λ b. cond b (x ∷ filter p xs) (filter p xs)) (h x) ∙ filter_nothing p xs h

-- ---- counts

-- one where a test is met
abbrev pub bit : Bool → ℕ
bit b = cond b 1 0

pub count_cons : {X : Type 0} (p : X → Bool) (x : X) (xs : List X) → count_by p (x ∷ xs) ≡ cond (p x) 1 0 + count_by p xs
count_cons p x xs = sum_by-cons (λ y. cond (p y) 1 0) x xs

pub count_append : {X : Type 0} (p : X → Bool) (xs ys : List X) → count_by p (xs ++ ys) ≡ count_by p xs + count_by p ys
count_append p [] ys = let none : count_by p [] ≡ 0 = refl in omega arith
count_append p (x ∷ xs) ys = let rest : count_by p (xs ++ ys) ≡ count_by p xs + count_by p ys = count_append p xs ys in omega (arith, count_cons p x (xs ++ ys), count_cons p x xs)

pub count_filter : {X : Type 0} (p q : X → Bool) (xs : List X) → count_by p (filter q xs) ≤ count_by p xs
count_filter p q [] = omega arith
count_filter p q (x ∷ xs) =
    let rest : count_by p (filter q xs) ≤ count_by p xs = count_filter p q xs in
    elim (q x) as (λ b. count_by p (cond b (x ∷ filter q xs) (filter q xs)) ≤ count_by p (x ∷ xs)) [
      | true ↦ omega (arith, count_cons p x (filter q xs), count_cons p x xs)
      | false ↦ omega (arith, count_cons p x xs)
    ]

pub or_true : (b : Bool) → (b || true) ≡ true
or_true true = refl
or_true false = refl
