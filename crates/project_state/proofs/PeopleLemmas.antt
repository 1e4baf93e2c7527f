-- People of one sort, by their names.
use Rattle.std.proofs.Common.{◌≡◌, ℕ, ◌<◌, ◌≤◌, ◌+◌, ◌⊎◌, ◌||◌, Bool, true, false, not, cond, List, [], ◌∷◌, length, map, nat_lt, Option, Some, None, is_some, refl, sym, ◌∙◌, ap, bytes_eq, position, arith, inl, inr, suc}
use Rattle.std.specs.List.{list_any, position_or_len}
use Rattle.std.proofs.lemmas.Bool.{cases_lt, le-ltb, lt-ltb}
use Rattle.entry_bytes.specs.declared.person.Person.{Person}

none_some : {X : Type 0} (x : X) → None ≡ Some x → ⊥
none_some x e = cc

-- the first of some by what is read of them
pub first_by : {X : Type 0} (p : List ℕ → Bool) (f : X → List ℕ) (xs : List X) → position_or_len (λ x. p (f x)) xs ≡ position_or_len p (map f xs)
first_by p f [] = refl
first_by p f (x ∷ xs) = ap (λ n. cond (not (p (f x))) (1 + n) 0) (first_by p f xs)

at_place : (b : Bool) (place n : ℕ) → cond b (Some n) None ≡ Some place → n ≡ place
at_place true place n e = cc
at_place false place n e = absurd (none_some place e)

-- the first place of a list is no more than its length
pub first_le : {X : Type 0} (p : X → Bool) (xs : List X) → position_or_len p xs ≤ length xs
first_le p [] = omega arith
first_le p (x ∷ xs) = by (p x) (first_le p xs)
  where
    by : (b : Bool) → position_or_len p xs ≤ length xs → cond (not b) (1 + position_or_len p xs) 0 ≤ length (x ∷ xs)
    by true h = omega arith
    by false h = omega arith

-- where nothing is found, the first place is the end
pub first_none : {X : Type 0} (p : X → Bool) (xs : List X) → position p xs ≡ None → position_or_len p xs ≡ length xs
first_none p xs e = by (cases_lt (position_or_len p xs) (length xs))
  where
    by : (position_or_len p xs < length xs) ⊎ (length xs ≤ position_or_len p xs) → position_or_len p xs ≡ length xs
    by (inl within) = absurd (none_some (position_or_len p xs) (sym e ∙ ap (λ b. cond b (Some (position_or_len p xs)) None) (lt-ltb (position_or_len p xs) (length xs) within)))
    by (inr past) = let le = first_le p xs in omega arith

-- a place that is found is the first by name
pub placed_by_name : (who : List ℕ) (people : List Person) (place : ℕ) → position (λ (person : Person). bytes_eq who person.name) people ≡ Some place
    → position_or_len (bytes_eq who) (map (λ (person : Person). person.name) people) ≡ place
placed_by_name who people place e = sym (first_by (bytes_eq who) (λ (person : Person). person.name) people) ∙ at_place _ place _ e

-- where nobody is found, the place is the end
pub nowhere_by_name : (who : List ℕ) (people : List Person) → position (λ (person : Person). bytes_eq who person.name) people ≡ None
    → position_or_len (bytes_eq who) (map (λ (person : Person). person.name) people) ≡ length people
nowhere_by_name who people e =
    sym (first_by (bytes_eq who) (λ (person : Person). person.name) people) ∙ first_none (λ (person : Person). bytes_eq who person.name) people e

-- something passes exactly where the first place is one of the list
pub any_first : {X : Type 0} (p : X → Bool) (xs : List X) → nat_lt (position_or_len p xs) (length xs) ≡ list_any p xs
any_first p [] = refl
any_first p (x ∷ xs) = by (p x) (any_first p xs)
  where
    later : (n m : ℕ) → nat_lt (1 + n) (suc m) ≡ nat_lt n m
    later n m = step (cases_lt n m)
      where
        step : (n < m) ⊎ (m ≤ n) → nat_lt (1 + n) (suc m) ≡ nat_lt n m
        step (inl below) = (let more : 1 + n < suc m = omega arith in lt-ltb (1 + n) (suc m) more) ∙ sym (lt-ltb n m below)
        step (inr past) = (let more : suc m ≤ 1 + n = omega arith in le-ltb (1 + n) (suc m) more) ∙ sym (le-ltb n m past)

    by : (b : Bool) → nat_lt (position_or_len p xs) (length xs) ≡ list_any p xs → nat_lt (cond (not b) (1 + position_or_len p xs) 0) (length (x ∷ xs)) ≡ (b || list_any p xs)
    by true h = lt-ltb 0 (length (x ∷ xs)) (omega arith)
    by false h = later (position_or_len p xs) (length xs) ∙ h

any_map : {X : Type 0} (p : List ℕ → Bool) (f : X → List ℕ) (xs : List X) → list_any (λ x. p (f x)) xs ≡ list_any p (map f xs)
any_map p f [] = refl
any_map p f (x ∷ xs) = ap (λ b. p (f x) || b) (any_map p f xs)

some_by : (b : Bool) (n : ℕ) → is_some (cond b (Some n) None) ≡ b
some_by true n = refl
some_by false n = refl

-- somebody has a name exactly where there is a place of it
pub any_by_place : (who : List ℕ) (people : List Person) → is_some (position (λ (person : Person). bytes_eq who person.name) people) ≡ list_any (bytes_eq who) (map (λ (person : Person). person.name) people)
any_by_place who people =
    some_by _ (position_or_len (λ (person : Person). bytes_eq who person.name) people)
    ∙ (any_first (λ (person : Person). bytes_eq who person.name) people ∙ any_map (bytes_eq who) (λ (person : Person). person.name) people)

-- somebody who has a place is there
pub any_there : (who : List ℕ) (people : List Person) (place : ℕ) → position (λ (person : Person). bytes_eq who person.name) people ≡ Some place → true ≡ list_any (bytes_eq who) (map (λ (person : Person). person.name) people)
any_there who people place e = sym (ap (λ (o : Option ℕ). is_some o) e) ∙ any_by_place who people

-- somebody who has none is not
pub any_nowhere : (who : List ℕ) (people : List Person) → position (λ (person : Person). bytes_eq who person.name) people ≡ None → false ≡ list_any (bytes_eq who) (map (λ (person : Person). person.name) people)
any_nowhere who people e = sym (ap (λ (o : Option ℕ). is_some o) e) ∙ any_by_place who people
