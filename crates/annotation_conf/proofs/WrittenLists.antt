-- A list that is cut where an element passes a test: what stands before it, behind it, and between such elements.
use Rattle.std.proofs.Common.{◌≡◌, refl, sym, ap, ◌∙◌, ℕ, suc, ◌+◌, Bool, true, false, cond, not, ◌||◌, List, [], ◌∷◌, ◌++◌, length, take, drop, append-nil, one-add, ◌==◌, arith, take_at, drop_at}
use Rattle.std.proofs.lemmas.Bool.{cond-true, cond-false, eqb-true, false_from_ne_true, true≢false}
use Rattle.std.specs.Str.{NonePass}
use Rattle.std.specs.List.{slice_split, onto_first, position_or_len, prefix_len, before_first, after_first, list_any, join_with_byte, AllByRecursion}

-- no element of two lists in a row
pub none-append : (p : ℕ → Bool) (xs ys : List ℕ) → NonePass p xs → NonePass p ys → NonePass p (xs ++ ys)
none-append p [] ys hx hy = hy
none-append p (x ∷ xs) ys hx hy = (hx.0, none-append p xs ys hx.1 hy)

-- a test that passes no more
pub none_less : (p q : ℕ → Bool) → ((c : ℕ) → p c ≡ false → q c ≡ false) → (xs : List ℕ) → NonePass p xs → NonePass q xs
none_less p q w [] h = tt
none_less p q w (x ∷ xs) h = (w x h.0, none_less p q w xs h.1)

-- a character that fails a test is none that passes it
pub is_other : (p : ℕ → Bool) (k : ℕ) → p k ≡ true → (c : ℕ) → p c ≡ false → (c == k) ≡ false
is_other p k pass c fail = false_from_ne_true (c == k) (λ e. true≢false (sym pass ∙ ap p (sym (eqb-true c k e)) ∙ fail))

-- a list without such an element is one part
pub split_none : (p : ℕ → Bool) (xs : List ℕ) → NonePass p xs → slice_split p xs ≡ xs ∷ []
split_none p [] h = refl
split_none p (x ∷ xs) h = cond-false (p x) ([] ∷ slice_split p xs) (onto_first x (slice_split p xs)) h.0 ∙ ap (onto_first x) (split_none p xs h.1)

pub split_at : (p : ℕ → Bool) (xs : List ℕ) (y : ℕ) (ys : List ℕ) → NonePass p xs → p y ≡ true → slice_split p (xs ++ y ∷ ys) ≡ xs ∷ slice_split p ys
split_at p [] y ys h e = cond-true (p y) ([] ∷ slice_split p ys) (onto_first y (slice_split p ys)) e
split_at p (x ∷ xs) y ys h e =
    cond-false (p x) ([] ∷ slice_split p (xs ++ y ∷ ys)) (onto_first x (slice_split p (xs ++ y ∷ ys))) h.0 ∙ ap (onto_first x) (split_at p xs y ys h.1 e)

-- the place of the first such element
pub place_at : (p : ℕ → Bool) (xs : List ℕ) (y : ℕ) (ys : List ℕ) → NonePass p xs → p y ≡ true → position_or_len p (xs ++ y ∷ ys) ≡ length xs
place_at p [] y ys h e = ap (λ b. cond (not b) (1 + prefix_len (λ x. not (p x)) ys) 0) e
place_at p (x ∷ xs) y ys h e = ap (λ b. cond (not b) (1 + position_or_len p (xs ++ y ∷ ys)) 0) h.0 ∙ (one-add (position_or_len p (xs ++ y ∷ ys)) ∙ ap suc (place_at p xs y ys h.1 e))

pub place_none : (p : ℕ → Bool) (xs : List ℕ) → NonePass p xs → position_or_len p xs ≡ length xs
place_none p [] h = refl
place_none p (x ∷ xs) h = ap (λ b. cond (not b) (1 + position_or_len p xs) 0) h.0 ∙ (one-add (position_or_len p xs) ∙ ap suc (place_none p xs h.1))

-- what stands before it, from it on, and behind it
pub before_at : (p : ℕ → Bool) (xs : List ℕ) (y : ℕ) (ys : List ℕ) → NonePass p xs → p y ≡ true → before_first p (xs ++ y ∷ ys) ≡ xs
before_at p xs y ys h e = take_at xs (y ∷ ys) (position_or_len p (xs ++ y ∷ ys)) (sym (place_at p xs y ys h e))

pub from_at : (p : ℕ → Bool) (xs : List ℕ) (y : ℕ) (ys : List ℕ) → NonePass p xs → p y ≡ true → drop (position_or_len p (xs ++ y ∷ ys)) (xs ++ y ∷ ys) ≡ y ∷ ys
from_at p xs y ys h e = drop_at xs (y ∷ ys) (position_or_len p (xs ++ y ∷ ys)) (sym (place_at p xs y ys h e))

drop_behind : (xs : List ℕ) (y : ℕ) (ys : List ℕ) → drop (length xs + 1) (xs ++ y ∷ ys) ≡ ys
drop_behind [] y ys = refl
drop_behind (x ∷ xs) y ys = let e : suc (length xs) + 1 ≡ suc (length xs + 1) = omega arith in ap (λ n. drop n (x ∷ xs ++ y ∷ ys)) e ∙ drop_behind xs y ys

pub after_at : (p : ℕ → Bool) (xs : List ℕ) (y : ℕ) (ys : List ℕ) → NonePass p xs → p y ≡ true → after_first p (xs ++ y ∷ ys) ≡ ys
after_at p xs y ys h e = ap (λ n. drop (n + 1) (xs ++ y ∷ ys)) (place_at p xs y ys h e) ∙ drop_behind xs y ys

take_whole : (xs : List ℕ) → take (length xs) xs ≡ xs
take_whole [] = refl
take_whole (x ∷ xs) = ap (λ rest. x ∷ rest) (take_whole xs)

drop_whole : (xs : List ℕ) → drop (length xs) xs ≡ []
drop_whole [] = refl
drop_whole (x ∷ xs) = drop_whole xs

pub before_none : (p : ℕ → Bool) (xs : List ℕ) → NonePass p xs → before_first p xs ≡ xs
before_none p xs h = ap (λ n. take n xs) (place_none p xs h) ∙ take_whole xs

pub from_none : (p : ℕ → Bool) (xs : List ℕ) → NonePass p xs → drop (position_or_len p xs) xs ≡ []
from_none p xs h = ap (λ n. drop n xs) (place_none p xs h) ∙ drop_whole xs

-- empty, or such an element and more
abbrev pub Opens : (ℕ → Bool) → List ℕ → Type 0
Opens p [] = Unit {0}
Opens p (c ∷ cs) = p c ≡ true

-- what stands before a list that is empty or begins with such an element, and from there on
pub before_opened : (p : ℕ → Bool) (xs ys : List ℕ) → NonePass p xs → Opens p ys → before_first p (xs ++ ys) ≡ xs
before_opened p xs [] h opens = ap (before_first p) (append-nil xs) ∙ before_none p xs h
before_opened p xs (y ∷ ys) h opens = before_at p xs y ys h opens

pub from_opened : (p : ℕ → Bool) (xs ys : List ℕ) → NonePass p xs → Opens p ys → drop (position_or_len p (xs ++ ys)) (xs ++ ys) ≡ ys
from_opened p xs [] h opens = ap (λ cs. drop (position_or_len p cs) cs) (append-nil xs) ∙ from_none p xs h
from_opened p xs (y ∷ ys) h opens = from_at p xs y ys h opens

-- such an element is found
pub any_at : (p : ℕ → Bool) (xs : List ℕ) (y : ℕ) (ys : List ℕ) → p y ≡ true → list_any p (xs ++ y ∷ ys) ≡ true
any_at p [] y ys e = ap (λ b. b || list_any p ys) e
any_at p (x ∷ xs) y ys e = ap (λ b. p x || b) (any_at p xs y ys e) ∙ or_true (p x)
  where
    or_true : (b : Bool) → (b || true) ≡ true
    or_true true = refl
    or_true false = refl

-- parts that are joined by a byte that none of them holds
pub split_joined : (k : ℕ) → (k == k) ≡ true → (part : List ℕ) (parts : List (List ℕ)) → AllByRecursion (NonePass (λ c. c == k)) (part ∷ parts)
    → slice_split (λ c. c == k) (join_with_byte k (part ∷ parts)) ≡ part ∷ parts
split_joined k same part [] h = split_none (λ c. c == k) part h.0
split_joined k same part (next ∷ parts) h =
    split_at (λ c. c == k) part k (join_with_byte k (next ∷ parts)) h.0 same ∙ ap (λ rest. part ∷ rest) (split_joined k same next parts h.1)
