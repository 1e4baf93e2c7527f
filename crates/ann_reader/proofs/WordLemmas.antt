-- The words of a field, one at a time.
use Rattle.std.proofs.Common.{◌≡◌, ℕ, ◌+◌, ◌-◌, ◌<◌, ◌≤◌, ◌==◌, ◌&&◌, ◌||◌, inl, inr, zero, suc, Bool, true, false, not, cond, List, [], ◌∷◌, length, take, drop, filter, get_or, refl, sym, ◌∙◌, ap, subst, Some, None, ne_eqb, nat_lt, arith}
use Rattle.std.specs.List.{slice_split, onto_first, position_or_len, prefix_len, before_first, after_first}
use Rattle.std.specs.Str.{all_ascii_digits}
use Rattle.std.specs.Char.{is_ascii_digit}
use Rattle.std.specs.Str.Parse.{digits_value}
use Rattle.std.proofs.lemmas.Bool.{cases_lt, eqb-true, false≢true}
use Rattle.std.proofs.lemmas.List.Splits.{slice_split-cons_yes, slice_split-cons_no, slice_split_none, slice_split_first}
use Rattle.std.proofs.lemmas.List.Sums.{fails_before_first, prefix_len-le-length}
use Rattle.mark_base.specs.AnnIds.{number_read}
use Rattle.ann_reader.specs.Words.{is_space, is_padded, is_some_word, words_of, frag_of, frag_read}

-- ---- the words that spaces separate

-- what spaces separate and is not empty
abbrev pub parts : List ℕ → List (List ℕ)
parts xs = filter is_some_word (slice_split is_space xs)

pub words_are : (xs : List ℕ) → is_padded xs ≡ false → words_of xs ≡ parts xs
words_are xs h = ap (λ b. cond b [] (parts xs)) h

pub no_words : (xs : List ℕ) → is_padded xs ≡ true → words_of xs ≡ []
no_words xs h = ap (λ b. cond b [] (parts xs)) h

some_word : (x : ℕ) (xs : List ℕ) → is_some_word (x ∷ xs) ≡ true
some_word x xs = ap not (ne_eqb (length (x ∷ xs)) 0 (λ e. omega arith))

some_front : (k x : ℕ) (xs : List ℕ) → 0 < k → is_some_word (take k (x ∷ xs)) ≡ true
some_front zero x xs h = absurd (omega arith)
some_front (suc k) x xs h = some_word x (take k xs)

-- a word stands before the first space
pub word_first : (x : ℕ) (xs : List ℕ) → is_space x ≡ false → position_or_len is_space (x ∷ xs) < length (x ∷ xs)
    → parts (x ∷ xs) ≡ before_first is_space (x ∷ xs) ∷ parts (after_first is_space (x ∷ xs))
word_first x xs plain h =
    let at : position_or_len is_space (x ∷ xs) ≡ 1 + prefix_len (λ b. not (is_space b)) xs = ap (λ b. cond (not b) (1 + prefix_len (λ b. not (is_space b)) xs) 0) plain in
    let some : is_some_word (before_first is_space (x ∷ xs)) ≡ true = some_front (position_or_len is_space (x ∷ xs)) x xs (omega arith) in
    ap (filter is_some_word) (slice_split_first is_space (x ∷ xs) 0 h)
    ∙ ap (λ b. cond b (before_first is_space (x ∷ xs) ∷ parts (after_first is_space (x ∷ xs))) (parts (after_first is_space (x ∷ xs)))) some

-- no space, one word
pub word_alone : (x : ℕ) (xs : List ℕ) → position_or_len is_space (x ∷ xs) ≡ length (x ∷ xs) → parts (x ∷ xs) ≡ (x ∷ xs) ∷ []
word_alone x xs h =
    ap (filter is_some_word) (slice_split_none is_space (x ∷ xs) (λ k d below. fails_before_first is_space (x ∷ xs) k d (omega arith)))
    ∙ ap (λ b. cond b ((x ∷ xs) ∷ []) []) (some_word x xs)

-- the spaces at the start make no word
pub spaces_first : (xs : List ℕ) → parts (drop (prefix_len is_space xs) xs) ≡ parts xs
spaces_first [] = refl
spaces_first (x ∷ xs) =
    let n : ℕ = prefix_len is_space xs in
    let P : Bool → Type 0 = λ b. is_space x ≡ b → parts (drop (cond b (1 + n) 0) (x ∷ xs)) ≡ parts (x ∷ xs) in
    let next : 1 + n ≡ suc n = omega arith in
    let cases : P (is_space x) = elim (is_space x) as P [
      | true ↦ λ t. ap (λ k. parts (drop k (x ∷ xs))) next ∙ spaces_first xs ∙ sym (ap (filter is_some_word) (slice_split-cons_yes is_space x xs t))
      | false ↦ λ t. refl
    ] in cases refl

-- no space stands behind them
pub no_space_first : (xs : List ℕ) (y : ℕ) (ys : List ℕ) → drop (prefix_len is_space xs) xs ≡ y ∷ ys → is_space y ≡ false
no_space_first [] y ys e = let lost : [] ≡ y ∷ ys = e in cc
no_space_first (x ∷ xs) y ys e =
    let n : ℕ = prefix_len is_space xs in
    let P : Bool → Type 0 = λ b. is_space x ≡ b → drop (cond b (1 + n) 0) (x ∷ xs) ≡ y ∷ ys → is_space y ≡ false in
    let next : suc n ≡ 1 + n = omega arith in
    let cases : P (is_space x) = elim (is_space x) as P [
      | true ↦ λ t h. no_space_first xs y ys (ap (λ k. drop k (x ∷ xs)) next ∙ h)
      | false ↦ λ t h. let same : y ≡ x = cc in ap is_space same ∙ t
    ] in cases refl e

-- ---- the last byte

-- a space stands at the end
abbrev ends : List ℕ → Bool
ends [] = false
ends (x ∷ []) = is_space x
ends (x ∷ y ∷ ys) = ends (y ∷ ys)

ends_is : (xs : List ℕ) → ends xs ≡ (get_or xs (length xs - 1) 0 == 32)
ends_is [] = refl
ends_is (x ∷ []) = refl
ends_is (x ∷ y ∷ ys) =
    let last : suc (length (y ∷ ys) - 1) ≡ length (x ∷ y ∷ ys) - 1 = omega arith in
    ends_is (y ∷ ys) ∙ ap (λ k. get_or (x ∷ y ∷ ys) k 0 == 32) last

ends_behind : (x : ℕ) (xs : List ℕ) → ends (x ∷ xs) ≡ false → ends xs ≡ false
ends_behind x [] h = refl
ends_behind x (y ∷ ys) h = h

ends_drop : (k : ℕ) (xs : List ℕ) → ends xs ≡ false → ends (drop k xs) ≡ false
ends_drop zero xs h = h
ends_drop (suc k) [] h = refl
ends_drop (suc k) (x ∷ xs) h = ends_drop k xs (ends_behind x xs h)

-- some word is there
abbrev HasWord : List ℕ → Type 0
HasWord xs = (w : List ℕ) × (ws : List (List ℕ)) × (parts xs ≡ w ∷ ws)

onto_some : (x : ℕ) (all : List (List ℕ)) → (w : List ℕ) × (ws : List (List ℕ)) × (filter is_some_word (onto_first x all) ≡ w ∷ ws)
onto_some x [] = (x ∷ [], [], ap (λ b. cond b ((x ∷ []) ∷ []) []) (some_word x []))
onto_some x (part ∷ more) = (x ∷ part, filter is_some_word more, ap (λ b. cond b ((x ∷ part) ∷ filter is_some_word more) (filter is_some_word more)) (some_word x part))

word_left : (x : ℕ) (xs : List ℕ) → ends (x ∷ xs) ≡ false → HasWord (x ∷ xs)
word_left x [] h =
    let r : (w : List ℕ) × (ws : List (List ℕ)) × (filter is_some_word (onto_first x (slice_split is_space [])) ≡ w ∷ ws) = onto_some x (slice_split is_space []) in
    (r.0, r.1, ap (filter is_some_word) (slice_split-cons_no is_space x [] h) ∙ r.2)
word_left x (y ∷ ys) h =
    let P : Bool → Type 0 = λ b. is_space x ≡ b → HasWord (x ∷ y ∷ ys) in
    let cases : P (is_space x) = elim (is_space x) as P [
      | true ↦ λ t.
          let r : HasWord (y ∷ ys) = word_left y ys h in
          (r.0, r.1, ap (filter is_some_word) (slice_split-cons_yes is_space x (y ∷ ys) t) ∙ r.2)
      | false ↦ λ t.
          let r : (w : List ℕ) × (ws : List (List ℕ)) × (filter is_some_word (onto_first x (slice_split is_space (y ∷ ys))) ≡ w ∷ ws) = onto_some x (slice_split is_space (y ∷ ys)) in
          (r.0, r.1, ap (filter is_some_word) (slice_split-cons_no is_space x (y ∷ ys) t) ∙ r.2)
    ] in cases refl

-- a word stands behind each space, where none is at the end
word_behind : (xs : List ℕ) → position_or_len is_space xs < length xs → ends xs ≡ false → HasWord (after_first is_space xs)
word_behind [] h e = absurd (omega arith)
word_behind (x ∷ []) h e =
    let at : position_or_len is_space (x ∷ []) ≡ 1 + 0 = ap (λ b. cond (not b) (1 + 0) 0) e in
    absurd (omega arith)
word_behind (x ∷ y ∷ ys) h e =
    let n : ℕ = position_or_len is_space (y ∷ ys) in
    let P : Bool → Type 0 = λ b. is_space x ≡ b → HasWord (after_first is_space (x ∷ y ∷ ys)) in
    let cases : P (is_space x) = elim (is_space x) as P [
      | true ↦ λ t.
          let at : position_or_len is_space (x ∷ y ∷ ys) ≡ 0 = ap (λ b. cond (not b) (1 + n) 0) t in
          let same : y ∷ ys ≡ after_first is_space (x ∷ y ∷ ys) = sym (ap (λ k. drop (k + 1) (x ∷ y ∷ ys)) at) in
          subst HasWord same (word_left y ys e)
      | false ↦ λ t.
          let at : position_or_len is_space (x ∷ y ∷ ys) ≡ 1 + n = ap (λ b. cond (not b) (1 + n) 0) t in
          let next : suc (n + 1) ≡ position_or_len is_space (x ∷ y ∷ ys) + 1 = omega arith in
          let below : n < length (y ∷ ys) = omega arith in
          subst HasWord (ap (λ k. drop k (x ∷ y ∷ ys)) next) (word_behind (y ∷ ys) below e)
    ] in cases refl

-- ---- a fragment

padded_ends : (xs : List ℕ) → is_padded xs ≡ false → ends xs ≡ false
padded_ends xs h =
    let P : Bool → Type 0 = λ b. (b || get_or xs (length xs - 1) 0 == 32) ≡ false → (get_or xs (length xs - 1) 0 == 32) ≡ false in
    let cases : P (get_or xs 0 0 == 32) = elim (get_or xs 0 0 == 32) as P [ true ↦ λ t. absurd (false≢true (sym t)) | false ↦ λ t. t ] in
    ends_is xs ∙ cases h

pub padded_first : (x : ℕ) (xs : List ℕ) → is_padded (x ∷ xs) ≡ false → is_space x ≡ false
padded_first x xs h =
    let P : Bool → Type 0 = λ b. (b || get_or (x ∷ xs) (length (x ∷ xs) - 1) 0 == 32) ≡ false → b ≡ false in
    let cases : P (is_space x) = elim (is_space x) as P [ true ↦ λ t. absurd (false≢true (sym t)) | false ↦ λ t. refl ] in
    cases h

-- digits are no spaces
no_digits : (xs : List ℕ) → position_or_len is_space xs < length xs → all_ascii_digits xs ≡ false
no_digits [] h = absurd (omega arith)
no_digits (x ∷ xs) h =
    let n : ℕ = position_or_len is_space xs in
    let P : Bool → Type 0 = λ b. is_space x ≡ b → all_ascii_digits (x ∷ xs) ≡ false in
    let cases : P (is_space x) = elim (is_space x) as P [
      | true ↦ λ t. ap (λ c. is_ascii_digit c && all_ascii_digits xs) (eqb-true x 32 t)
      | false ↦ λ t.
          let at : position_or_len is_space (x ∷ xs) ≡ 1 + n = ap (λ b. cond (not b) (1 + n) 0) t in
          let below : n < length xs = omega arith in
          let barred : (a : Bool) → (a && false) ≡ false = λ a. elim a as (λ y. (y && false) ≡ false) [ true ↦ refl | false ↦ refl ] in
          ap (λ b. is_ascii_digit x && b) (no_digits xs below) ∙ barred (is_ascii_digit x)
    ] in cases refl

-- a number has no space
no_number : (xs : List ℕ) → position_or_len is_space xs < length xs → number_read xs ≡ None
no_number xs h =
    let one : Bool = length xs == 1 || not (get_or xs 0 0 == 48) in
    let barred : (a b d : Bool) → (a && b && false && d) ≡ false = λ a b d. elim a as (λ x. (x && b && false && d) ≡ false) [ true ↦ elim b as (λ y. (true && y && false && d) ≡ false) [ true ↦ refl | false ↦ refl ] | false ↦ refl ] in
    ap (λ b. cond (nat_lt 0 (length xs) && nat_lt (length xs) 10 && b && one) (Some (digits_value 10 xs)) None) (no_digits xs h)
    ∙ ap (λ b. cond b (Some (digits_value 10 xs)) None) (barred (nat_lt 0 (length xs)) (nat_lt (length xs) 10) one)

-- of a start and what stands behind it and the spaces
frag_behind : (b rest : List ℕ) → ends rest ≡ false → ((y : ℕ) (ys : List ℕ) → rest ≡ y ∷ ys → is_space y ≡ false)
    → frag_of (number_read b) (number_read rest) ≡ frag_read (b ∷ parts rest)
frag_behind b [] e plain = elim (number_read b) as (λ o. frag_of o None ≡ None) [ None ↦ refl | Some n ↦ refl ]
frag_behind b (y ∷ ys) e plain = elim (cases_lt (position_or_len is_space (y ∷ ys)) (length (y ∷ ys))) [
  | inl less ↦
      let w : HasWord (after_first is_space (y ∷ ys)) = word_behind (y ∷ ys) less e in
      let none : frag_of (number_read b) None ≡ None = elim (number_read b) as (λ o. frag_of o None ≡ None) [ None ↦ refl | Some n ↦ refl ] in
      ap (frag_of (number_read b)) (no_number (y ∷ ys) less) ∙ none
      ∙ sym (ap (λ ws. frag_read (b ∷ ws)) (word_first y ys (plain y ys refl) less) ∙ ap (λ ws. frag_read (b ∷ before_first is_space (y ∷ ys) ∷ ws)) w.2)
  | inr all ↦
      let most : position_or_len is_space (y ∷ ys) ≤ length (y ∷ ys) = prefix_len-le-length (λ b. not (is_space b)) (y ∷ ys) in
      sym (ap (λ ws. frag_read (b ∷ ws)) (word_alone y ys (omega arith)))
]

-- a piece in which a space stands
pub frag_spelt : (xs : List ℕ) → is_padded xs ≡ false → position_or_len is_space xs < length xs
    → frag_of (number_read (before_first is_space xs)) (number_read (drop (prefix_len is_space (after_first is_space xs)) (after_first is_space xs))) ≡ frag_read (words_of xs)
frag_spelt [] h below = absurd (omega arith)
frag_spelt (x ∷ xs) h below =
    let after : List ℕ = after_first is_space (x ∷ xs) in
    let rest : List ℕ = drop (prefix_len is_space after) after in
    let e : ends rest ≡ false = ends_drop (prefix_len is_space after) after (ends_drop (position_or_len is_space (x ∷ xs) + 1) (x ∷ xs) (padded_ends (x ∷ xs) h)) in
    frag_behind (before_first is_space (x ∷ xs)) rest e (λ y ys same. no_space_first after y ys same)
    ∙ ap (λ ws. frag_read (before_first is_space (x ∷ xs) ∷ ws)) (spaces_first after)
    ∙ sym (ap frag_read (words_are (x ∷ xs) h ∙ word_first x xs (padded_first x xs h) below))

-- and one in which none does
pub no_frag : (xs : List ℕ) → is_padded xs ≡ false → position_or_len is_space xs ≡ length xs → None ≡ frag_read (words_of xs)
no_frag [] h all = refl
no_frag (x ∷ xs) h all = sym (ap frag_read (words_are (x ∷ xs) h ∙ word_alone x xs all))

-- and one that is padded
pub padded_frag : (xs : List ℕ) → is_padded xs ≡ true → None ≡ frag_read (words_of xs)
padded_frag xs h = sym (ap frag_read (no_words xs h))
