-- Places put into an ordered list, one by one.
use Rattle.std.proofs.Common.{◌≡◌, ◌≢◌, ℕ, ◌+◌, ◌-◌, ◌<◌, ◌≤◌, ◌==◌, ◌||◌, Bool, true, false, cond, List, [], ◌∷◌, ◌++◌, Option, Some, None, zero, suc, length, filter, slice_get, nat_lt, bytes_eq, refl, sym, ◌∙◌, ap, subst, arith, inl, inr}
use Rattle.std.specs.List.{list_any, range_with_len, position_from}
use Rattle.std.specs.Option.{option_map_or}
use Rattle.std.specs.declared.cmp.Ordering.TheVariants.{Less, Equal, Greater}
use Rattle.std.specs.Ordering.{nat_cmp, match_ordering, is_eq}
use Rattle.std.specs.BTreeSet.{insert_key}
use Rattle.std.proofs.lemmas.Bool.{lt-ltb, le-ltb, ne_eqb, eq-eqb, cases_eq}
use Rattle.std.proofs.lemmas.List.Folds.{list_any-append}
use Rattle.std.proofs.lemmas.Option.{same_Some}
use Rattle.conf_model.specs.ConfFaults.{is_among, stands_twice}
use Rattle.conf_model.specs.ConfOf.{places_of}
use Rattle.annotation_conf.specs.BuildPlaces.{place_in, inserted}
use Rattle.annotation_conf.proofs.SoundNames.{same_bytes, bytes_same}

pub cmp_less : (a b : ℕ) → a < b → nat_cmp a b ≡ Less
cmp_less a b h = ap (λ t. cond t Less (cond (a == b) Equal Greater)) (lt-ltb a b h)

pub cmp_same : (a b : ℕ) → a ≡ b → nat_cmp a b ≡ Equal
cmp_same a b h = ap (λ t. cond t Less (cond (a == b) Equal Greater)) (le-ltb a b (omega arith)) ∙ ap (λ t. cond t Equal Greater) (eq-eqb a b h)

pub cmp_more : (a b : ℕ) → b < a → nat_cmp a b ≡ Greater
cmp_more a b h = ap (λ t. cond t Less (cond (a == b) Equal Greater)) (le-ltb a b (omega arith)) ∙ ap (λ t. cond t Equal Greater) (ne_eqb a b (λ e. absurd (omega (arith, e))))

apart_step : (t : Bool) → is_eq (cond t Less Greater) ≡ false
apart_step true = refl
apart_step false = refl

pub nat_apart : (a b : ℕ) → (a ≡ b → ⊥) → is_eq (nat_cmp a b) ≡ false
nat_apart a b apart =
    ap (λ t. is_eq (cond (nat_lt a b) Less (cond t Equal Greater))) (ne_eqb a b apart) ∙ apart_step (nat_lt a b)

-- tests that agree on a range
filter_same : (t u : ℕ → Bool) (a n : ℕ) → ((q : ℕ) → a ≤ q → q < a + n → t q ≡ u q) → filter t (range_with_len a n) ≡ filter u (range_with_len a n)
filter_same t u a zero same = refl
filter_same t u a (suc n) same =
    ap (λ b. cond b (a ∷ filter t (range_with_len (a + 1) n)) (filter t (range_with_len (a + 1) n))) (same a (omega arith) (omega arith))
    ∙ ap (λ xs. cond (u a) (a ∷ xs) xs) (filter_same t u (a + 1) n (λ q lo hi. same q (omega arith) (omega arith)))

-- a place before all others
insert_front : (t : ℕ → Bool) (p a n : ℕ) → p < a → insert_key nat_cmp (filter t (range_with_len a n)) p ≡ p ∷ filter t (range_with_len a n)
insert_front t p a zero less = refl
insert_front t p a (suc n) less =
    let rest : List ℕ = filter t (range_with_len (a + 1) n) in
    elim (t a) as (λ b. insert_key nat_cmp (cond b (a ∷ filter t (range_with_len (a + 1) n)) (filter t (range_with_len (a + 1) n))) p ≡ p ∷ cond b (a ∷ filter t (range_with_len (a + 1) n)) (filter t (range_with_len (a + 1) n))) [
      | true ↦ ap (λ o. match_ordering o (p ∷ a ∷ rest) (a ∷ rest) (a ∷ insert_key nat_cmp rest p)) (cmp_less p a less)
      | false ↦ insert_front t p (a + 1) n (omega arith)
    ]

or_false : (b : Bool) → (b || false) ≡ b
or_false true = refl
or_false false = refl

or_true : (b : Bool) → (b || true) ≡ true
or_true true = refl
or_true false = refl

or_assoc : (a b c : Bool) → (a || (b || c)) ≡ ((a || b) || c)
or_assoc true b c = refl
or_assoc false b c = refl

-- one place more
insert_here : (t : ℕ → Bool) (p n : ℕ)
    → (b : Bool) → t p ≡ b → insert_key nat_cmp (cond b (p ∷ filter t (range_with_len (p + 1) n)) (filter t (range_with_len (p + 1) n))) p
    ≡ p ∷ filter (λ q. t q || q == p) (range_with_len (p + 1) n)
insert_here t p n true e =
    let rest : List ℕ = filter t (range_with_len (p + 1) n) in
    ap (λ o. match_ordering o (p ∷ p ∷ rest) (p ∷ rest) (p ∷ insert_key nat_cmp rest p)) (cmp_same p p refl)
    ∙ ap (λ xs. p ∷ xs) (filter_same t (λ q. t q || q == p) (p + 1) n (λ q lo hi. sym (ap (λ b. t q || b) (ne_eqb q p (λ s. absurd (omega (arith, s)))) ∙ or_false (t q))))
insert_here t p n false e =
    insert_front t p (p + 1) n (omega arith)
    ∙ ap (λ xs. p ∷ xs) (filter_same t (λ q. t q || q == p) (p + 1) n (λ q lo hi. sym (ap (λ b. t q || b) (ne_eqb q p (λ s. absurd (omega (arith, s)))) ∙ or_false (t q))))

insert_place : (t : ℕ → Bool) (p a n : ℕ) → a ≤ p → p < a + n
    → insert_key nat_cmp (filter t (range_with_len a n)) p ≡ filter (λ q. t q || q == p) (range_with_len a n)
insert_place t p a zero lo hi = absurd (omega arith)
insert_place t p a (suc n) lo hi =
    let rest : List ℕ = filter t (range_with_len (a + 1) n) in
    elim (cases_eq p a) [
      | inl same ↦
          let P : ℕ → Type 0 = λ k. insert_key nat_cmp (filter t (range_with_len k (suc n))) p ≡ filter (λ q. t q || q == p) (range_with_len k (suc n)) in
          subst P same
          (insert_here t p n (t p) refl
          ∙ sym (ap (λ b. cond b (p ∷ filter (λ q. t q || q == p) (range_with_len (p + 1) n)) (filter (λ q. t q || q == p) (range_with_len (p + 1) n)))
          (ap (λ b. t p || b) (eq-eqb p p refl) ∙ or_true (t p))))
      | inr apart ↦
          let more : insert_key nat_cmp rest p ≡ filter (λ q. t q || q == p) (range_with_len (a + 1) n) = insert_place t p (a + 1) n (omega (arith, apart)) (omega arith) in
          let here : (t a || a == p) ≡ t a = ap (λ b. t a || b) (ne_eqb a p (λ s. absurd (apart (sym s)))) ∙ or_false (t a) in
          (elim (t a) as (λ b. insert_key nat_cmp (cond b (a ∷ filter t (range_with_len (a + 1) n)) (filter t (range_with_len (a + 1) n))) p
          ≡ cond b (a ∷ filter (λ q. t q || q == p) (range_with_len (a + 1) n)) (filter (λ q. t q || q == p) (range_with_len (a + 1) n))) [
            | true ↦ ap (λ o. match_ordering o (p ∷ a ∷ rest) (a ∷ rest) (a ∷ insert_key nat_cmp rest p)) (cmp_more p a (omega (arith, apart))) ∙ ap (λ xs. a ∷ xs) more
            | false ↦ more
          ])
          ∙ ap (λ b. cond b (a ∷ filter (λ q. t q || q == p) (range_with_len (a + 1) n)) (filter (λ q. t q || q == p) (range_with_len (a + 1) n))) (sym here)
    ]

-- each place of a list is below a number
abbrev pub AllBelow : ℕ → List ℕ → Type 0
AllBelow n [] = Unit {0}
AllBelow n (p ∷ ps) = (p < n) × AllBelow n ps

inserted_filter : (t : ℕ → Bool) (n : ℕ) (ps : List ℕ) → AllBelow n ps
    → inserted (filter t (range_with_len 0 n)) ps ≡ filter (λ q. t q || list_any (λ p. q == p) ps) (range_with_len 0 n)
inserted_filter t n [] below = filter_same t (λ q. t q || false) 0 n (λ q lo hi. sym (or_false (t q)))
inserted_filter t n (p ∷ ps) below =
    ap (λ xs. inserted xs ps) (insert_place t p 0 n (omega arith) (omega (arith, below.0)))
    ∙ inserted_filter (λ q. t q || q == p) n ps below.1
    ∙ filter_same (λ q. (t q || q == p) || list_any (λ r. q == r) ps) (λ q. t q || (q == p || list_any (λ r. q == r) ps)) 0 n
    (λ q lo hi. sym (or_assoc (t q) (q == p) (list_any (λ r. q == r) ps)))

filter_below : (h : ℕ → Bool) (a n m : ℕ) → a + n ≤ m → AllBelow m (filter h (range_with_len a n))
filter_below h a zero m le = tt
filter_below h a (suc n) m le =
    elim (h a) as (λ b. AllBelow m (cond b (a ∷ filter h (range_with_len (a + 1) n)) (filter h (range_with_len (a + 1) n)))) [
      | true ↦ (omega arith, filter_below h (a + 1) n m (omega arith))
      | false ↦ filter_below h (a + 1) n m (omega arith)
    ]

-- a place among those that pass
any_before : (h : ℕ → Bool) (q a n : ℕ) → q < a → list_any (λ p. q == p) (filter h (range_with_len a n)) ≡ false
any_before h q a zero less = refl
any_before h q a (suc n) less =
    elim (h a) as (λ b. list_any (λ p. q == p) (cond b (a ∷ filter h (range_with_len (a + 1) n)) (filter h (range_with_len (a + 1) n))) ≡ false) [
      | true ↦ ap (λ b. b || list_any (λ p. q == p) (filter h (range_with_len (a + 1) n))) (ne_eqb q a (λ s. absurd (omega (arith, s)))) ∙ any_before h q (a + 1) n (omega arith)
      | false ↦ any_before h q (a + 1) n (omega arith)
    ]

any_here : (h : ℕ → Bool) (a n : ℕ) (b : Bool) → list_any (λ p. a == p) (cond b (a ∷ filter h (range_with_len (a + 1) n)) (filter h (range_with_len (a + 1) n))) ≡ b
any_here h a n true = ap (λ c. c || list_any (λ p. a == p) (filter h (range_with_len (a + 1) n))) (eq-eqb a a refl)
any_here h a n false = any_before h a (a + 1) n (omega arith)

any_filter : (h : ℕ → Bool) (q a n : ℕ) → a ≤ q → q < a + n → list_any (λ p. q == p) (filter h (range_with_len a n)) ≡ h q
any_filter h q a zero lo hi = absurd (omega arith)
any_filter h q a (suc n) lo hi =
    elim (cases_eq q a) [
      | inl same ↦
          let P : ℕ → Type 0 = λ k. list_any (λ p. k == p) (filter h (range_with_len a (suc n))) ≡ h k in
          subst P (sym same) (any_here h a n (h a))
      | inr apart ↦
          let more : list_any (λ p. q == p) (filter h (range_with_len (a + 1) n)) ≡ h q = any_filter h q (a + 1) n (omega (arith, apart)) (omega arith) in
          elim (h a) as (λ b. list_any (λ p. q == p) (cond b (a ∷ filter h (range_with_len (a + 1) n)) (filter h (range_with_len (a + 1) n))) ≡ h q) [
            | true ↦ ap (λ b. b || list_any (λ p. q == p) (filter h (range_with_len (a + 1) n))) (ne_eqb q a apart) ∙ more
            | false ↦ more
          ]
    ]

-- whether the name of a place is among some
abbrev has : List (List ℕ) → List (List ℕ) → ℕ → Bool
has held names place = option_map_or (is_among held) (slice_get names place) false

has_step : (a b : List (List ℕ)) (o : Option (List ℕ)) → option_map_or (is_among (a ++ b)) o false ≡ (option_map_or (is_among a) o false || option_map_or (is_among b) o false)
has_step a b None = refl
has_step a b (Some name) = list_any-append (bytes_eq name) a b

has_either : (a b names : List (List ℕ)) (place : ℕ) → has (a ++ b) names place ≡ (has a names place || has b names place)
has_either a b names place = has_step a b (slice_get names place)

-- the places of one list of names put into those of another
pub places_join : (a b names : List (List ℕ)) → inserted (places_of a names) (places_of b names) ≡ places_of (a ++ b) names
places_join a b names =
    inserted_filter (has a names) (length names) (places_of b names) (filter_below (has b names) 0 (length names) (length names) (omega arith))
    ∙ filter_same (λ q. has a names q || list_any (λ p. q == p) (places_of b names)) (has (a ++ b) names) 0 (length names)
    (λ q lo hi. ap (λ c. has a names q || c) (any_filter (has b names) q 0 (length names) lo hi) ∙ sym (has_either a b names q))

nothing_passes : (t : ℕ → Bool) (a n : ℕ) → ((q : ℕ) → t q ≡ false) → filter t (range_with_len a n) ≡ []
nothing_passes t a zero none = refl
nothing_passes t a (suc n) none = ap (λ b. cond b (a ∷ filter t (range_with_len (a + 1) n)) (filter t (range_with_len (a + 1) n))) (none a) ∙ nothing_passes t (a + 1) n none

nothing_after : (t : ℕ → Bool) (a n : ℕ) → ((q : ℕ) → a ≤ q → t q ≡ false) → filter t (range_with_len a n) ≡ []
nothing_after t a zero none = refl
nothing_after t a (suc n) none =
    ap (λ b. cond b (a ∷ filter t (range_with_len (a + 1) n)) (filter t (range_with_len (a + 1) n))) (none a (omega arith)) ∙ nothing_after t (a + 1) n (λ q le. none q (omega arith))

none_step : (o : Option (List ℕ)) → option_map_or (is_among []) o false ≡ false
none_step None = refl
none_step (Some name) = refl

or_left : (a b : Bool) → (a || b) ≡ false → a ≡ false
or_left true b e = e
or_left false b e = refl

or_right : (a b : Bool) → (a || b) ≡ false → b ≡ false
or_right true b e = absurd (cc)
or_right false b e = e

pub places_of_none : (names : List (List ℕ)) → places_of [] names ≡ []
places_of_none names = nothing_passes (has [] names) 0 (length names) (λ q. none_step (slice_get names q))

-- the place of one name
filter_one : (t : ℕ → Bool) (p a n : ℕ) → a ≤ p → p < a + n → t p ≡ true → ((q : ℕ) → q ≢ p → t q ≡ false) → filter t (range_with_len a n) ≡ p ∷ []
filter_one t p a zero lo hi here other = absurd (omega arith)
filter_one t p a (suc n) lo hi here other =
    elim (cases_eq p a) [
      | inl same ↦
          let Q : ℕ → Type 0 = λ k. filter t (range_with_len k (suc n)) ≡ p ∷ [] in
          subst Q same
          (ap (λ b. cond b (p ∷ filter t (range_with_len (p + 1) n)) (filter t (range_with_len (p + 1) n))) here
          ∙ ap (λ xs. p ∷ xs) (nothing_after t (p + 1) n (λ q le. other q (λ s. absurd (omega (arith, s))))))
      | inr apart ↦
          ap (λ b. cond b (a ∷ filter t (range_with_len (a + 1) n)) (filter t (range_with_len (a + 1) n))) (other a (λ s. absurd (apart (sym s))))
          ∙ filter_one t p (a + 1) n (omega (arith, apart)) (omega arith) here other
    ]

-- names that differ stand at one place each
twice_no : (x : List ℕ) (names : List (List ℕ)) (j : ℕ) → is_among names x ≡ false → slice_get names j ≡ Some x → ⊥
twice_no x [] j none found = absurd (let e : ◌≡◌ {A = Option (List ℕ)} None (Some x) = found in cc)
twice_no x (y ∷ names) zero none found =
    let same : y ≡ x = same_Some y x found in
    let yes : bytes_eq x y ≡ true = bytes_same x y (sym same) in
    absurd (let e : true ≡ false = sym (ap (λ b. b || is_among names x) yes) ∙ none in cc)
twice_no x (y ∷ names) (suc j) none found = twice_no x names j (or_right (bytes_eq x y) (is_among names x) none) found

pub one_place : (names : List (List ℕ)) (x : List ℕ) (i j : ℕ) → stands_twice names ≡ false → slice_get names i ≡ Some x → slice_get names j ≡ Some x → i ≡ j
one_place [] x i j once p q = absurd (let e : ◌≡◌ {A = Option (List ℕ)} None (Some x) = p in cc)
one_place (y ∷ names) x zero zero once p q = refl
one_place (y ∷ names) x zero (suc j) once p q =
    let same : y ≡ x = same_Some y x p in
    absurd (twice_no y names j (or_left (is_among names y) (stands_twice names) once) (q ∙ ap Some (sym same)))
one_place (y ∷ names) x (suc i) zero once p q =
    let same : y ≡ x = same_Some y x q in
    absurd (twice_no y names i (or_left (is_among names y) (stands_twice names) once) (p ∙ ap Some (sym same)))
one_place (y ∷ names) x (suc i) (suc j) once p q = ap suc (one_place names x i j (or_right (is_among names y) (stands_twice names) once) p q)

-- where a name is found, it stands
pub record StandsIn (names : List (List ℕ)) (i place : ℕ) (name : List ℕ) : Type 0 where
  pub from : i ≤ place
  pub within : place < i + length names
  pub stands : slice_get names (place - i) ≡ Some name

stands_step : (x : List ℕ) (names : List (List ℕ)) (i place : ℕ) (name : List ℕ)
    → (position_from (λ one. bytes_eq one name) (i + 1) names ≡ Some place → StandsIn names (i + 1) place name)
    → (b : Bool) → bytes_eq x name ≡ b → cond b (Some i) (position_from (λ one. bytes_eq one name) (i + 1) names) ≡ Some place → StandsIn (x ∷ names) i place name
stands_step x names i place name rest true is found =
    let here : i ≡ place = same_Some i place found in
    let zero_there : place - i ≡ 0 = omega arith in
    record { from = omega arith; within = omega arith; stands = ap (slice_get (x ∷ names)) zero_there ∙ ap Some (same_bytes x name is) }
stands_step x names i place name rest false is found =
    let there : StandsIn names (i + 1) place name = rest found in
    let next : place - i ≡ suc (place - (i + 1)) = omega (arith, there.from) in
    record { from = omega (arith, there.from); within = omega (arith, there.within); stands = ap (slice_get (x ∷ names)) next ∙ there.stands }

pub stands_in : (names : List (List ℕ)) (i place : ℕ) (name : List ℕ) → position_from (λ one. bytes_eq one name) i names ≡ Some place → StandsIn names i place name
stands_in [] i place name found = cc
stands_in (x ∷ names) i place name found = stands_step x names i place name (stands_in names (i + 1) place name) (bytes_eq x name) refl found

one_step : (name x : List ℕ) (b : Bool) → bytes_eq x name ≡ b → (x ≡ name → ⊥) → (b || false) ≡ false
one_step name x true is apart = absurd (apart (same_bytes x name is))
one_step name x false is apart = refl

other_step : (names : List (List ℕ)) (name : List ℕ) (place q : ℕ) → stands_twice names ≡ false → slice_get names place ≡ Some name → q ≢ place
    → (o : Option (List ℕ)) → slice_get names q ≡ o → option_map_or (is_among (name ∷ [])) o false ≡ false
other_step names name place q once stands apart None is = refl
other_step names name place q once stands apart (Some x) is =
    one_step name x (bytes_eq x name) refl (λ same. absurd (apart (one_place names name q place once (is ∙ ap Some same) stands)))

pub place_of_one : (names : List (List ℕ)) (name : List ℕ) (place : ℕ) → stands_twice names ≡ false → place_in names name ≡ Some place
    → places_of (name ∷ []) names ≡ place ∷ []
place_of_one names name place once found =
    let there : StandsIn names 0 place name = stands_in names 0 place name found in
    let same : place - 0 ≡ place = omega arith in
    let stands : slice_get names place ≡ Some name = ap (slice_get names) (sym same) ∙ there.stands in
    filter_one (has (name ∷ []) names) place 0 (length names) (omega arith) (omega (arith, there.within))
    (ap (λ o. option_map_or (is_among (name ∷ [])) o false) stands ∙ ap (λ b. b || false) (bytes_same name name refl))
    (λ q apart. other_step names name place q once stands apart (slice_get names q) refl)

absent_step : (x : List ℕ) (names : List (List ℕ)) (i : ℕ) (name : List ℕ) (b : Bool) → bytes_eq x name ≡ b → cond b (Some i) (position_from (λ one. bytes_eq one name) (i + 1) names) ≡ None
    → (bytes_eq x name ≡ false) × (position_from (λ one. bytes_eq one name) (i + 1) names ≡ None)
absent_step x names i name true is none = absurd (cc)
absent_step x names i name false is none = (is, none)

no_step : (names : List (List ℕ)) (i : ℕ) (name : List ℕ) → position_from (λ one. bytes_eq one name) i names ≡ None → (q : ℕ) (o : Option (List ℕ)) → slice_get names q ≡ o
    → option_map_or (is_among (name ∷ [])) o false ≡ false
no_step names i name none q None is = refl
no_step [] i name none q (Some x) is = absurd (let e : ◌≡◌ {A = Option (List ℕ)} None (Some x) = is in cc)
no_step (y ∷ names) i name none zero (Some x) is =
    let same : y ≡ x = same_Some y x is in
    let no : bytes_eq y name ≡ false = (absent_step y names i name (bytes_eq y name) refl none).0 in
    ap (λ z. bytes_eq z name || false) (sym same) ∙ ap (λ b. b || false) no
no_step (y ∷ names) i name none (suc q) (Some x) is =
    no_step names (i + 1) name (absent_step y names i name (bytes_eq y name) refl none).1 q (Some x) is

pub place_of_no : (names : List (List ℕ)) (name : List ℕ) → place_in names name ≡ None → places_of (name ∷ []) names ≡ []
place_of_no names name none = nothing_passes (has (name ∷ []) names) 0 (length names) (λ q. no_step names 0 name none q (slice_get names q) refl)
