-- The place of a declared name, one name more, and what an earlier line declares.
use Rattle.std.proofs.Common.{◌≡◌, ℕ, ◌+◌, ◌-◌, ◌<◌, ◌≤◌, ◌||◌, ◌&&◌, Bool, true, false, cond, List, [], ◌∷◌, ◌++◌, Option, Some, None, suc, length, get_or, take, map, nat_lt, bytes_eq, is_some, zero, refl, sym, ◌∙◌, ap, arith, count_by, filter}
use Rattle.std.specs.List.{position_from}
use Rattle.std.specs.Option.{option_or}
use Rattle.std.specs.Ordering.{nat_cmp}
use Rattle.std.specs.Cmp.Lexicographic.{slice_cmp}
use Rattle.std.specs.Map.{update}
use Rattle.std.specs.BTreeMap.{BTreeMap, get_by}
use Rattle.std.proofs.lemmas.Bool.{le-ltb, ltb-false}
use Rattle.std.proofs.lemmas.Bool.Decides.{same_from_decides}
use Rattle.std.proofs.lemmas.List.{take_more, length-take-le, map-append, length-map}
use Rattle.std.specs.List.{AllWithin}
use Rattle.std.proofs.lemmas.List.Sums.{length-filter}
use Rattle.std.specs.List.Sorted.{IsNonDecreasingBy}
use Rattle.annotation_conf.specs.declared.known_names.DeclaredName.{DeclaredName}
use denote.Ref.{Bor}
use Rattle.annotation_conf.specs.NamePlaces.{seen_declared}
use Rattle.std.proofs.lemmas.Option.{same_Some}
use Rattle.std.proofs.lemmas.Slice.Eq.{bytes_eq-Decides}
use Rattle.conf_model.specs.ConfFaults.{Declared, stood_before, is_among, names_of}
use Rattle.annotation_conf.specs.FirstFaults.{IsRising}
use Rattle.annotation_conf.specs.NamePlaces.{is_called, place_among, FindsPlaces}

abbrev number : Declared → ℕ
number one = one.number

place_push : (test : Declared → Bool) (i : ℕ) (all : List Declared) (one : Declared)
    → position_from test i (all ++ one ∷ []) ≡ option_or (position_from test i all) (cond (test one) (Some (i + length all)) None)
place_push test i [] one = let none : i ≡ i + 0 = omega arith in ap (λ k. cond (test one) (Some k) None) none
place_push test i (r ∷ all) one =
    let more : i + 1 + length all ≡ i + suc (length all) = omega arith in
    elim (test r) as (λ b. cond b (Some i) (position_from test (i + 1) (all ++ one ∷ []))
    ≡ option_or (cond b (Some i) (position_from test (i + 1) all)) (cond (test one) (Some (i + suc (length all))) None)) [
      | true ↦ refl
      | false ↦ place_push test (i + 1) all one ∙ ap (λ k. option_or (position_from test (i + 1) all) (cond (test one) (Some k) None)) more
    ]

or_none : (o : Option ℕ) → option_or o None ≡ o
or_none None = refl
or_none (Some k) = refl

none_found : (o : Option ℕ) → is_some o ≡ false → o ≡ None
none_found None e = refl
none_found (Some k) e = cc

some_stays : (o p : Option ℕ) → is_some o ≡ true → option_or o p ≡ o
some_stays None p e = cc
some_stays (Some k) p e = refl

same_name : (xs ys : List ℕ) → bytes_eq xs ys ≡ true → xs ≡ ys
same_name xs ys e = (bytes_eq-Decides xs ys).0 e

pub bytes_eq_turns : (xs ys : List ℕ) → bytes_eq xs ys ≡ bytes_eq ys xs
bytes_eq_turns xs ys =
    same_from_decides (bytes_eq xs ys) (bytes_eq ys xs) (bytes_eq-Decides xs ys)
    (λ e. sym ((bytes_eq-Decides ys xs).0 e), λ e. (bytes_eq-Decides ys xs).1 (sym e))

-- a name is found exactly where it is declared
pub found_among : (i : ℕ) (all : List Declared) (name : List ℕ) → is_some (position_from (is_called name) i all) ≡ is_among (names_of all) name
found_among i [] name = refl
found_among i (one ∷ all) name =
    let turn : bytes_eq name one.name ≡ bytes_eq one.name name = bytes_eq_turns name one.name in
    ap (λ b. is_some (cond b (Some i) (position_from (is_called name) (i + 1) all))) (sym turn)
    ∙ (elim (bytes_eq name one.name) as (λ b. is_some (cond b (Some i) (position_from (is_called name) (i + 1) all)) ≡ (b || is_among (names_of all) name)) [
      | true ↦ refl
      | false ↦ found_among (i + 1) all name
    ])

choose : (b : Bool) (m f : Option ℕ) (i : ℕ) → m ≡ f → (b ≡ true → f ≡ None) → cond b (Some i) m ≡ option_or f (cond b (Some i) None)
choose true m f i e h = sym (ap (λ o. option_or o (Some i)) (h refl))
choose false m f i e h = e ∙ sym (or_none f)

abbrev pub look_up : BTreeMap (Bor (List ℕ)) ℕ → List ℕ → Option ℕ
look_up places name = get_by (λ key. slice_cmp nat_cmp name key.now) places

-- the names up to one more line
more_names : (all : List DeclaredName) (i : ℕ) (d : DeclaredName) (name : List ℕ) → i < length all
    → place_among (map seen_declared (take (i + 1) all)) name
    ≡ option_or (place_among (map seen_declared (take i all)) name) (cond (bytes_eq (get_or all i d).name.now name) (Some i) None)
more_names all i d name within =
    let size : 0 + length (map seen_declared (take i all)) ≡ i =
    omega (arith, length-map (take i all) seen_declared, length-take-le i all (omega arith)) in
    ap (λ xs. place_among (map seen_declared xs) name) (take_more all i d within)
    ∙ ap (λ xs. place_among xs name) (map-append seen_declared (take i all) (get_or all i d ∷ []))
    ∙ place_push (is_called name) 0 (map seen_declared (take i all)) (seen_declared (get_or all i d))
    ∙ ap (λ k. option_or (place_among (map seen_declared (take i all)) name) (cond (bytes_eq (get_or all i d).name.now name) (Some k) None)) size

again_step : (r name : List ℕ) (old : Option ℕ) (i : ℕ) (b : Bool) → bytes_eq r name ≡ b → (r ≡ name → is_some old ≡ true) → option_or old (cond b (Some i) None) ≡ old
again_step r name old i true e stood = some_stays old (Some i) (stood (same_name r name e))
again_step r name old i false e stood = or_none old

-- a name that stood before is not put down again
pub finds_again : (all : List DeclaredName) (places : BTreeMap (Bor (List ℕ)) ℕ) (i : ℕ) (d : DeclaredName) → i < length all
    → FindsPlaces (map seen_declared (take i all)) places → is_some (look_up places (get_or all i d).name.now) ≡ true
    → FindsPlaces (map seen_declared (take (i + 1) all)) places
finds_again all places i d within finds stood name =
    let r : List ℕ = (get_or all i d).name.now in
    let old : Option ℕ = place_among (map seen_declared (take i all)) name in
    let here : (b : Bool) → bytes_eq r name ≡ b → option_or old (cond b (Some i) None) ≡ old = λ b e.
    again_step r name old i b e (λ same. sym (ap is_some (finds name)) ∙ sym (ap (λ n. is_some (look_up places n)) same) ∙ stood) in
    finds name ∙ sym (here (bytes_eq r name) refl) ∙ sym (more_names all i d name within)

-- a new name is put down at its place
pub finds_new : (all : List DeclaredName) (before after : BTreeMap (Bor (List ℕ)) ℕ) (i : ℕ) (d : DeclaredName) → i < length all
    → FindsPlaces (map seen_declared (take i all)) before → is_some (look_up before (get_or all i d).name.now) ≡ false
    → ((name : List ℕ) → look_up after name ≡ update bytes_eq (look_up before) (get_or all i d).name.now (Some i) name)
    → FindsPlaces (map seen_declared (take (i + 1) all)) after
finds_new all before after i d within finds new updates name =
    let r : List ℕ = (get_or all i d).name.now in
    updates name
    ∙ choose (bytes_eq r name) (look_up before name) (place_among (map seen_declared (take i all)) name) i (finds name)
    (λ e. sym (finds name) ∙ sym (ap (look_up before) (same_name r name e)) ∙ none_found (look_up before r) new)
    ∙ sym (more_names all i d name within)

-- lines from a number on do not stand before it
stood_late : (all : List Declared) (m n : ℕ) (name : List ℕ) → IsRising number m all → n ≤ m → stood_before n name all ≡ false
stood_late [] m n name rising le = refl
stood_late (one ∷ all) m n name rising le =
    ap (λ b. (b && bytes_eq one.name name) || stood_before n name all) (le-ltb one.number n (omega (arith, rising.0)))
    ∙ stood_late all (one.number + 1) n name rising.1 (omega (arith, rising.0))

-- where a name has a place, the place is among the lines, and its line tells whether the name stood before
pub record StandsThere (all : List Declared) (i place n : ℕ) (name : List ℕ) : Type 0 where
  pub from : i ≤ place
  pub within : place < i + length all
  pub stood : (d : Declared) → stood_before n name all ≡ nat_lt (get_or all (place - i) d).number n

or_false : (b : Bool) → (b || false) ≡ b
or_false true = refl
or_false false = refl

and_true : (b : Bool) → (b && true) ≡ b
and_true true = refl
and_true false = refl

and_false : (b : Bool) → (b && false) ≡ false
and_false true = refl
and_false false = refl

-- if the first line does not stand before the number, no later one does
or_late : (a b : Bool) → (a ≡ false → b ≡ false) → (a || b) ≡ a
or_late true b h = refl
or_late false b h = h refl

not_before : (a n : ℕ) → nat_lt a n ≡ false → n ≤ a
not_before a n e = omega (arith, ltb-false a n e)

stood_step : (one : Declared) (all : List Declared) (i place n m : ℕ) (name : List ℕ) → IsRising number m (one ∷ all)
    → (position_from (is_called name) (i + 1) all ≡ Some place → StandsThere all (i + 1) place n name)
    → (b : Bool) → bytes_eq one.name name ≡ b → cond b (Some i) (position_from (is_called name) (i + 1) all) ≡ Some place
    → StandsThere (one ∷ all) i place n name
stood_step one all i place n m name rising rest true is found =
    let here : i ≡ place = same_Some i place found in
    let zero_there : place - i ≡ 0 = omega arith in
    record {
      from = omega arith;
      within = omega arith;
      stood = λ d. ap (λ b. (nat_lt one.number n && b) || stood_before n name all) is
          ∙ ap (λ b. b || stood_before n name all) (and_true (nat_lt one.number n))
          ∙ or_late (nat_lt one.number n) (stood_before n name all) (λ e. stood_late all (one.number + 1) n name rising.1 (omega (arith, not_before one.number n e)))
          ∙ ap (λ k. nat_lt (get_or (one ∷ all) k d).number n) (sym zero_there);
    }
stood_step one all i place n m name rising rest false is found =
    let there : StandsThere all (i + 1) place n name = rest found in
    let next : suc (place - (i + 1)) ≡ place - i = omega (arith, there.from) in
    record {
      from = omega (arith, there.from);
      within = omega (arith, there.within);
      stood = λ d. ap (λ b. (nat_lt one.number n && b) || stood_before n name all) is
          ∙ ap (λ b. b || stood_before n name all) (and_false (nat_lt one.number n))
          ∙ there.stood d
          ∙ ap (λ k. nat_lt (get_or (one ∷ all) k d).number n) next;
    }

pub stood_there : (all : List Declared) (i m place n : ℕ) (name : List ℕ) → IsRising number m all
    → position_from (is_called name) i all ≡ Some place → StandsThere all i place n name
stood_there [] i m place n name rising found = cc
stood_there (one ∷ all) i m place n name rising found =
    stood_step one all i place n m name rising (stood_there all (i + 1) (one.number + 1) place n name rising.1) (bytes_eq one.name name) refl found

none_step : (one : Declared) (all : List Declared) (i n : ℕ) (name : List ℕ)
    → (position_from (is_called name) (i + 1) all ≡ None → stood_before n name all ≡ false)
    → (b : Bool) → bytes_eq one.name name ≡ b → cond b (Some i) (position_from (is_called name) (i + 1) all) ≡ None
    → stood_before n name (one ∷ all) ≡ false
none_step one all i n name rest true is none = cc
none_step one all i n name rest false is none =
    ap (λ b. (nat_lt one.number n && b) || stood_before n name all) is
    ∙ ap (λ b. b || stood_before n name all) (and_false (nat_lt one.number n)) ∙ rest none

-- a name without a place stood nowhere
pub stood_nowhere : (all : List Declared) (i n : ℕ) (name : List ℕ) → position_from (is_called name) i all ≡ None → stood_before n name all ≡ false
stood_nowhere [] i n name none = refl
stood_nowhere (one ∷ all) i n name none = none_step one all i n name (stood_nowhere all (i + 1) n name) (bytes_eq one.name name) refl none

-- numbers that ascend do not decrease
pub rising_at : {X : Type 0} (n_of : X → ℕ) (m : ℕ) (xs : List X) (j : ℕ) (d : X) → IsRising n_of m xs → j < length xs → m ≤ n_of (get_or xs j d)
rising_at n_of m [] j d rising within = absurd (omega arith)
rising_at n_of m (x ∷ xs) zero d rising within = rising.0
rising_at n_of m (x ∷ xs) (suc j) d rising within =
    let more : n_of x + 1 ≤ n_of (get_or xs j d) = rising_at n_of (n_of x + 1) xs j d rising.1 (omega arith) in omega (arith, rising.0)

pub rising_goes : {X : Type 0} (n_of : X → ℕ) (m : ℕ) (xs : List X) → IsRising n_of m xs → IsNonDecreasingBy n_of xs
rising_goes n_of m [] rising i j d le within = absurd (omega arith)
rising_goes n_of m (x ∷ xs) rising zero zero d le within = omega arith
rising_goes n_of m (x ∷ xs) rising zero (suc j) d le within =
    let more : n_of x + 1 ≤ n_of (get_or xs j d) = rising_at n_of (n_of x + 1) xs j d rising.1 (omega arith) in omega arith
rising_goes n_of m (x ∷ xs) rising (suc i) zero d le within = absurd (omega arith)
rising_goes n_of m (x ∷ xs) rising (suc i) (suc j) d le within = rising_goes n_of (n_of x + 1) xs rising.1 i j d (omega arith) (omega arith)

pub rising_of_map : {X Y : Type 0} (f : X → Y) (n_of : Y → ℕ) (m : ℕ) (xs : List X) → IsRising n_of m (map f xs) → IsRising (λ x. n_of (f x)) m xs
rising_of_map f n_of m [] rising = tt
rising_of_map f n_of m (x ∷ xs) rising = (rising.0, rising_of_map f n_of (n_of (f x) + 1) xs rising.1)

pub map_of_rising : {X Y : Type 0} (f : X → Y) (n_of : Y → ℕ) (m : ℕ) (xs : List X) → IsRising (λ x. n_of (f x)) m xs → IsRising n_of m (map f xs)
map_of_rising f n_of m [] rising = tt
map_of_rising f n_of m (x ∷ xs) rising = (rising.0, map_of_rising f n_of (n_of (f x) + 1) xs rising.1)

-- a count of what passes only up to a place
kept_up_to : {X Y : Type 0} (p : Y → Bool) (f : X → Y) (xs : List X) (i : ℕ) → i ≤ length xs
    → AllWithin (λ x. p (f x) ≡ true) xs 0 i → AllWithin (λ x. p (f x) ≡ false) xs i (length xs) → length (filter p (map f xs)) ≡ i
kept_up_to p f [] i le front back = omega arith
kept_up_to p f (x ∷ xs) zero le front back =
    let here : p (f x) ≡ false = back 0 x (omega arith) (omega arith) in
    ap (λ b. length (cond b (f x ∷ filter p (map f xs)) (filter p (map f xs)))) here
    ∙ kept_up_to p f xs 0 (omega arith) (λ k d lo hi. absurd (omega arith)) (λ k d lo hi. back (suc k) d (omega arith) (omega arith))
kept_up_to p f (x ∷ xs) (suc i) le front back =
    let here : p (f x) ≡ true = front 0 x (omega arith) (omega arith) in
    let rest : length (filter p (map f xs)) ≡ i =
    kept_up_to p f xs i (omega arith) (λ k d lo hi. front (suc k) d (omega arith) (omega arith)) (λ k d lo hi. back (suc k) d (omega arith) (omega arith)) in
    ap (λ b. length (cond b (f x ∷ filter p (map f xs)) (filter p (map f xs)))) here ∙ ap suc rest

pub count_up_to : {X Y : Type 0} (p : Y → Bool) (f : X → Y) (xs : List X) (i : ℕ) → i ≤ length xs
    → AllWithin (λ x. p (f x) ≡ true) xs 0 i → AllWithin (λ x. p (f x) ≡ false) xs i (length xs) → count_by p (map f xs) ≡ i
count_up_to p f xs i le front back = sym (length-filter p (map f xs)) ∙ kept_up_to p f xs i le front back
