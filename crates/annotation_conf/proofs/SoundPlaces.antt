-- Places of names that are held.
use Rattle.std.proofs.Common.{◌≡◌, ℕ, ◌+◌, ◌<◌, ◌≤◌, ◌||◌, Bool, true, false, cond, List, [], ◌∷◌, ◌++◌, map, length, filter, Option, Some, None, slice_get, bytes_eq, zero, suc, refl, sym, subst, ◌∙◌, ap, arith, inl, inr}
use Rattle.std.specs.Option.{option_map_or}
use Rattle.std.specs.List.{AllByRecursion as Each, list_any, range_with_len}
use Rattle.std.proofs.lemmas.Bool.{or_cases, or_left, or_right, true≢false, cases_lt}
use Rattle.std.proofs.lemmas.Option.{slice_get_within}
use Rattle.std.proofs.lemmas.List.Elements.{filter_agree}
use Rattle.std.proofs.lemmas.List.Folds.{list_any-append}
use Rattle.conf_model.specs.ConfFaults.{is_among}
use Rattle.conf_model.specs.ConfOf.{places_of}
use Rattle.annotation_conf.proofs.SoundLists.{each_weaker, each_passes, Each-append, Each-map}
use Rattle.annotation_conf.proofs.SoundNames.{same_bytes, bytes_same}

-- the name of a place is held
abbrev pub held_at : List (List ℕ) → List (List ℕ) → ℕ → Bool
held_at held names place = option_map_or (is_among held) (slice_get names place) false

held_name : (held names : List (List ℕ)) (place : ℕ) → held_at held names place ≡ true → (name : List ℕ) × (slice_get names place ≡ Some name) × (is_among held name ≡ true)
held_name held names place e = go (slice_get names place) refl e
  where
    go : (o : Option (List ℕ)) → slice_get names place ≡ o → option_map_or (is_among held) o false ≡ true → (name : List ℕ) × (slice_get names place ≡ Some name) × (is_among held name ≡ true)
    go None f t = absurd (true≢false (sym t))
    go (Some name) f t = (name, f, t)

-- places are in range
pub places_within : (held names : List (List ℕ)) → Each (λ place. place < length names) (places_of held names)
places_within held names =
    each_weaker (λ place. held_at held names place ≡ true) (λ place. place < length names)
    (λ place e. let h = held_name held names place e in slice_get_within names place h.0 h.1) (places_of held names) (each_passes (held_at held names) (range_with_len 0 (length names)))

-- a function that gives the name of a place
abbrev pub NamesPlaces : List (List ℕ) → (ℕ → List ℕ) → Type 0
NamesPlaces names name_at = (place : ℕ) (name : List ℕ) → slice_get names place ≡ Some name → name_at place ≡ name

-- the names of the places are held
pub places_held : (held names : List (List ℕ)) (name_at : ℕ → List ℕ) → NamesPlaces names name_at → Each (λ place. is_among held (name_at place) ≡ true) (places_of held names)
places_held held names name_at named =
    each_weaker (λ place. held_at held names place ≡ true) (λ place. is_among held (name_at place) ≡ true)
    (λ place e. let h = held_name held names place e in ap (is_among held) (named place h.0 h.1) ∙ h.2) (places_of held names) (each_passes (held_at held names) (range_with_len 0 (length names)))

any_kept : (p q : ℕ → Bool) (low n k : ℕ) → low ≤ k → k < low + n → q k ≡ true → p k ≡ true → list_any p (filter q (range_with_len low n)) ≡ true
any_kept p q low zero k a b e f = absurd (omega arith)
any_kept p q low (suc n) k a b e f = go (q low) refl (λ c. any_kept p q (low + 1) n k c (omega arith) e f)
  where
    go : (b : Bool) → q low ≡ b → (low + 1 ≤ k → list_any p (filter q (range_with_len (low + 1) n)) ≡ true)
        → list_any p (cond b (low ∷ filter q (range_with_len (low + 1) n)) (filter q (range_with_len (low + 1) n))) ≡ true
    go true h more = elim (cases_lt low k) [
      | inl lt ↦ or_right (p low) (list_any p (filter q (range_with_len (low + 1) n))) (more (omega arith))
      | inr ge ↦ or_left (p low) (list_any p (filter q (range_with_len (low + 1) n))) (let same : low ≡ k = omega arith in ap p same ∙ f)
    ]
    go false h more = elim (cases_lt low k) [
      | inl lt ↦ more (omega arith)
      | inr ge ↦ absurd (let same : low ≡ k = omega arith in true≢false (sym (ap q same ∙ e) ∙ h))
    ]

pub any_map : {X Y : Type 0} (p : Y → Bool) (f : X → Y) (xs : List X) → list_any p (map f xs) ≡ list_any (λ x. p (f x)) xs
any_map p f [] = refl
any_map p f (x ∷ xs) = ap (λ b. p (f x) || b) (any_map p f xs)

-- a name that is held is found among the names of the places
pub places_found : (held names : List (List ℕ)) (name_at : ℕ → List ℕ) → NamesPlaces names name_at → (place : ℕ) (name : List ℕ) → slice_get names place ≡ Some name → is_among held name ≡ true
    → is_among (map name_at (places_of held names)) name ≡ true
places_found held names name_at named place name is h =
    let lt : place < length names = slice_get_within names place name is in
    any_map (bytes_eq name) name_at (places_of held names)
    ∙ any_kept (λ k. bytes_eq name (name_at k)) (held_at held names) 0 (length names) place (omega arith) (omega arith)
    (ap (λ o. option_map_or (is_among held) o false) is ∙ h) (bytes_same name (name_at place) (sym (named place name is)))

-- a name among names has a place
pub has_place : (names : List (List ℕ)) (name : List ℕ) → is_among names name ≡ true → (place : ℕ) × (slice_get names place ≡ Some name)
has_place [] name e = absurd (true≢false (sym e))
has_place (x ∷ names) name e =
    elim (or_cases (bytes_eq name x) (is_among names name) e) [
      | inl here ↦ (0, ap Some (sym (same_bytes name x here)))
      | inr more ↦ (let h = has_place names name more in (suc h.0, h.1))
    ]

pub any_some : {X : Type 0} (p : X → Bool) (xs : List X) → list_any p xs ≡ true → 0 < length xs
any_some p [] e = absurd (true≢false (sym e))
any_some p (x ∷ xs) e = omega arith

-- so there is a place where a held name is among the names
pub places_some : (held names : List (List ℕ)) (name : List ℕ) → is_among held name ≡ true → is_among names name ≡ true → 0 < length (places_of held names)
places_some held names name a b =
    let h = has_place names name b in
    let lt : h.0 < length names = slice_get_within names h.0 name h.1 in
    any_some (λ k. true) (places_of held names) (any_kept (λ k. true) (held_at held names) 0 (length names) h.0 (omega arith) (omega arith) (ap (λ o. option_map_or (is_among held) o false) h.1 ∙ a) refl)

-- what each element of a list keeps, a name among them keeps
pub among_keeps : (P : List ℕ → Type 0) (names : List (List ℕ)) (name : List ℕ) → Each P names → is_among names name ≡ true → P name
among_keeps P [] name a e = absurd (true≢false (sym e))
among_keeps P (x ∷ names) name a e =
    elim (or_cases (bytes_eq name x) (is_among names name) e) [
      | inl here ↦ subst P (sym (same_bytes name x here)) a.0
      | inr more ↦ among_keeps P names name a.1 more
    ]

pub same_truth : (a b : Bool) → (a ≡ true → b ≡ true) → (b ≡ true → a ≡ true) → a ≡ b
same_truth true true f g = refl
same_truth true false f g = sym (f refl)
same_truth false true f g = g refl
same_truth false false f g = refl

-- the places of the names of some places are those places, where more names are held that were held before
pub places_again : (held names : List (List ℕ)) (name_at : ℕ → List ℕ) (front back : List (List ℕ)) → NamesPlaces names name_at
    → Each (λ name. is_among held name ≡ true) front → Each (λ name. is_among held name ≡ true) back
    → places_of (front ++ (map name_at (places_of held names) ++ back)) names ≡ places_of held names
places_again held names name_at front back named a b =
    filter_agree (held_at again names) (held_at held names) (λ place. go place (slice_get names place) refl) (range_with_len 0 (length names))
  where
    own : List (List ℕ)
    own = map name_at (places_of held names)

    again : List (List ℕ)
    again = front ++ (own ++ back)

    all_held : Each (λ name. is_among held name ≡ true) again
    all_held =
        Each-append (λ name. is_among held name ≡ true) front (own ++ back) a
        (Each-append (λ name. is_among held name ≡ true) own back (Each-map (λ name. is_among held name ≡ true) name_at (places_of held names) (places_held held names name_at named)) b)

    go : (place : ℕ) (o : Option (List ℕ)) → slice_get names place ≡ o → option_map_or (is_among again) (slice_get names place) false ≡ option_map_or (is_among held) (slice_get names place) false
    go place None e = ap (λ o. option_map_or (is_among again) o false) e ∙ sym (ap (λ o. option_map_or (is_among held) o false) e)
    go place (Some name) e =
        ap (λ o. option_map_or (is_among again) o false) e
        ∙ same_truth (is_among again name) (is_among held name)
        (λ t. among_keeps (λ n. is_among held n ≡ true) again name all_held t)
        (λ t. list_any-append (bytes_eq name) front (own ++ back)
        ∙ or_right (list_any (bytes_eq name) front) (list_any (bytes_eq name) (own ++ back))
        (list_any-append (bytes_eq name) own back ∙ or_left (list_any (bytes_eq name) own) (list_any (bytes_eq name) back) (places_found held names name_at named place name e t)))
        ∙ sym (ap (λ o. option_map_or (is_among held) o false) e)
