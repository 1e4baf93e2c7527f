-- The first lines of relation types: each name has one, and their names differ.
use Rattle.std.proofs.Common.{◌≡◌, ℕ, ◌<◌, ◌||◌, ◌&&◌, Bool, true, false, not, cond, List, [], ◌∷◌, ◌++◌, map, length, filter, nat_lt, bytes_eq, refl, sym, subst, ◌∙◌, ap, ap₂, arith, inl, inr, append_assoc}
use Rattle.std.specs.List.{AllByRecursion as Each, list_any}
use Rattle.std.proofs.lemmas.Bool.{or_left, or_right, or_from, le-ltb, lt-ltb, cases_Bool, cond-true, not-true}
use Rattle.std.proofs.lemmas.List.Folds.{list_any-append}
use Rattle.conf_model.specs.ConfNames.{NamedLine}
use Rattle.conf_model.specs.ConfFaults.{Declared, of_named, names_of, stood_before, stands_twice, is_among, firsts}
use Rattle.annotation_conf.proofs.SoundLists.{each_weaker, Each-map, Each-filter, each_of_map, each_fails, each_passes, none_passes, map-map}
use Rattle.annotation_conf.proofs.SoundFiles.{Ascend, Ascend-filter}
use Rattle.annotation_conf.proofs.SoundNames.{differ_once, same_bytes, bytes_same, bytes_differ}
use Rattle.annotation_conf.proofs.SoundPlaces.{any_map}
use Rattle.annotation_conf.proofs.SoundSizes.{named_differ}
use Rattle.annotation_conf.proofs.SoundSteps.{ascend_before, ascend_behind}

any_agree : {X : Type 0} (p q : X → Bool) (xs : List X) → Each (λ x. p x ≡ q x) xs → list_any p xs ≡ list_any q xs
any_agree p q [] a = refl
any_agree p q (x ∷ xs) a = ap₂ (λ b c. b || c) a.0 (any_agree p q xs a.1)

or_none : (b : Bool) → (b || false) ≡ b
or_none true = refl
or_none false = refl

-- a line's name stood before where a line in front of it has it
pub stood_is : (front : List NamedLine) (x : NamedLine) (back : List NamedLine) → Ascend (λ (line : NamedLine). line.number) (front ++ x ∷ back)
    → stood_before x.number x.name (of_named (front ++ x ∷ back)) ≡ list_any (λ (y : NamedLine). bytes_eq y.name x.name) front
stood_is front x back a =
    let p : NamedLine → Bool = λ y. nat_lt y.number x.number && bytes_eq y.name x.name in
    any_map (λ (one : Declared). nat_lt one.number x.number && bytes_eq one.name x.name) (λ (line : NamedLine). record { number = line.number; name = line.name }) (front ++ x ∷ back)
    ∙ list_any-append p front (x ∷ back)
    ∙ ap (λ b. list_any p front || b) (none_passes p (x ∷ back) (
      ap (λ b. b && bytes_eq x.name x.name) (le-ltb x.number x.number (omega arith)),
      each_weaker (λ (y : NamedLine). x.number < y.number) (λ (y : NamedLine). (nat_lt y.number x.number && bytes_eq y.name x.name) ≡ false) (λ y h. ap (λ b. b && bytes_eq y.name x.name) (le-ltb y.number x.number (omega arith))) back
          (ascend_behind (λ (line : NamedLine). line.number) front x back a),
    ))
    ∙ or_none (list_any p front)
    ∙ any_agree p (λ (y : NamedLine). bytes_eq y.name x.name) front
    (each_weaker (λ (y : NamedLine). y.number < x.number) (λ (y : NamedLine). (nat_lt y.number x.number && bytes_eq y.name x.name) ≡ bytes_eq y.name x.name) (λ y h. ap (λ b. b && bytes_eq y.name x.name) (lt-ltb y.number x.number h)) front
    (ascend_before (λ (line : NamedLine). line.number) front x back a))

-- a line is the first of its relation type among all lines
abbrev pub is_first : List NamedLine → NamedLine → Bool
is_first all line = not (stood_before line.number line.name (of_named all))

have_first : (all front back : List NamedLine) → all ≡ front ++ back → Ascend (λ (line : NamedLine). line.number) all → (name : List ℕ)
    → list_any (λ (y : NamedLine). bytes_eq y.name name) front ≡ false → is_among (map (λ (y : NamedLine). y.name) back) name ≡ true
    → is_among (map (λ (y : NamedLine). y.name) (filter (is_first all) back)) name ≡ true
have_first all front [] is a name none e = e
have_first all front (x ∷ back) is a name none e =
    elim (cases_Bool (bytes_eq name x.name)) [
      | inl here ↦
          (let same : name ≡ x.name = same_bytes name x.name here in
          let stood : stood_before x.number x.name (of_named all) ≡ false =
          ap (λ ls. stood_before x.number x.name (of_named ls)) is ∙ stood_is front x back (subst (Ascend (λ (line : NamedLine). line.number)) is a) ∙ subst (λ n. list_any (λ (y : NamedLine). bytes_eq y.name n) front ≡ false) same none in
          ap (λ b. is_among (map (λ (y : NamedLine). y.name) (cond (not b) (x ∷ filter (is_first all) back) (filter (is_first all) back))) name) stood
          ∙ or_left (bytes_eq name x.name) (is_among (map (λ (y : NamedLine). y.name) (filter (is_first all) back)) name) here)
      | inr other ↦
          (let more : is_among (map (λ (y : NamedLine). y.name) back) name ≡ true = sym (ap (λ b. b || is_among (map (λ (y : NamedLine). y.name) back) name) other) ∙ e in
          let none_more : list_any (λ (y : NamedLine). bytes_eq y.name name) (front ++ x ∷ []) ≡ false =
          list_any-append (λ (y : NamedLine). bytes_eq y.name name) front (x ∷ [])
          ∙ or_from (list_any (λ (y : NamedLine). bytes_eq y.name name) front) (bytes_eq x.name name || false) none (or_from (bytes_eq x.name name) false (bytes_differ name x.name other) refl) in
          let found = have_first all (front ++ x ∷ []) back (is ∙ sym (append_assoc front (x ∷ []) back)) a name none_more more in
          elim (is_first all x) as (λ b. is_among (map (λ (y : NamedLine). y.name) (cond b (x ∷ filter (is_first all) back) (filter (is_first all) back))) name ≡ true) [
            | true ↦ or_right (bytes_eq name x.name) (is_among (map (λ (y : NamedLine). y.name) (filter (is_first all) back)) name) found
            | false ↦ found
          ])
    ]

pub names_of_named : (lines : List NamedLine) → names_of (of_named lines) ≡ map (λ (line : NamedLine). line.name) lines
names_of_named lines = map-map (λ (one : Declared). one.name) (λ (line : NamedLine). record { number = line.number; name = line.name }) lines

-- each name of a line is that of a first line
pub firsts_have : (lines : List NamedLine) → Ascend (λ (line : NamedLine). line.number) lines → (name : List ℕ) → is_among (names_of (of_named lines)) name ≡ true
    → is_among (names_of (of_named (firsts lines))) name ≡ true
firsts_have lines a name e =
    ap (λ names. is_among names name) (names_of_named (firsts lines))
    ∙ have_first lines [] lines refl a name refl (sym (ap (λ names. is_among names name) (names_of_named lines)) ∙ e)

-- the names of first lines differ
pub firsts_differ : (lines : List NamedLine) → Ascend (λ (line : NamedLine). line.number) lines → stands_twice (names_of (of_named (firsts lines))) ≡ false
firsts_differ lines a =
    differ_once (of_named (firsts lines))
    (Each-map (λ (d : Declared). stood_before d.number d.name (of_named (firsts lines)) ≡ false) (λ (line : NamedLine). record { number = line.number; name = line.name }) (firsts lines)
    (each_weaker (λ (line : NamedLine). is_first lines line ≡ true) (λ (line : NamedLine). stood_before line.number line.name (of_named (firsts lines)) ≡ false)
    (λ line e. fewer line (not-true (stood_before line.number line.name (of_named lines)) e)) (firsts lines) (each_passes (is_first lines) lines)))
    (named_differ (firsts lines) (Ascend-filter (λ (line : NamedLine). line.number) (is_first lines) lines a))
  where
    fewer : (line : NamedLine) → stood_before line.number line.name (of_named lines) ≡ false → stood_before line.number line.name (of_named (firsts lines)) ≡ false
    fewer line e =
        let p : Declared → Bool = λ one. nat_lt one.number line.number && bytes_eq one.name line.name in
        none_passes p (of_named (firsts lines))
        (Each-map (λ one. p one ≡ false) (λ (y : NamedLine). record { number = y.number; name = y.name }) (firsts lines)
        (Each-filter (λ (y : NamedLine). p (record { number = y.number; name = y.name }) ≡ false) (is_first lines) lines
        (each_of_map (λ one. p one ≡ false) (λ (y : NamedLine). record { number = y.number; name = y.name }) lines (each_fails p (of_named lines) e))))

-- what each item of a list keeps that all of a kept list have beside: an item among those of its name
pub own_name : (lines : List NamedLine) → Each (λ (line : NamedLine). 0 < length (filter (λ (other : NamedLine). bytes_eq other.name line.name) lines)) lines
own_name lines = go [] lines refl
  where
    kept : (x : NamedLine) (front back : List NamedLine) → 0 < length (filter (λ (other : NamedLine). bytes_eq other.name x.name) (front ++ x ∷ back))
    kept x [] back =
        let is = cond-true (bytes_eq x.name x.name) (x ∷ filter (λ (other : NamedLine). bytes_eq other.name x.name) back) (filter (λ (other : NamedLine). bytes_eq other.name x.name) back) (bytes_same x.name x.name refl) in
        subst (λ (ls : List NamedLine). 0 < length ls) (sym is) (omega arith)
    kept x (y ∷ front) back =
        elim (bytes_eq y.name x.name) as (λ b. 0 < length (cond b (y ∷ filter (λ (other : NamedLine). bytes_eq other.name x.name) (front ++ x ∷ back)) (filter (λ (other : NamedLine). bytes_eq other.name x.name) (front ++ x ∷ back)))) [
          | true ↦ omega arith
          | false ↦ kept x front back
        ]

    go : (front back : List NamedLine) → lines ≡ front ++ back → Each (λ (line : NamedLine). 0 < length (filter (λ (other : NamedLine). bytes_eq other.name line.name) lines)) back
    go front [] e = tt
    go front (x ∷ back) e = (
      subst (λ (ls : List NamedLine). 0 < length (filter (λ (other : NamedLine). bytes_eq other.name x.name) ls)) (sym e) (kept x front back),
      go (front ++ x ∷ []) back (e ∙ sym (append_assoc front (x ∷ []) back)),
    )
