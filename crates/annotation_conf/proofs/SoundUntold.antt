-- Where each test is false there is no fault; names that differ stood nowhere before; rows without fault.
use Rattle.std.proofs.Common.{◌≡◌, ℕ, ◌+◌, ◌<◌, ◌≤◌, ◌&&◌, Bool, true, false, cond, List, [], ◌∷◌, ◌++◌, map, length, take, filter, get_or, Option, Some, None, option_map, slice_get, count_by, nat_lt, nat_le, bytes_eq, suc, refl, sym, subst, ◌∙◌, ap, arith, append_assoc}
use Rattle.std.specs.Option.{option_map_or, option_or}
use Rattle.std.specs.List.{AllByRecursion as Each, list_any, position_or_len, range_with_len}
use Rattle.std.proofs.lemmas.Bool.{or_parts, or_from, and_left, and_right, and_parts, le-ltb, lt-ltb, ltb-false, leb-true, cond-false}
use Rattle.std.proofs.lemmas.Option.{none-some, slice_get_within}
use Rattle.std.proofs.lemmas.List.Sums.{count_by-le-length, fails_before_first}
use Rattle.std.proofs.lemmas.List.FromFn.{length-range_with_len, get_or-range_with_len}
use Rattle.type_hierarchy.specs.declared.type_row.TypeRow.{TypeRow}
use Rattle.type_hierarchy.specs.declared.types_fault.TypesFault.TheVariants.{NameTwice, BadParent, TooMany}
use Rattle.type_hierarchy.specs.TypeTrees.{is_named}
use Rattle.type_hierarchy.specs.TypeFaults.{first_place, is_twice, name_twice, bad_parent, are_too_many, fault_of}
use Rattle.conf_model.specs.declared.conf_fault.ConfWhat.{ConfWhat}
use Rattle.conf_model.specs.ConfNames.{TypeLine}
use Rattle.conf_model.specs.ConfFaults.{Declared, first_told, stood_before, are_past, is_among, stands_twice, is_too_deep, last_of, line_before}
use Rattle.conf_model.specs.Sound.{steps_down}
use Rattle.annotation_conf.proofs.SoundLists.{Each-append, Each-map, each_weaker, none_passes}
use Rattle.annotation_conf.proofs.SoundFiles.{Ascend}
use Rattle.annotation_conf.proofs.SoundRelationsAgain.{are_apart}
use Rattle.annotation_conf.proofs.SoundSteps.{filter_front, ascend_before, ascend_behind, limit, limit_push}

-- no test that is false tells
pub none_told : (tests : List (Bool × ConfWhat)) → Each (λ test. test.0 ≡ false) tests → first_told tests ≡ None
none_told [] a = refl
none_told (test ∷ more) a = cond-false test.0 (Some test.1) (first_told more) a.0 ∙ none_told more a.1

-- names that differ stood nowhere before
pub stood_nowhere : (all front back : List Declared) → all ≡ front ++ back → stands_twice (map (λ (d : Declared). d.name) all) ≡ false
    → Each (λ (d : Declared). stood_before d.number d.name all ≡ false) back
stood_nowhere all front [] is e = tt
stood_nowhere all front (d ∷ back) is e =
    let apart = are_apart (λ (one : Declared). one.name) front d back (ap (λ ds. stands_twice (map (λ (one : Declared). one.name) ds)) (sym is) ∙ e) in
    let p : Declared → Bool = λ one. nat_lt one.number d.number && bytes_eq one.name d.name in (
      ap (list_any (λ (one : Declared). nat_lt one.number d.number && bytes_eq one.name d.name)) is
          ∙ none_passes p (front ++ d ∷ back)
          (Each-append (λ one. p one ≡ false) front (d ∷ back)
          (each_weaker (λ (one : Declared). bytes_eq one.name d.name ≡ false) (λ one. p one ≡ false) (λ one f. and_right (nat_lt one.number d.number) (bytes_eq one.name d.name) f) front apart.before) (
            and_left (nat_lt d.number d.number) (bytes_eq d.name d.name) (le-ltb d.number d.number (omega arith)),
            each_weaker (λ (one : Declared). bytes_eq one.name d.name ≡ false) (λ one. p one ≡ false) (λ one f. and_right (nat_lt one.number d.number) (bytes_eq one.name d.name) f) back apart.behind,
          )),
      stood_nowhere all (front ++ d ∷ []) back (is ∙ sym (append_assoc front (d ∷ []) back)) e,
    )

-- lists within a bound are never past it
pub never_past : (most number : ℕ) (ds : List Declared) → length ds ≤ most → are_past most number ds ≡ false
never_past most number ds few =
    le-ltb most (count_by (λ (one : Declared). nat_le one.number number) ds) (omega (arith, count_by-le-length (λ (one : Declared). nat_le one.number number) ds))

-- lines that step down by one at most are not too deep
not_deep : (depth : ℕ) (o : Option TypeLine) → depth ≤ option_map_or (λ (line : TypeLine). line.depth + 1) o 0 → is_too_deep depth o ≡ false
not_deep depth None h = le-ltb 0 depth h
not_deep depth (Some line) h = le-ltb (line.depth + 1) depth h

pub never_deep : (all before lines : List TypeLine) → all ≡ before ++ lines → Ascend (λ (line : TypeLine). line.number) all → steps_down (limit before) lines ≡ true
    → Each (λ (line : TypeLine). is_too_deep line.depth (line_before line.number all) ≡ false) lines
never_deep all before [] is a e = tt
never_deep all before (line ∷ lines) is a e =
    let split : Ascend (λ (l : TypeLine). l.number) (before ++ line ∷ lines) = subst (Ascend (λ (l : TypeLine). l.number)) is a in
    let both = and_parts (nat_le line.depth (limit before)) (steps_down (line.depth + 1) lines) e in
    let kept : filter (λ (l : TypeLine). nat_lt l.number line.number) all ≡ before =
    ap (filter (λ (l : TypeLine). nat_lt l.number line.number)) is
    ∙ filter_front (λ (l : TypeLine). nat_lt l.number line.number) before (line ∷ lines)
    (each_weaker (λ (l : TypeLine). l.number < line.number) (λ (l : TypeLine). nat_lt l.number line.number ≡ true) (λ l h. lt-ltb l.number line.number h) before (ascend_before (λ (l : TypeLine). l.number) before line lines split)) (
      le-ltb line.number line.number (omega arith),
      each_weaker (λ (l : TypeLine). line.number < l.number) (λ (l : TypeLine). nat_lt l.number line.number ≡ false) (λ l h. le-ltb l.number line.number (omega arith)) lines (ascend_behind (λ (l : TypeLine). l.number) before line lines split),
    ) in (
      ap (λ ls. is_too_deep line.depth (last_of ls)) kept ∙ not_deep line.depth (last_of before) (leb-true line.depth (limit before) both.0),
      never_deep all (before ++ line ∷ []) lines (is ∙ sym (append_assoc before (line ∷ []) lines)) a (subst (λ m. steps_down m lines ≡ true) (sym (limit_push before line)) both.1),
    )

-- rows without fault
at_place : (test : ℕ → Bool) (count k : ℕ) → k < count → test (get_or (range_with_len 0 count) k 0) ≡ test k
at_place test count k lt = let same : 0 + k ≡ k = omega arith in ap test (get_or-range_with_len 0 count k 0 lt ∙ same)

cond_none : (b : Bool) (x : ℕ) → cond b (Some x) None ≡ None → b ≡ false
cond_none true x e = absurd (none-some x (sym e))
cond_none false x e = refl

none_below : (test : ℕ → Bool) (count : ℕ) → first_place test count ≡ None → (k : ℕ) → k < count → test k ≡ false
none_below test count none k lt =
    let size : length (range_with_len 0 count) ≡ count = length-range_with_len 0 count in
    let past : length (range_with_len 0 count) ≤ position_or_len test (range_with_len 0 count) =
    ltb-false (position_or_len test (range_with_len 0 count)) (length (range_with_len 0 count)) (cond_none (nat_lt (position_or_len test (range_with_len 0 count)) (length (range_with_len 0 count))) (position_or_len test (range_with_len 0 count)) none) in
    sym (at_place test count k lt) ∙ fails_before_first test (range_with_len 0 count) k 0 (omega (arith, past, size))

each_from_at : {X : Type 0} (P : X → Type 0) (xs : List X) → ((k : ℕ) (x : X) → slice_get xs k ≡ Some x → P x) → Each P xs
each_from_at P [] h = tt
each_from_at P (x ∷ xs) h = (h 0 x refl, each_from_at P xs (λ k y e. h (suc k) y e))

once_named : (rows : List TypeRow) → ((k : ℕ) (row : TypeRow) → slice_get rows k ≡ Some row → list_any (is_named row.name) (take k rows) ≡ false) → stands_twice (map (λ (row : TypeRow). row.name) rows) ≡ false
once_named [] h = refl
once_named (x ∷ rows) h =
    or_from (is_among (map (λ (row : TypeRow). row.name) rows) x.name) (stands_twice (map (λ (row : TypeRow). row.name) rows))
    (none_passes (bytes_eq x.name) (map (λ (row : TypeRow). row.name) rows)
    (Each-map (λ name. bytes_eq x.name name ≡ false) (λ (row : TypeRow). row.name) rows
    (each_from_at (λ (row : TypeRow). bytes_eq x.name row.name ≡ false) rows (λ k row e. (or_parts (bytes_eq x.name row.name) (list_any (is_named row.name) (take k rows)) (h (suc k) row e)).0))))
    (once_named rows (λ k row e. (or_parts (bytes_eq x.name row.name) (list_any (is_named row.name) (take k rows)) (h (suc k) row e)).1))

names_once : (rows : List TypeRow) → name_twice rows ≡ None → stands_twice (map (λ (row : TypeRow). row.name) rows) ≡ false
unfolding name_twice
names_once rows none =
    once_named rows (λ k row e. sym (ap (λ o. option_map_or (λ (r : TypeRow). list_any (is_named r.name) (take k rows)) o false) e) ∙ none_below (is_twice rows) (length rows) none k (within rows k row e))
  where
    within : (xs : List TypeRow) (k : ℕ) (x : TypeRow) → slice_get xs k ≡ Some x → k < length xs
    within xs k x e = slice_get_within xs k x e

-- what the absence of a fault says of rows
pub record AreSoundRows (rows : List TypeRow) : Type 0 where
  pub once : stands_twice (map (λ (row : TypeRow). row.name) rows) ≡ false
  pub few : length rows ≤ 256
  pub usable : count_by (λ (row : TypeRow). row.usable) rows ≤ 63

pub rows_sound : (rows : List TypeRow) → fault_of rows ≡ None → AreSoundRows rows
unfolding fault_of
rows_sound rows e =
    let t = go (name_twice rows) (bad_parent rows) (are_too_many rows) e in
    let many = or_parts (nat_lt 256 (length rows)) (nat_lt 63 (count_by (λ (row : TypeRow). row.usable) rows)) t.1 in
    record { once = names_once rows t.0; few = ltb-false 256 (length rows) many.0; usable = ltb-false 63 (count_by (λ (row : TypeRow). row.usable) rows) many.1 }
  where
    go : (o p : Option ℕ) (b : Bool) → option_or (option_map NameTwice o) (option_or (option_map BadParent p) (cond b (Some TooMany) None)) ≡ None → (o ≡ None) × (b ≡ false)
    go (Some k) p b f = absurd (none-some (NameTwice k) (sym f))
    go None (Some k) b f = absurd (none-some (BadParent k) (sym f))
    go None None true f = absurd (none-some TooMany (sym f))
    go None None false f = (refl, refl)
