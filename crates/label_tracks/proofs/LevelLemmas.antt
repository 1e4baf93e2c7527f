-- Types at a level: the steps up, how many different types come of them, and the group of each.
use Rattle.std.proofs.Common.{◌≡◌, ℕ, ◌+◌, ◌-◌, ◌<◌, ◌≤◌, ◌==◌, ◌||◌, Bool, true, false, cond, List, [], ◌∷◌, ◌++◌, length, map, drop, get_or, nat_le, Option, Some, None, zero, suc, count_by, refl, sym, ◌∙◌, ap, subst, arith, inl, inr}
use Rattle.std.specs.Option.{option_map_or}
use Rattle.std.specs.List.{enumerate_from, filter, list_any, range_with_len, slice_get}
use Rattle.std.proofs.lemmas.Bool.{cases_eq, cases_lt, cond-false, cond-true, ne_eqb, eq-eqb}
use Rattle.std.proofs.lemmas.List.{append-nil, append_assoc, drop_all, drop_more, get_or_past, length-map}
use Rattle.std.proofs.lemmas.List.FromFn.{get_or-map-range_with_len, length-range_with_len}
use Rattle.std.proofs.lemmas.List.Sums.{count_by-le-length, length-filter, sum_by-cons}
use Rattle.std.proofs.lemmas.Option.{slice_get-get_or, slice_get_cases, slice_get_past, slice_get_within}
use Rattle.mark_base.specs.declared.table_places.TypeId.{TypeId}
use Rattle.type_hierarchy.specs.declared.type_row.TypeRow.{TypeRow}
use Rattle.type_hierarchy.specs.TypeTrees.{parent_of}
use Rattle.label_tracks.specs.Levels.{AreGroups, Grouping, ancestor, group_at, group_number, grouping_of, heads, rolled, rolled_types}

-- ---- steps up

pub a_step_up : (rows : List TypeRow) (steps place : ℕ) (parent : TypeId) → (steps ≡ 0 → ⊥) → parent_of rows place ≡ Some parent
    → ancestor (steps - 1) rows parent.n ≡ ancestor steps rows place
a_step_up rows zero place parent some up = absurd (some refl)
a_step_up rows (suc steps) place parent some up =
    let one_less : suc steps - 1 ≡ steps = omega arith in
    ap (λ k. ancestor k rows parent.n) one_less ∙ sym (ap (λ o. option_map_or (λ (p : TypeId). ancestor steps rows p.n) o place) up)

pub topmost : (rows : List TypeRow) (steps place : ℕ) → parent_of rows place ≡ None → place ≡ ancestor steps rows place
topmost rows zero place none = refl
topmost rows (suc steps) place none = sym (ap (λ o. option_map_or (λ (p : TypeId). ancestor steps rows p.n) o place) none)

-- ---- how many different types there are

one_of : (p : ℕ → Bool) (x : ℕ) (xs : List ℕ) → count_by p (x ∷ xs) ≡ cond (p x) 1 0 + count_by p xs
one_of p x xs = sum_by-cons (λ y. cond (p y) 1 0) x xs

either_weight : (a b : Bool) → cond (a || b) 1 0 ≤ cond a 1 0 + cond b 1 0
either_weight true b = omega arith
either_weight false b = omega arith

count_either : (p q : ℕ → Bool) (xs : List ℕ) → count_by (λ x. p x || q x) xs ≤ count_by p xs + count_by q xs
count_either p q [] = omega arith
count_either p q (x ∷ xs) =
    let all = one_of (λ y. p y || q y) x xs in
    let first = one_of p x xs in
    let second = one_of q x xs in
    let here = either_weight (p x) (q x) in
    let rest = count_either p q xs in
    omega arith

count_none : (xs : List ℕ) → count_by (λ _. false) xs ≡ 0
count_none [] = refl
count_none (x ∷ xs) = let one = one_of (λ _. false) x xs in let rest = count_none xs in omega arith

none_behind : (x a n : ℕ) → x < a → count_by (λ place. x == place) (range_with_len a n) ≡ 0
none_behind x a zero behind = refl
none_behind x a (suc n) behind =
    let one = one_of (λ place. x == place) a (range_with_len (a + 1) n) in
    let rest = none_behind x (a + 1) n (omega arith) in
    let here : cond {A = ℕ} (x == a) 1 0 ≡ 0 = ap (λ b. cond b 1 0) (ne_eqb x a (λ e. absurd (omega arith))) in
    omega arith

at_most_one : (x a n : ℕ) → count_by (λ place. x == place) (range_with_len a n) ≤ 1
at_most_one x a zero = omega arith
at_most_one x a (suc n) =
    let one = one_of (λ place. x == place) a (range_with_len (a + 1) n) in
    elim (cases_eq x a) [
      | inl e ↦
          let here : cond {A = ℕ} (x == a) 1 0 ≡ 1 = ap (λ b. cond b 1 0) (eq-eqb x a e) in
          let rest = none_behind x (a + 1) n (omega arith) in omega arith
      | inr ne ↦
          let here : cond {A = ℕ} (x == a) 1 0 ≡ 0 = ap (λ b. cond b 1 0) (ne_eqb x a ne) in
          let rest = at_most_one x (a + 1) n in omega arith
    ]

different : (xs : List ℕ) (a n : ℕ) → count_by (λ place. list_any (λ other. other == place) xs) (range_with_len a n) ≤ length xs
different [] a n = let none = count_none (range_with_len a n) in omega arith
different (x ∷ xs) a n =
    let both = count_either (λ place. x == place) (λ place. list_any (λ other. other == place) xs) (range_with_len a n) in
    let one = at_most_one x a n in
    let rest = different xs a n in
    omega arith

pub heads_few : (rows : List TypeRow) (level : ℕ) → length (rolled_types rows level) ≤ 63 → length (heads rows level) ≤ 63
unfolding heads
heads_few rows level few =
    let filtered = length-filter (λ place. list_any (λ other. other == place) (rolled_types rows level)) (range_with_len 0 (length rows)) in
    let fewer = different (rolled_types rows level) 0 (length rows) in
    omega arith

usable_places : (n : ℕ) (rows : List TypeRow) → length (filter (λ (placed : ℕ × TypeRow). placed.1.usable) (enumerate_from n rows)) ≡ count_by (λ (row : TypeRow). row.usable) rows
usable_places n [] = refl
usable_places n (row ∷ rows) =
    let rest = usable_places (n + 1) rows in
    let one = sum_by-cons (λ (r : TypeRow). cond r.usable 1 0) row rows in
    let P : Bool → Type 0 = λ b. length (cond b ((n, row) ∷ filter (λ (placed : ℕ × TypeRow). placed.1.usable) (enumerate_from (n + 1) rows)) (filter (λ (placed : ℕ × TypeRow). placed.1.usable) (enumerate_from (n + 1) rows)))
    ≡ cond b 1 0 + count_by (λ (r : TypeRow). r.usable) rows in
    elim row.usable as (λ b. P b) [ true ↦ omega arith | false ↦ omega arith ] ∙ sym one

pub rolled_few : (rows : List TypeRow) (level : ℕ) → count_by (λ (row : TypeRow). row.usable) rows ≤ 63 → length (rolled_types rows level) ≤ 63
rolled_few rows level few =
    let mapped = length-map (filter (λ (placed : ℕ × TypeRow). placed.1.usable) (enumerate_from 0 rows)) (λ (placed : ℕ × TypeRow). rolled rows level placed.0) in
    let all = usable_places 0 rows in
    omega arith

-- ---- the group of each type

chosen_le : (usable : Bool) (n most : ℕ) → n ≤ most → cond usable n 0 ≤ most
chosen_le true n most le = le
chosen_le false n most le = omega arith

pub group_within : (rows : List TypeRow) (level place : ℕ) → group_at rows level place < length (heads rows level) + 1
unfolding group_at
group_within rows level place =
    let number = count_by-le-length (λ other. nat_le other (rolled rows level place)) (heads rows level) in
    let chosen : (o : Option TypeRow) → option_map_or (λ (row : TypeRow). cond row.usable (group_number (heads rows level) (rolled rows level place)) 0) o 0 ≤ length (heads rows level) =
    λ o. elim o as (λ o. option_map_or (λ (row : TypeRow). cond row.usable (group_number (heads rows level) (rolled rows level place)) 0) o 0 ≤ length (heads rows level)) [
      | None ↦ omega arith
      | Some row ↦ chosen_le row.usable _ _ number
    ] in
    let small = chosen (slice_get rows place) in
    omega (arith, small)

-- the groups as they are kept
pub group_read : (rows : List TypeRow) (level place : ℕ) → get_or (map (group_at rows level) (range_with_len 0 (length rows))) place 0 ≡ group_at rows level place
unfolding group_at
group_read rows level place =
    elim (cases_lt place (length rows)) [
      | inl within ↦ get_or-map-range_with_len (group_at rows level) 0 (length rows) place place 0 within (omega arith)
      | inr past ↦
          let short : length (map (group_at rows level) (range_with_len 0 (length rows))) ≤ place =
          (let m = length-map (range_with_len 0 (length rows)) (group_at rows level) in let r = length-range_with_len 0 (length rows) in omega arith) in
          get_or_past (map (group_at rows level) (range_with_len 0 (length rows))) place 0 short
          ∙ sym (ap (λ o. option_map_or (λ (row : TypeRow). cond row.usable (group_number (heads rows level) (rolled rows level place)) 0) o 0) (slice_get_past rows place past))
    ]

pub groups_below : (rows : List TypeRow) (level : ℕ) → length (heads rows level) ≤ 63
    → AreGroups (map (group_at rows level) (range_with_len 0 (length rows))) (length (heads rows level) + 1)
groups_below rows level few = record {
  some = omega arith;
  few = omega arith;
  below = λ place. let small = group_within rows level place in let read = group_read rows level place in omega arith;
}

-- ---- the types that the usable types count as, one after another

-- what is held and what is left make the whole
abbrev pub RolledSoFar : List TypeRow → ℕ → ℕ → List ℕ → Type 0
RolledSoFar rows level place held =
    held ++ map (λ (placed : ℕ × TypeRow). rolled rows level placed.0) (filter (λ (placed : ℕ × TypeRow). placed.1.usable) (enumerate_from place (drop place rows))) ≡ rolled_types rows level

at_type : (rows : List TypeRow) (level place : ℕ) (row : TypeRow) → slice_get rows place ≡ Some row
    → map (λ (placed : ℕ × TypeRow). rolled rows level placed.0) (filter (λ (placed : ℕ × TypeRow). placed.1.usable) (enumerate_from place (drop place rows)))
    ≡ map (λ (placed : ℕ × TypeRow). rolled rows level placed.0) (cond row.usable ((place, row) ∷ filter (λ (placed : ℕ × TypeRow). placed.1.usable) (enumerate_from (place + 1) (drop (place + 1) rows)))
    (filter (λ (placed : ℕ × TypeRow). placed.1.usable) (enumerate_from (place + 1) (drop (place + 1) rows))))
at_type rows level place row is =
    let within : place < length rows = slice_get_within rows place row is in
    let here : Some (get_or rows place row) ≡ Some row = sym (slice_get-get_or rows place row within) ∙ is in
    let same : get_or rows place row ≡ row = cc in
    ap (λ l. map (λ (placed : ℕ × TypeRow). rolled rows level placed.0) (filter (λ (placed : ℕ × TypeRow). placed.1.usable) (enumerate_from place l)))
    (drop_more rows place row within ∙ ap (λ r. r ∷ drop (place + 1) rows) same)

pub usable_next : (rows : List TypeRow) (level place : ℕ) (row : TypeRow) (held : List ℕ) → slice_get rows place ≡ Some row → row.usable ≡ true
    → RolledSoFar rows level place held → RolledSoFar rows level (place + 1) (held ++ rolled rows level place ∷ [])
usable_next rows level place row held is usable so_far =
    let left : List (ℕ × TypeRow) = filter (λ (placed : ℕ × TypeRow). placed.1.usable) (enumerate_from (place + 1) (drop (place + 1) rows)) in
    append_assoc held (rolled rows level place ∷ []) (map (λ (placed : ℕ × TypeRow). rolled rows level placed.0) left)
    ∙ sym (ap (λ l. held ++ l) (at_type rows level place row is ∙ ap (map (λ (placed : ℕ × TypeRow). rolled rows level placed.0)) (cond-true row.usable ((place, row) ∷ left) left usable)))
    ∙ so_far

pub unusable_next : (rows : List TypeRow) (level place : ℕ) (row : TypeRow) (held : List ℕ) → slice_get rows place ≡ Some row → row.usable ≡ false
    → RolledSoFar rows level place held → RolledSoFar rows level (place + 1) held
unusable_next rows level place row held is unusable so_far =
    let left : List (ℕ × TypeRow) = filter (λ (placed : ℕ × TypeRow). placed.1.usable) (enumerate_from (place + 1) (drop (place + 1) rows)) in
    sym (ap (λ l. held ++ l) (at_type rows level place row is ∙ ap (map (λ (placed : ℕ × TypeRow). rolled rows level placed.0)) (cond-false row.usable ((place, row) ∷ left) left unusable)))
    ∙ so_far

pub no_types_left : (rows : List TypeRow) (level place : ℕ) (held : List ℕ) → length rows ≤ place → RolledSoFar rows level place held → held ≡ rolled_types rows level
no_types_left rows level place held past so_far =
    sym (append-nil held)
    ∙ sym (ap (λ l. held ++ map (λ (placed : ℕ × TypeRow). rolled rows level placed.0) (filter (λ (placed : ℕ × TypeRow). placed.1.usable) (enumerate_from place l))) (drop_all place rows past))
    ∙ so_far

pub next_used : (rows : List TypeRow) (level place : ℕ) (held : List ℕ) → place < length rows → option_map_or (λ (row : TypeRow). row.usable) (slice_get rows place) false ≡ true
    → RolledSoFar rows level place held → RolledSoFar rows level (place + 1) (held ++ rolled rows level place ∷ [])
next_used rows level place held within usable so_far =
    elim (slice_get_cases rows place).1 [
      | inl at ↦ usable_next rows level place at.0 held at.2 (sym (ap (λ o. option_map_or (λ (row : TypeRow). row.usable) o false) at.2) ∙ usable) so_far
      | inr past ↦ absurd (let far : length rows ≤ place = past.0 in omega arith)
    ]

pub next_unused : (rows : List TypeRow) (level place : ℕ) (held : List ℕ) → place < length rows → option_map_or (λ (row : TypeRow). row.usable) (slice_get rows place) false ≡ false
    → RolledSoFar rows level place held → RolledSoFar rows level (place + 1) held
next_unused rows level place held within unusable so_far =
    elim (slice_get_cases rows place).1 [
      | inl at ↦ unusable_next rows level place at.0 held at.2 (sym (ap (λ o. option_map_or (λ (row : TypeRow). row.usable) o false) at.2) ∙ unusable) so_far
      | inr past ↦ absurd (let far : length rows ≤ place = past.0 in omega arith)
    ]

pub heads_found : (rows : List TypeRow) (level count : ℕ) (found others : List ℕ) → count ≡ length rows → others ≡ rolled_types rows level
    → found ≡ filter (λ place. list_any (λ other. other == place) others) (range_with_len 0 count) → found ≡ heads rows level
unfolding heads
heads_found rows level count found others all is given =
    given ∙ ap (λ n. filter (λ place. list_any (λ other. other == place) others) (range_with_len 0 n)) all
    ∙ ap (λ xs. filter (λ place. list_any (λ other. other == place) xs) (range_with_len 0 (length rows))) is

pub rolled_found : (rows : List TypeRow) (level : ℕ) (held : List ℕ) → count_by (λ (row : TypeRow). row.usable) rows ≤ 63 → held ≡ rolled_types rows level → length held ≤ 63
rolled_found rows level held used is = let same = ap length is in let few = rolled_few rows level used in omega arith

pub heads_found_few : (rows : List TypeRow) (level : ℕ) (found others : List ℕ) → others ≡ rolled_types rows level → length others ≤ 63 → found ≡ heads rows level → length found ≤ 63
heads_found_few rows level found others is few heads_are =
    let same = ap length is in let all = ap length heads_are in
    let most = heads_few rows level (omega arith) in omega arith

-- the groups as they are made
pub groups_kept : (rows : List TypeRow) (level : ℕ) (numbered groups : List ℕ) (width : ℕ) → numbered ≡ heads rows level → length numbered ≤ 63
    → groups ≡ map (group_at rows level) (range_with_len 0 (length rows)) → width ≡ length numbered → AreGroups groups (width + 1)
groups_kept rows level numbered groups width heads_are few groups_are wide =
    let same = ap length heads_are in
    let made = groups_below rows level (omega arith) in
    let widths : length (heads rows level) + 1 ≡ width + 1 = omega arith in
    subst (λ (gs : List ℕ). AreGroups gs (width + 1)) (sym groups_are) (subst (λ (w : ℕ). AreGroups (map (group_at rows level) (range_with_len 0 (length rows))) w) widths made)

pub grouping_made : (rows : List TypeRow) (level : ℕ) (numbered groups : List ℕ) (width : ℕ) → numbered ≡ heads rows level
    → groups ≡ map (group_at rows level) (range_with_len 0 (length rows)) → width ≡ length numbered
    → record { level = level; groups = groups; width = width + 1 } ≡ grouping_of rows level
unfolding grouping_of
grouping_made rows level numbered groups width heads_are groups_are wide =
    let widths : width + 1 ≡ length (heads rows level) + 1 = (let same = ap length heads_are in omega arith) in
    let G : List ℕ → ℕ → Grouping = λ gs w. record { level = level; groups = gs; width = w } in
    ap (λ gs. G gs (width + 1)) groups_are ∙ ap (G (map (group_at rows level) (range_with_len 0 (length rows)))) widths
