-- Rows that have no fault as a tree of types.
use Rattle.std.proofs.Common.{◌≡◌, ℕ, ◌+◌, ◌-◌, ◌<◌, ◌≤◌, ◌==◌, Bool, true, false, cond, List, [], ◌∷◌, ◌++◌, map, length, take, get_or, Option, Some, None, nat_lt, nat_le, bytes_eq, count_by, slice_get, zero, suc, refl, sym, subst, ◌∙◌, ap, arith, option_map}
use Rattle.std.specs.Option.{option_map_or, option_or}
use Rattle.std.specs.List.{list_any, position_or_len, range_with_len}
use Rattle.std.proofs.lemmas.Bool.{or_parts, or_from, le-ltb, lt-leb, cond-false}
use Rattle.std.proofs.lemmas.Option.{none-some, same_Some}
use Rattle.std.proofs.lemmas.List.{length_push}
use Rattle.std.proofs.lemmas.List.Sums.{position_or_len_is, sum_by-cons}
use Rattle.std.proofs.lemmas.List.FromFn.{length-range_with_len, get_or-range_with_len}
use Rattle.mark_base.specs.declared.table_places.TypeId.{TypeId}
use Rattle.type_hierarchy.specs.declared.type_row.TypeRow.{TypeRow}
use Rattle.type_hierarchy.specs.declared.types_fault.TypesFault.TheVariants.{NameTwice, BadParent, TooMany}
use Rattle.type_hierarchy.specs.TypeTrees.{is_named, parent_of}
use Rattle.type_hierarchy.specs.TypeFaults.{first_place, is_twice, is_misplaced, name_twice, bad_parent, are_too_many, fault_of}
use Rattle.conf_model.specs.ConfNames.{TypeLine}
use Rattle.conf_model.specs.ConfFaults.{is_among, stands_twice}
use Rattle.conf_model.specs.ConfOf.{last_at, rows_from}
use Rattle.annotation_conf.proofs.SoundLists.{each_fails, each_of_map}
use Rattle.annotation_conf.proofs.SoundNames.{each_at}

-- a number below the count is its own place in the range
at_place : (test : ℕ → Bool) (count k : ℕ) → k < count → test (get_or (range_with_len 0 count) k 0) ≡ test k
at_place test count k lt = let same : 0 + k ≡ k = omega arith in ap test (get_or-range_with_len 0 count k 0 lt ∙ same)

no_place : (test : ℕ → Bool) (count : ℕ) → ((k : ℕ) → k < count → test k ≡ false) → first_place test count ≡ None
no_place test count before =
    let size : length (range_with_len 0 count) ≡ count = length-range_with_len 0 count in
    let place : position_or_len test (range_with_len 0 count) ≡ length (range_with_len 0 count) =
    position_or_len_is test (range_with_len 0 count) (length (range_with_len 0 count)) 0 (omega arith)
    (λ k lt. at_place test count k (omega (arith, size)) ∙ before k (omega (arith, size)))
    (λ lt. absurd (omega arith)) in
    ap (λ n. cond (nat_lt n (length (range_with_len 0 count))) (Some n) None) place
    ∙ cond-false (nat_lt (length (range_with_len 0 count)) (length (range_with_len 0 count))) (Some (length (range_with_len 0 count))) None (le-ltb (length (range_with_len 0 count)) (length (range_with_len 0 count)) (omega arith))

-- no earlier row has the name of a row
no_earlier : (rows : List TypeRow) → stands_twice (map (λ row. row.name) rows) ≡ false → (place : ℕ) (row : TypeRow) → slice_get rows place ≡ Some row
    → list_any (is_named row.name) (take place rows) ≡ false
no_earlier [] once place row e = absurd (none-some row e)
no_earlier (x ∷ rows) once zero row e = refl
no_earlier (x ∷ rows) once (suc place) row e =
    let both = or_parts (is_among (map (λ (r : TypeRow). r.name) rows) x.name) (stands_twice (map (λ (r : TypeRow). r.name) rows)) once in
    or_from (is_named row.name x) (list_any (is_named row.name) (take place rows))
    (each_at (λ (r : TypeRow). bytes_eq x.name r.name ≡ false) rows place row
    (each_of_map (λ name. bytes_eq x.name name ≡ false) (λ (r : TypeRow). r.name) rows (each_fails (bytes_eq x.name) (map (λ (r : TypeRow). r.name) rows) both.0)) e)
    (no_earlier rows both.1 place row e)

pub names_once : (rows : List TypeRow) → stands_twice (map (λ row. row.name) rows) ≡ false → name_twice rows ≡ None
unfolding name_twice
names_once rows once =
    no_place (is_twice rows) (length rows) (λ k lt. go k (slice_get rows k) refl)
  where
    go : (k : ℕ) (o : Option TypeRow) → slice_get rows k ≡ o → option_map_or (λ (row : TypeRow). list_any (is_named row.name) (take k rows)) (slice_get rows k) false ≡ false
    go k None e = ap (λ o. option_map_or (λ (row : TypeRow). list_any (is_named row.name) (take k rows)) o false) e
    go k (Some row) e = ap (λ o. option_map_or (λ (row : TypeRow). list_any (is_named row.name) (take k rows)) o false) e ∙ no_earlier rows once k row e

-- from a place on, each row's parent stands before it
abbrev pub ParentsBelow : ℕ → List TypeRow → Type 0
ParentsBelow n [] = Unit {0}
ParentsBelow n (row ∷ rows) = ((parent : TypeId) → row.parent ≡ Some parent → parent.n < n) × ParentsBelow (n + 1) rows

pub ParentsBelow-append : (n : ℕ) (xs ys : List TypeRow) (m : ℕ) → n + length xs ≡ m → ParentsBelow n xs → ParentsBelow m ys → ParentsBelow n (xs ++ ys)
ParentsBelow-append n [] ys m e a b = let same : m ≡ n = omega arith in subst (λ k. ParentsBelow k ys) same b
ParentsBelow-append n (x ∷ xs) ys m e a b = (a.0, ParentsBelow-append (n + 1) xs ys m (omega arith) a.1 b)

no_misplaced : (n : ℕ) (rows : List TypeRow) → ParentsBelow n rows → (k m : ℕ) → n + k ≡ m → option_map_or (λ (parent : TypeId). nat_le m parent.n) (parent_of rows k) false ≡ false
no_misplaced n [] a k m e = refl
no_misplaced n (row ∷ rows) a zero m e = go row.parent refl
  where
    go : (o : Option TypeId) → row.parent ≡ o → option_map_or (λ (parent : TypeId). nat_le m parent.n) o false ≡ false
    go None f = refl
    go (Some parent) f = let h = a.0 parent f in lt-leb m parent.n (omega arith)
no_misplaced n (row ∷ rows) a (suc k) m e = no_misplaced (n + 1) rows a.1 k m (omega arith)

pub parents_stand : (rows : List TypeRow) → ParentsBelow 0 rows → bad_parent rows ≡ None
unfolding bad_parent
parents_stand rows a = no_place (is_misplaced rows) (length rows) (λ k lt. no_misplaced 0 rows a k k (omega arith))

pub no_fault : (rows : List TypeRow) → stands_twice (map (λ row. row.name) rows) ≡ false → ParentsBelow 0 rows → length rows ≤ 256 → count_by (λ row. row.usable) rows ≤ 63
    → fault_of rows ≡ None
unfolding fault_of
no_fault rows once below few usable =
    ap (λ o. option_or (option_map NameTwice o) (option_or (option_map BadParent (bad_parent rows)) (cond (are_too_many rows) (Some TooMany) None))) (names_once rows once)
    ∙ ap (λ o. option_or (option_map BadParent o) (cond (are_too_many rows) (Some TooMany) None)) (parents_stand rows below)
    ∙ cond-false (are_too_many rows) (Some TooMany) None
    (or_from (nat_lt 256 (length rows)) (nat_lt 63 (count_by (λ (row : TypeRow). row.usable) rows)) (le-ltb 256 (length rows) few) (le-ltb 63 (count_by (λ (row : TypeRow). row.usable) rows) usable))

-- the rows of type lines
pub length-rows_from : (first : ℕ) (event : Bool) (before lines : List TypeLine) → length (rows_from first event before lines) ≡ length lines
length-rows_from first event before [] = refl
length-rows_from first event before (line ∷ lines) = ap suc (length-rows_from first event (before ++ line ∷ []) lines)

pub names-rows_from : (first : ℕ) (event : Bool) (before lines : List TypeLine) → map (λ (row : TypeRow). row.name) (rows_from first event before lines) ≡ map (λ (line : TypeLine). line.name) lines
names-rows_from first event before [] = refl
names-rows_from first event before (line ∷ lines) = ap (λ names. line.name ∷ names) (names-rows_from first event (before ++ line ∷ []) lines)

pub usable-rows_from : (first : ℕ) (event : Bool) (before lines : List TypeLine) → count_by (λ (row : TypeRow). row.usable) (rows_from first event before lines) ≡ count_by (λ (line : TypeLine). line.usable) lines
usable-rows_from first event before [] = refl
usable-rows_from first event before (line ∷ lines) =
    sum_by-cons (λ (row : TypeRow). cond row.usable 1 0) (record { name = line.name; parent = cond (line.depth == 0) None (option_map (λ place. record { n = place }) (last_at (line.depth - 1) first before)); usable = line.usable; event = event })
    (rows_from first event (before ++ line ∷ []) lines)
    ∙ ap (λ n. cond line.usable 1 0 + n) (usable-rows_from first event (before ++ line ∷ []) lines)
    ∙ sym (sum_by-cons (λ (l : TypeLine). cond l.usable 1 0) line lines)

-- the last line that stands so deep is one of the lines
pub last_at_within : (depth place : ℕ) (lines : List TypeLine) (p : ℕ) → last_at depth place lines ≡ Some p → p < place + length lines
last_at_within depth place [] p e = absurd (none-some p e)
last_at_within depth place (line ∷ lines) p e = go (last_at depth (place + 1) lines) refl (λ q f. last_at_within depth (place + 1) lines q f) (line.depth == depth) e
  where
    go : (o : Option ℕ) → last_at depth (place + 1) lines ≡ o → ((q : ℕ) → last_at depth (place + 1) lines ≡ Some q → q < place + 1 + length lines)
        → (b : Bool) → option_or o (cond b (Some place) None) ≡ Some p → p < place + suc (length lines)
    go None f h true g = let same : place ≡ p = same_Some place p g in omega arith
    go None f h false g = absurd (none-some p g)
    go (Some q) f h b g = let same : q ≡ p = same_Some q p g in let lt = h q f in omega arith

pub below-rows_from : (first : ℕ) (event : Bool) (before lines : List TypeLine) (n : ℕ) → first + length before ≡ n → ParentsBelow n (rows_from first event before lines)
below-rows_from first event before [] n e = tt
below-rows_from first event before (line ∷ lines) n e = (
  (λ parent f. go (line.depth == 0) (last_at (line.depth - 1) first before) refl parent f),
  below-rows_from first event (before ++ line ∷ []) lines (n + 1) (omega (arith, length_push before line)),
)
  where
    go : (b : Bool) (o : Option ℕ) → last_at (line.depth - 1) first before ≡ o → (parent : TypeId) → cond b None (option_map (λ (place : ℕ). record { n = place }) o) ≡ Some parent → parent.n < n
    go true o f parent g = absurd (none-some parent g)
    go false None f parent g = absurd (none-some parent g)
    go false (Some p) f parent g =
        let within = last_at_within (line.depth - 1) first before p f in
        let same : p ≡ parent.n = ap (λ (t : Option TypeId). option_map_or (λ (id : TypeId). id.n) t p) g in
        omega arith
