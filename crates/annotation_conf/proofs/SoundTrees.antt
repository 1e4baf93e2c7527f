-- The tree of types gives back how deep each type line stands, and those depths give the tree.
use Rattle.std.proofs.Common.{◌≡◌, ℕ, ◌+◌, ◌-◌, ◌<◌, ◌==◌, ◌&&◌, Bool, true, false, cond, if◌then◌else◌, List, [], ◌∷◌, ◌++◌, map, length, filter, Option, Some, None, nat_le, slice_get, zero, suc, refl, sym, subst, ◌∙◌, ap, ap₂, arith, inl, inr, option_map, option_and_then, append_assoc, append-nil}
use Rattle.std.specs.Option.{option_map_or, option_or}
use Rattle.std.specs.List.{AllByRecursion as Each, enumerate_from}
use Rattle.std.proofs.lemmas.Bool.{cond-true, cond-false}
use Rattle.std.proofs.lemmas.Option.{slice_get_within}
use Rattle.std.proofs.lemmas.List.{length_push, length-append, length-map, map-append}
use Rattle.std.proofs.lemmas.List.Elements.{filter-append}
use Rattle.mark_base.specs.declared.table_places.TypeId.{TypeId}
use Rattle.type_hierarchy.specs.declared.type_row.TypeRow.{TypeRow}
use Rattle.type_hierarchy.specs.TypeTrees.{parent_of}
use Rattle.conf_model.specs.ConfNames.{TypeLine}
use Rattle.conf_model.specs.ConfOf.{last_at, rows_from}
use Rattle.conf_model.specs.ConfText.{depth_by}
use Rattle.conf_model.specs.Sound.{bare_line, entity_lines, event_lines, steps_down}
use Rattle.annotation_conf.proofs.SoundLists.{each_weaker}
use Rattle.annotation_conf.proofs.SoundRows.{length-rows_from}
use Rattle.annotation_conf.proofs.SoundSteps.{HasParent, Reaches, parents_from, slice_get-right, filter_front}

-- rows of entity types, and then of event types
abbrev pub rows_of : List TypeLine → List TypeLine → List TypeRow
rows_of entities events = rows_from 0 false [] entities ++ rows_from (length entities) true [] events

-- each line of a section has its parent in some rows, in which the section begins at a place
abbrev pub FindsParents : ℕ → List TypeRow → List TypeLine → Type 0
FindsParents first rows lines = (k : ℕ) (line : TypeLine) → slice_get lines k ≡ Some line → HasParent first lines k line (parent_of rows (first + k))

-- the tree gives the depth of each line
pub depth_is : (first : ℕ) (rows : List TypeRow) (lines : List TypeLine) → FindsParents first rows lines
    → (steps k : ℕ) (line : TypeLine) → k < steps → slice_get lines k ≡ Some line → depth_by steps rows (first + k) ≡ line.depth
depth_is first rows lines finds zero k line lt e = absurd (omega arith)
depth_is first rows lines finds (suc steps) k line lt e =
    elim (finds k line e) [
      | inl root ↦ ap (λ o. option_map_or (λ (parent : TypeId). depth_by steps rows parent.n + 1) o 0) root.1 ∙ sym root.0
      | inr u ↦
          ap (λ o. option_map_or (λ (parent : TypeId). depth_by steps rows parent.n + 1) o 0) u.parent_is
          ∙ ap (λ n. n + 1) (depth_is first rows lines finds steps u.at u.upper (let b = u.before in omega arith) u.is)
          ∙ u.deep
    ]

reaches_none : (first : ℕ) → Reaches first [] 0
reaches_none first depth lt = absurd (omega arith)

within_left : {X : Type 0} (xs ys : List X) (k : ℕ) → k < length xs → slice_get (xs ++ ys) k ≡ slice_get xs k
within_left [] ys k lt = absurd (omega arith)
within_left (x ∷ xs) ys zero lt = refl
within_left (x ∷ xs) ys (suc k) lt = within_left xs ys k (omega arith)

pub entities_find : (entities events : List TypeLine) → steps_down 0 entities ≡ true → FindsParents 0 (rows_of entities events) entities
entities_find entities events steps k line e =
    let own : HasParent 0 entities k line (option_and_then (λ (row : TypeRow). row.parent) (slice_get (rows_from 0 false [] entities) k)) =
    parents_from 0 false entities [] entities refl steps (reaches_none 0) k line k (omega arith) e in
    let lt : k < length entities = slice_get_within entities k line e in
    let here : 0 + k ≡ k = omega arith in
    let same : slice_get (rows_of entities events) (0 + k) ≡ slice_get (rows_from 0 false [] entities) k =
    ap (slice_get (rows_of entities events)) here ∙ within_left (rows_from 0 false [] entities) (rows_from (length entities) true [] events) k (omega (arith, length-rows_from 0 false [] entities)) in
    subst (λ o. HasParent 0 entities k line (option_and_then (λ (row : TypeRow). row.parent) o)) (sym same) own

pub events_find : (entities events : List TypeLine) → steps_down 0 events ≡ true → FindsParents (length entities) (rows_of entities events) events
events_find entities events steps k line e =
    let own : HasParent (length entities) events k line (option_and_then (λ (row : TypeRow). row.parent) (slice_get (rows_from (length entities) true [] events) k)) =
    parents_from (length entities) true events [] events refl steps (reaches_none (length entities)) k line k (omega arith) e in
    let size : length (rows_from 0 false [] entities) ≡ length entities = length-rows_from 0 false [] entities in
    let same : slice_get (rows_of entities events) (length entities + k) ≡ slice_get (rows_from (length entities) true [] events) k =
    ap (λ n. slice_get (rows_of entities events) (n + k)) (sym size) ∙ slice_get-right (rows_from 0 false [] entities) (rows_from (length entities) true [] events) k in
    subst (λ o. HasParent (length entities) events k line (option_and_then (λ (row : TypeRow). row.parent) o)) (sym same) own

-- a type line without its number and what follows its name
abbrev pub bare : TypeLine → TypeLine
bare line = record { number = 0; depth = line.depth; spaced = false; gapped = false; usable = line.usable; name = line.name; pieces = [] }

pub bare_rows : (rows : List TypeRow) (first : ℕ) (event : Bool) (all before lines : List TypeLine) (place : ℕ) → all ≡ before ++ lines → first + length before ≡ place
    → ((k : ℕ) (line : TypeLine) → slice_get all k ≡ Some line → depth_by (length rows) rows (first + k) ≡ line.depth)
    → map (bare_line rows) (enumerate_from place (rows_from first event before lines)) ≡ map bare lines
bare_rows rows first event all before [] place is at deep = refl
bare_rows rows first event all before (line ∷ lines) place is at deep =
    let here : slice_get all (length before) ≡ Some line = ap (λ ls. slice_get ls (length before)) is ∙ at_seam before in
    let own : depth_by (length rows) rows place ≡ line.depth = ap (depth_by (length rows) rows) (sym at) ∙ deep (length before) line here in
    ap₂ (λ (d : ℕ) (ls : List TypeLine). record { number = 0; depth = d; spaced = false; gapped = false; usable = line.usable; name = line.name; pieces = [] } ∷ ls) own
    (bare_rows rows first event all (before ++ line ∷ []) lines (place + 1) (is ∙ sym (append_assoc before (line ∷ []) lines)) (omega (arith, length_push before line)) deep)
  where
    at_seam : (xs : List TypeLine) → slice_get (xs ++ line ∷ lines) (length xs) ≡ Some line
    at_seam [] = refl
    at_seam (x ∷ xs) = at_seam xs

pub enumerate_from-append : {X : Type 0} (n : ℕ) (xs ys : List X) (m : ℕ) → n + length xs ≡ m → enumerate_from n (xs ++ ys) ≡ enumerate_from n xs ++ enumerate_from m ys
enumerate_from-append n [] ys m e = let same : n ≡ m = omega arith in ap (λ k. enumerate_from k ys) same
enumerate_from-append n (x ∷ xs) ys m e = ap (λ ps. (n, x) ∷ ps) (enumerate_from-append (n + 1) xs ys m (omega arith))

pub each_placed : {X : Type 0} (P : X → Type 0) (n : ℕ) (xs : List X) → Each P xs → Each (λ (placed : ℕ × X). P placed.1) (enumerate_from n xs)
each_placed P n [] a = tt
each_placed P n (x ∷ xs) a = (a.0, each_placed P (n + 1) xs a.1)

pub event-rows_from : (first : ℕ) (event : Bool) (before lines : List TypeLine) → Each (λ (row : TypeRow). row.event ≡ event) (rows_from first event before lines)
event-rows_from first event before [] = tt
event-rows_from first event before (line ∷ lines) = (refl, event-rows_from first event (before ++ line ∷ []) lines)

filter_none : {X : Type 0} (p : X → Bool) (xs : List X) → Each (λ x. p x ≡ false) xs → filter p xs ≡ []
filter_none p xs a = filter_front p [] xs tt a

filter_all : {X : Type 0} (p : X → Bool) (xs : List X) → Each (λ x. p x ≡ true) xs → filter p xs ≡ xs
filter_all p xs a = ap (filter p) (sym (append-nil xs)) ∙ filter_front p xs [] a tt

-- the rows of entity types among all rows, and those of event types
pub filter_entities : (entities events : List TypeRow) → Each (λ (row : TypeRow). row.event ≡ false) entities → Each (λ (row : TypeRow). row.event ≡ true) events
    → filter (λ (placed : ℕ × TypeRow). if placed.1.event then false else true) (enumerate_from 0 (entities ++ events)) ≡ enumerate_from 0 entities
filter_entities entities events a b =
    let p : (ℕ × TypeRow) → Bool = λ placed. cond placed.1.event false true in
    ap (filter p) (enumerate_from-append 0 entities events (length entities) (omega arith))
    ∙ filter_front p (enumerate_from 0 entities) (enumerate_from (length entities) events)
    (each_placed (λ (row : TypeRow). cond row.event false true ≡ true) 0 entities (each_weaker (λ (row : TypeRow). row.event ≡ false) (λ (row : TypeRow). cond row.event false true ≡ true) (λ row e. cond-false row.event false true e) entities a))
    (each_placed (λ (row : TypeRow). cond row.event false true ≡ false) (length entities) events (each_weaker (λ (row : TypeRow). row.event ≡ true) (λ (row : TypeRow). cond row.event false true ≡ false) (λ row e. cond-true row.event false true e) events b))

pub filter_events : (entities events : List TypeRow) → Each (λ (row : TypeRow). row.event ≡ false) entities → Each (λ (row : TypeRow). row.event ≡ true) events
    → filter (λ (placed : ℕ × TypeRow). placed.1.event) (enumerate_from 0 (entities ++ events)) ≡ enumerate_from (length entities) events
filter_events entities events a b =
    let p : (ℕ × TypeRow) → Bool = λ placed. placed.1.event in
    ap (filter p) (enumerate_from-append 0 entities events (length entities) (omega arith))
    ∙ filter-append p (enumerate_from 0 entities) (enumerate_from (length entities) events)
    ∙ ap (λ xs. xs ++ filter p (enumerate_from (length entities) events)) (filter_none p (enumerate_from 0 entities) (each_placed (λ (row : TypeRow). row.event ≡ false) 0 entities a))
    ∙ filter_all p (enumerate_from (length entities) events) (each_placed (λ (row : TypeRow). row.event ≡ true) (length entities) events b)

-- entity types stand before event types
pub entities_stand_first : (entities events : List TypeRow) → Each (λ (row : TypeRow). row.event ≡ false) entities → Each (λ (row : TypeRow). row.event ≡ true) events
    → filter (λ (row : TypeRow). if row.event then false else true) (entities ++ events) ++ filter (λ (row : TypeRow). row.event) (entities ++ events) ≡ entities ++ events
entities_stand_first entities events a b =
    ap₂ (λ xs ys. xs ++ ys)
    (filter_front (λ (row : TypeRow). cond row.event false true) entities events
    (each_weaker (λ (row : TypeRow). row.event ≡ false) (λ (row : TypeRow). cond row.event false true ≡ true) (λ row e. cond-false row.event false true e) entities a)
    (each_weaker (λ (row : TypeRow). row.event ≡ true) (λ (row : TypeRow). cond row.event false true ≡ false) (λ row e. cond-true row.event false true e) events b))
    (filter-append (λ (row : TypeRow). row.event) entities events
    ∙ ap (λ xs. xs ++ filter (λ (row : TypeRow). row.event) events) (filter_none (λ (row : TypeRow). row.event) entities a)
    ∙ filter_all (λ (row : TypeRow). row.event) events b)

-- the lines of a tree are the lines that it was read from
pub entity_lines_are : (entities events : List TypeLine) → steps_down 0 entities ≡ true → entity_lines (rows_of entities events) ≡ map bare entities
entity_lines_are entities events steps =
    let rows = rows_of entities events in
    let size : length rows ≡ length entities + length events = length-append (rows_from 0 false [] entities) (rows_from (length entities) true [] events) ∙ ap₂ (λ a b. a + b) (length-rows_from 0 false [] entities) (length-rows_from (length entities) true [] events) in
    ap (map (bare_line rows)) (filter_entities (rows_from 0 false [] entities) (rows_from (length entities) true [] events) (event-rows_from 0 false [] entities) (event-rows_from (length entities) true [] events))
    ∙ bare_rows rows 0 false entities [] entities 0 refl refl
    (λ k line e. let lt : k < length entities = slice_get_within entities k line e in
    depth_is 0 rows entities (entities_find entities events steps) (length rows) k line (omega arith) e)

pub event_lines_are : (entities events : List TypeLine) → steps_down 0 events ≡ true → event_lines (rows_of entities events) ≡ map bare events
event_lines_are entities events steps =
    let rows = rows_of entities events in
    let size : length rows ≡ length entities + length events = length-append (rows_from 0 false [] entities) (rows_from (length entities) true [] events) ∙ ap₂ (λ a b. a + b) (length-rows_from 0 false [] entities) (length-rows_from (length entities) true [] events) in
    let none : length entities + 0 ≡ length (rows_from 0 false [] entities) = omega (arith, length-rows_from 0 false [] entities) in
    ap (map (bare_line rows)) (filter_events (rows_from 0 false [] entities) (rows_from (length entities) true [] events) (event-rows_from 0 false [] entities) (event-rows_from (length entities) true [] events))
    ∙ bare_rows rows (length entities) true events [] events (length (rows_from 0 false [] entities)) refl none
    (λ k line e. let lt : k < length events = slice_get_within events k line e in
    depth_is (length entities) rows events (events_find entities events steps) (length rows) k line (omega arith) e)

-- the tree rests on depths, names and usability alone
last_at-bare : (depth place : ℕ) (lines : List TypeLine) → last_at depth place (map bare lines) ≡ last_at depth place lines
last_at-bare depth place [] = refl
last_at-bare depth place (line ∷ lines) = ap (λ o. option_or o (cond (line.depth == depth) (Some place) None)) (last_at-bare depth (place + 1) lines)

pub rows_from-bare : (first : ℕ) (event : Bool) (before lines : List TypeLine) → rows_from first event (map bare before) (map bare lines) ≡ rows_from first event before lines
rows_from-bare first event before [] = refl
rows_from-bare first event before (line ∷ lines) =
    ap₂ (λ (o : Option ℕ) (rows : List TypeRow). record { name = line.name; parent = cond (line.depth == 0) None (option_map (λ (place : ℕ). record { n = place }) o); usable = line.usable; event = event } ∷ rows)
    (last_at-bare (line.depth - 1) first before)
    (ap (λ ls. rows_from first event ls (map bare lines)) (sym (map-append bare before (line ∷ []))) ∙ rows_from-bare first event (before ++ line ∷ []) lines)

pub steps_down-bare : (most : ℕ) (lines : List TypeLine) → steps_down most (map bare lines) ≡ steps_down most lines
steps_down-bare most [] = refl
steps_down-bare most (line ∷ lines) = ap (λ b. nat_le line.depth most && b) (steps_down-bare (line.depth + 1) lines)

pub rows_of-bare : (entities events : List TypeLine) → rows_of (map bare entities) (map bare events) ≡ rows_of entities events
rows_of-bare entities events =
    ap₂ (λ xs ys. xs ++ ys) (rows_from-bare 0 false [] entities)
    (ap (λ n. rows_from n true [] (map bare events)) (length-map entities bare) ∙ rows_from-bare (length entities) true [] events)

-- what the depths of a tree give
pub tree_is : (entities events : List TypeLine) → steps_down 0 entities ≡ true → steps_down 0 events ≡ true
    → rows_of (entity_lines (rows_of entities events)) (event_lines (rows_of entities events)) ≡ rows_of entities events
tree_is entities events a b = ap₂ rows_of (entity_lines_are entities events a) (event_lines_are entities events b) ∙ rows_of-bare entities events
