-- The place of a name among rows, one row more, and the map that finds it.
use Rattle.std.proofs.Common.{◌≡◌, ℕ, ◌+◌, ◌<◌, ◌||◌, Bool, true, false, cond, List, [], ◌∷◌, ◌++◌, Option, Some, None, suc, length, get_or, take, bytes_eq, is_some, refl, sym, ◌∙◌, ap, arith}
use Rattle.std.specs.List.{position_from, list_any}
use Rattle.std.specs.Option.{option_map_or, option_or}
use Rattle.std.specs.Ordering.{nat_cmp, eq_by_cmp}
use Rattle.std.specs.Cmp.Lexicographic.{slice_cmp, texts_ties}
use Rattle.std.specs.BTreeMap.{BTreeMap, get}
use Rattle.std.proofs.lemmas.List.{take_more, length-take-le}
use Rattle.std.proofs.lemmas.Option.{slice_get-get_or}
use Rattle.std.proofs.lemmas.Slice.Eq.{bytes_eq-Decides}
use Rattle.type_hierarchy.specs.declared.type_row.TypeRow.{TypeRow}
use Rattle.type_hierarchy.specs.TypeTrees.{is_named}
use Rattle.type_hierarchy.specs.TypeFaults.{is_twice}
use Rattle.type_hierarchy.specs.Indexed.{FindsNames}

place_push : (test : TypeRow → Bool) (i : ℕ) (rows : List TypeRow) (row : TypeRow)
    → position_from test i (rows ++ row ∷ []) ≡ option_or (position_from test i rows) (cond (test row) (Some (i + length rows)) None)
place_push test i [] row = let none : i ≡ i + 0 = omega arith in ap (λ k. cond (test row) (Some k) None) none
place_push test i (r ∷ rows) row =
    let more : i + 1 + length rows ≡ i + suc (length rows) = omega arith in
    elim (test r) as (λ b. cond b (Some i) (position_from test (i + 1) (rows ++ row ∷ []))
    ≡ option_or (cond b (Some i) (position_from test (i + 1) rows)) (cond (test row) (Some (i + suc (length rows))) None)) [
      | true ↦ refl
      | false ↦ place_push test (i + 1) rows row ∙ ap (λ k. option_or (position_from test (i + 1) rows) (cond (test row) (Some k) None)) more
    ]

-- a row is found exactly where some row passes
found_any : (test : TypeRow → Bool) (i : ℕ) (rows : List TypeRow) → is_some (position_from test i rows) ≡ list_any test rows
found_any test i [] = refl
found_any test i (r ∷ rows) =
    elim (test r) as (λ b. is_some (cond b (Some i) (position_from test (i + 1) rows)) ≡ (b || list_any test rows)) [
      | true ↦ refl
      | false ↦ found_any test (i + 1) rows
    ]

-- the name of a row stands before it exactly where the map has it
pub twice_at : (rows : List TypeRow) (places : BTreeMap (List ℕ) ℕ) (i : ℕ) (row : TypeRow) (has : Bool) → i < length rows → FindsNames (take i rows) places
    → has ≡ is_some (get (slice_cmp nat_cmp) places (get_or rows i row).name) → is_twice rows i ≡ has
twice_at rows places i row has within finds is =
    ap (λ o. option_map_or (λ r. list_any (is_named r.name) (take i rows)) o false) (slice_get-get_or rows i row within)
    ∙ sym (found_any (is_named (get_or rows i row).name) 0 (take i rows))
    ∙ sym (ap is_some (finds (get_or rows i row).name)) ∙ sym is

or_none : (o : Option ℕ) → option_or o None ≡ o
or_none None = refl
or_none (Some k) = refl

none_found : (o : Option ℕ) → is_some o ≡ false → o ≡ None
none_found None e = refl
none_found (Some k) e = cc

same_name : (xs ys : List ℕ) → bytes_eq xs ys ≡ true → xs ≡ ys
same_name xs ys e = (bytes_eq-Decides xs ys).0 e

choose : (b : Bool) (m f : Option ℕ) (i : ℕ) → m ≡ f → (b ≡ true → f ≡ None) → cond b (Some i) m ≡ option_or f (cond b (Some i) None)
choose true m f i e h = sym (ap (λ o. option_or o (Some i)) (h refl))
choose false m f i e h = e ∙ sym (or_none f)

-- the map after one more name
pub finds_more : (rows : List TypeRow) (before after : BTreeMap (List ℕ) ℕ) (i : ℕ) (row : TypeRow) → i < length rows → FindsNames (take i rows) before
    → is_some (get (slice_cmp nat_cmp) before (get_or rows i row).name) ≡ false
    → ((name : List ℕ) → get (slice_cmp nat_cmp) after name ≡ cond (eq_by_cmp (slice_cmp nat_cmp) (get_or rows i row).name name) (Some i) (get (slice_cmp nat_cmp) before name))
    → FindsNames (take (i + 1) rows) after
finds_more rows before after i row within finds new updates name =
    let r : TypeRow = get_or rows i row in
    let size : 0 + length (take i rows) ≡ i = omega (arith, length-take-le i rows (omega arith)) in
    let whole : position_from (is_named name) 0 (take (i + 1) rows) ≡ option_or (position_from (is_named name) 0 (take i rows)) (cond (is_named name r) (Some i) None) =
    ap (position_from (is_named name) 0) (take_more rows i row within) ∙ place_push (is_named name) 0 (take i rows) r
    ∙ ap (λ k. option_or (position_from (is_named name) 0 (take i rows)) (cond (is_named name r) (Some k) None)) size in
    updates name
    ∙ ap (λ b. cond b (Some i) (get (slice_cmp nat_cmp) before name)) (sym (texts_ties r.name name))
    ∙ choose (bytes_eq r.name name) (get (slice_cmp nat_cmp) before name) (position_from (is_named name) 0 (take i rows)) i (finds name)
    (λ e. sym (finds name) ∙ sym (ap (get (slice_cmp nat_cmp) before) (same_name r.name name e)) ∙ none_found (get (slice_cmp nat_cmp) before r.name) new)
    ∙ sym whole
