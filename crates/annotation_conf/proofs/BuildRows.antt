-- One type line more: the rows, and the last lines of each depth.
use Rattle.std.proofs.Common.{◌≡◌, ℕ, ◌+◌, ◌-◌, ◌<◌, ◌==◌, Bool, true, false, cond, List, [], ◌∷◌, ◌++◌, Option, Some, None, suc, option_map, length, get_or, take, drop, map, refl, sym, ◌∙◌, ap, arith, inl, inr, add-one, drop-cons}
use Rattle.std.specs.Option.{option_or}
use Rattle.std.specs.BTreeMap.{BTreeMap, get, is_at}
use Rattle.std.specs.Ordering.{nat_cmp, is_eq}
use Rattle.std.proofs.lemmas.Bool.{ne_eqb, eq-eqb, cases_eq}
use Rattle.std.proofs.lemmas.List.{take_more, map-append, append_assoc, length-take-le, length-map}
use Rattle.type_hierarchy.specs.declared.type_row.TypeRow.{TypeRow}
use Rattle.annotation_conf.specs.declared.file.TypeLine.{TypeLine as TypeLineValue}
use Rattle.conf_model.specs.ConfNames.{TypeLine}
use Rattle.conf_model.specs.ConfOf.{rows_from, last_at}
use Rattle.annotation_conf.specs.BuildTold.{bare_type, FindsDepths, parent_by}
use Rattle.annotation_conf.proofs.BuildOrder.{cmp_same, nat_apart}

or_more : (a b : Bool) (x y : ℕ) (o : Option ℕ) → option_or (cond a (Some x) o) (cond b (Some y) None) ≡ cond a (Some x) (option_or o (cond b (Some y) None))
or_more true b x y o = refl
or_more false b x y o = refl

-- the last line of a depth, one line more
last_push : (depth place : ℕ) (before : List TypeLine) (line : TypeLine)
    → last_at depth place (before ++ line ∷ []) ≡ cond (line.depth == depth) (Some (place + length before)) (last_at depth place before)
last_push depth place [] line = let same : place ≡ place + 0 = omega arith in ap (λ k. cond (line.depth == depth) (Some k) None) same
last_push depth place (l ∷ before) line =
    let same : place + 1 + length before ≡ place + suc (length before) = omega arith in
    ap (λ o. option_or o (cond (l.depth == depth) (Some place) None)) (last_push depth (place + 1) before line ∙ ap (λ k. cond (line.depth == depth) (Some k) (last_at depth (place + 1) before)) same)
    ∙ or_more (line.depth == depth) (l.depth == depth) (place + suc (length before)) place (last_at depth (place + 1) before)

at_depth : (a b : ℕ) → is_eq (nat_cmp a b) ≡ (a == b)
at_depth a b =
    elim (cases_eq a b) [
      | inl same ↦ ap is_eq (cmp_same a b same) ∙ sym (eq-eqb a b same)
      | inr apart ↦ nat_apart a b apart ∙ sym (ne_eqb a b apart)
    ]

pub depths_more : (all : List TypeLineValue) (i first : ℕ) (d : TypeLineValue) (before after : BTreeMap ℕ ℕ) (place : ℕ) → i < length all → place ≡ first + i
    → FindsDepths first (map bare_type (take i all)) before
    → ((q : ℕ) → get nat_cmp after q ≡ cond (is_at (nat_cmp (get_or all i d).depth) q) (Some place) (get nat_cmp before q))
    → FindsDepths first (map bare_type (take (i + 1) all)) after
depths_more all i first d before after place within is finds updates depth =
    let size : first + length (map bare_type (take i all)) ≡ place = omega (arith, length-map (take i all) bare_type, length-take-le i all (omega arith)) in
    updates depth
    ∙ ap (λ b. cond b (Some place) (get nat_cmp before depth)) (at_depth (get_or all i d).depth depth)
    ∙ ap (λ o. cond ((get_or all i d).depth == depth) (Some place) o) (finds depth)
    ∙ ap (λ k. cond ((get_or all i d).depth == depth) (Some k) (last_at depth first (map bare_type (take i all)))) (sym size)
    ∙ sym (ap (last_at depth first) (ap (map bare_type) (take_more all i d within) ∙ map-append bare_type (take i all) (get_or all i d ∷ []))
    ∙ last_push depth first (map bare_type (take i all)) (bare_type (get_or all i d)))

-- the row of a line, and the rows behind it
pub rows_more : (all : List TypeLineValue) (i first : ℕ) (d : TypeLineValue) (event : Bool) (last : BTreeMap ℕ ℕ) (rows : List TypeRow) (row : TypeRow) → i < length all
    → FindsDepths first (map bare_type (take i all)) last
    → row ≡ record { name = (get_or all i d).name; parent = parent_by last (get_or all i d).depth; usable = (get_or all i d).usable; event = event }
    → (rows ++ row ∷ []) ++ rows_from first event (map bare_type (take (i + 1) all)) (map bare_type (drop (i + 1) all))
    ≡ rows ++ rows_from first event (map bare_type (take i all)) (map bare_type (drop i all))
rows_more all i first d event last rows row within finds is =
    let one : TypeLineValue = get_or all i d in
    let next : drop i all ≡ get_or all i d ∷ drop (i + 1) all = rw (add-one, drop-cons all i d) refl in
    let whole : map bare_type (take (i + 1) all) ≡ map bare_type (take i all) ++ bare_type (get_or all i d) ∷ [] =
    ap (map bare_type) (take_more all i d within) ∙ map-append bare_type (take i all) (get_or all i d ∷ []) in
    append_assoc rows (row ∷ []) (rows_from first event (map bare_type (take (i + 1) all)) (map bare_type (drop (i + 1) all)))
    ∙ ap (λ b. rows ++ (row ∷ rows_from first event b (map bare_type (drop (i + 1) all)))) whole
    ∙ ap (λ r. rows ++ (r ∷ rows_from first event (map bare_type (take i all) ++ bare_type (get_or all i d) ∷ []) (map bare_type (drop (i + 1) all)))) is
    ∙ ap (λ (o : Option ℕ). rows ++ (record {
      name = (get_or all i d).name;
      parent = cond ((get_or all i d).depth == 0) None (option_map (λ place. record { n = place }) o);
      usable = (get_or all i d).usable;
      event = event;
    } ∷ rows_from first event (map bare_type (take i all) ++ bare_type (get_or all i d) ∷ []) (map bare_type (drop (i + 1) all)))) (finds ((get_or all i d).depth - 1))
    ∙ sym (ap (λ xs. rows ++ rows_from first event (map bare_type (take i all)) (map bare_type xs)) next)
