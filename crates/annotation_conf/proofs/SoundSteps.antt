-- Type lines of a section step down by one at most, and each has its parent among the earlier ones.
use Rattle.std.proofs.Common.{◌≡◌, ℕ, ◌+◌, ◌-◌, ◌<◌, ◌≤◌, ◌==◌, Bool, true, false, cond, List, [], ◌∷◌, ◌++◌, length, filter, Option, Some, None, nat_lt, nat_le, slice_get, zero, suc, refl, sym, subst, ◌∙◌, ap, arith, inl, inr, ◌⊎◌, option_map, option_and_then, append_assoc, is_some}
use Rattle.std.specs.Option.{option_map_or, option_or}
use Rattle.std.specs.List.{AllByRecursion as Each}
use Rattle.std.proofs.lemmas.Bool.{and_from, and_parts, lt-ltb, le-ltb, ltb-false, le-leb, eqb-true, eqb-false, cond-true, cond-false, true≢false, leb-true}
use Rattle.std.proofs.lemmas.Option.{none-some, same_Some, slice_get_within}
use Rattle.std.proofs.lemmas.List.{length_push}
use Rattle.mark_base.specs.declared.table_places.TypeId.{TypeId}
use Rattle.type_hierarchy.specs.declared.type_row.TypeRow.{TypeRow}
use Rattle.conf_model.specs.ConfNames.{TypeLine}
use Rattle.conf_model.specs.ConfFaults.{is_too_deep, last_of, line_before}
use Rattle.conf_model.specs.ConfOf.{last_at, rows_from}
use Rattle.conf_model.specs.Sound.{steps_down}
use Rattle.annotation_conf.proofs.SoundLists.{each_weaker, each_right}
use Rattle.annotation_conf.proofs.SoundFiles.{Ascend}

-- what a test keeps that the front passes and the rest does not
pub filter_front : {X : Type 0} (p : X → Bool) (front rest : List X) → Each (λ x. p x ≡ true) front → Each (λ x. p x ≡ false) rest → filter p (front ++ rest) ≡ front
filter_front p [] [] a b = refl
filter_front p [] (y ∷ rest) a b = cond-false (p y) (y ∷ filter p rest) (filter p rest) b.0 ∙ filter_front p [] rest tt b.1
filter_front p (x ∷ front) rest a b = cond-true (p x) (x ∷ filter p (front ++ rest)) (filter p (front ++ rest)) a.0 ∙ ap (λ xs. x ∷ xs) (filter_front p front rest a.1 b)

-- the numbers before and behind an item
pub ascend_before : {X : Type 0} (number_of : X → ℕ) (front : List X) (x : X) (rest : List X) → Ascend number_of (front ++ x ∷ rest) → Each (λ y. number_of y < number_of x) front
ascend_before number_of [] x rest a = tt
ascend_before number_of (y ∷ front) x rest a = ((each_right (λ z. number_of y < number_of z) front (x ∷ rest) a.0).0, ascend_before number_of front x rest a.1)

pub ascend_behind : {X : Type 0} (number_of : X → ℕ) (front : List X) (x : X) (rest : List X) → Ascend number_of (front ++ x ∷ rest) → Each (λ y. number_of x < number_of y) rest
ascend_behind number_of [] x rest a = a.0
ascend_behind number_of (y ∷ front) x rest a = ascend_behind number_of front x rest a.1

-- how deep a line may stand behind some lines
abbrev pub limit : List TypeLine → ℕ
limit before = option_map_or (λ (line : TypeLine). line.depth + 1) (last_of before) 0

last_push : (before : List TypeLine) (line : TypeLine) → last_of (before ++ line ∷ []) ≡ Some line
last_push before line =
    let size : length (before ++ line ∷ []) - 1 ≡ length before = omega (arith, length_push before line) in
    ap (slice_get (before ++ line ∷ [])) size ∙ at_end before
  where
    at_end : (xs : List TypeLine) → slice_get (xs ++ line ∷ []) (length xs) ≡ Some line
    at_end [] = refl
    at_end (x ∷ xs) = at_end xs

pub limit_push : (before : List TypeLine) (line : TypeLine) → limit (before ++ line ∷ []) ≡ line.depth + 1
limit_push before line = ap (λ o. option_map_or (λ (l : TypeLine). l.depth + 1) o 0) (last_push before line)

not_deep : (depth : ℕ) (o : Option TypeLine) → is_too_deep depth o ≡ false → depth ≤ option_map_or (λ (line : TypeLine). line.depth + 1) o 0
not_deep depth None e = ltb-false 0 depth e
not_deep depth (Some line) e = ltb-false (line.depth + 1) depth e

-- lines that are not too deep step down by one at most
pub steps_from : (all before lines : List TypeLine) → all ≡ before ++ lines → Ascend (λ (line : TypeLine). line.number) all
    → Each (λ (line : TypeLine). is_too_deep line.depth (line_before line.number all) ≡ false) lines → steps_down (limit before) lines ≡ true
steps_from all before [] is a e = refl
steps_from all before (line ∷ lines) is a e =
    let split : Ascend (λ (l : TypeLine). l.number) (before ++ line ∷ lines) = subst (Ascend (λ (l : TypeLine). l.number)) is a in
    let kept : filter (λ (l : TypeLine). nat_lt l.number line.number) all ≡ before =
    ap (filter (λ (l : TypeLine). nat_lt l.number line.number)) is
    ∙ filter_front (λ (l : TypeLine). nat_lt l.number line.number) before (line ∷ lines)
    (each_weaker (λ (l : TypeLine). l.number < line.number) (λ (l : TypeLine). nat_lt l.number line.number ≡ true) (λ l h. lt-ltb l.number line.number h) before (ascend_before (λ (l : TypeLine). l.number) before line lines split)) (
      le-ltb line.number line.number (omega arith),
      each_weaker (λ (l : TypeLine). line.number < l.number) (λ (l : TypeLine). nat_lt l.number line.number ≡ false) (λ l h. le-ltb l.number line.number (omega arith)) lines (ascend_behind (λ (l : TypeLine). l.number) before line lines split),
    ) in
    let low : line.depth ≤ limit before = not_deep line.depth (last_of before) (sym (ap (λ ls. is_too_deep line.depth (last_of ls)) kept) ∙ e.0) in
    and_from (nat_le line.depth (limit before)) (steps_down (line.depth + 1) lines) (le-leb line.depth (limit before) low)
    (subst (λ m. steps_down m lines ≡ true) (limit_push before line) (steps_from all (before ++ line ∷ []) lines (is ∙ sym (append_assoc before (line ∷ []) lines)) a e.1))

-- the last line of a depth, with one more line
last_at_push : (depth place : ℕ) (before : List TypeLine) (line : TypeLine)
    → last_at depth place (before ++ line ∷ []) ≡ option_or (cond (line.depth == depth) (Some (place + length before)) None) (last_at depth place before)
last_at_push depth place [] line =
    let same : place ≡ place + 0 = omega arith in
    elim (line.depth == depth) as (λ b. cond b (Some place) None ≡ option_or (cond b (Some (place + 0)) None) None) [ true ↦ ap Some same | false ↦ refl ]
last_at_push depth place (x ∷ before) line =
    let more : place + 1 + length before ≡ place + suc (length before) = omega arith in
    ap (λ o. option_or o (cond (x.depth == depth) (Some place) None)) (last_at_push depth (place + 1) before line)
    ∙ elim (line.depth == depth) as (λ b. option_or (option_or (cond b (Some (place + 1 + length before)) None) (last_at depth (place + 1) before)) (cond (x.depth == depth) (Some place) None)
    ≡ option_or (cond b (Some (place + suc (length before))) None) (option_or (last_at depth (place + 1) before) (cond (x.depth == depth) (Some place) None))) [
      | true ↦ ap Some more
      | false ↦ refl
    ]

-- some lines have a line of each depth below a bound
abbrev pub Reaches : ℕ → List TypeLine → ℕ → Type 0
Reaches first before most = (depth : ℕ) → depth < most → is_some (last_at depth first before) ≡ true

pub reaches_push : (first : ℕ) (before : List TypeLine) (line : TypeLine) → line.depth ≤ limit before → Reaches first before (limit before) → Reaches first (before ++ line ∷ []) (line.depth + 1)
reaches_push first before line low a depth lt =
    ap is_some (last_at_push depth first before line) ∙ go (line.depth == depth) refl
  where
    go : (b : Bool) → (line.depth == depth) ≡ b → is_some (option_or (cond b (Some (first + length before)) None) (last_at depth first before)) ≡ true
    go true e = refl
    go false e = a depth (let ne : line.depth ≡ depth → ⊥ = eqb-false line.depth depth e in omega arith)

-- where the last line of a depth stands
pub record IsLast (depth first : ℕ) (lines : List TypeLine) (p : ℕ) : Type 0 where
  pub at : ℕ
  pub line : TypeLine
  pub place : p ≡ first + at
  pub is : slice_get lines at ≡ Some line
  pub deep : line.depth ≡ depth

pub last_at_is : (depth first : ℕ) (lines : List TypeLine) (p : ℕ) → last_at depth first lines ≡ Some p → IsLast depth first lines p
last_at_is depth first [] p e = absurd (none-some p e)
last_at_is depth first (x ∷ lines) p e = go (last_at depth (first + 1) lines) refl (λ q f. last_at_is depth (first + 1) lines q f) (x.depth == depth) refl e
  where
    go : (o : Option ℕ) → last_at depth (first + 1) lines ≡ o → ((q : ℕ) → last_at depth (first + 1) lines ≡ Some q → IsLast depth (first + 1) lines q)
        → (b : Bool) → (x.depth == depth) ≡ b → option_or o (cond b (Some first) None) ≡ Some p → IsLast depth first (x ∷ lines) p
    go None f h true t g = record { at = 0; line = x; place = (let same : first ≡ p = same_Some first p g in omega arith); is = refl; deep = eqb-true x.depth depth t }
    go None f h false t g = absurd (none-some p g)
    go (Some q) f h b t g =
        let w = h q f in
        record { at = suc w.at; line = w.line; place = (let same : q ≡ p = same_Some q p g in let at : q ≡ first + 1 + w.at = w.place in omega arith); is = w.is; deep = w.deep }

pub slice_get-left : {X : Type 0} (xs ys : List X) (k : ℕ) (x : X) → slice_get xs k ≡ Some x → slice_get (xs ++ ys) k ≡ Some x
slice_get-left [] ys k x e = absurd (none-some x e)
slice_get-left (z ∷ xs) ys zero x e = e
slice_get-left (z ∷ xs) ys (suc k) x e = slice_get-left xs ys k x e

pub slice_get-right : {X : Type 0} (xs ys : List X) (k : ℕ) → slice_get (xs ++ ys) (length xs + k) ≡ slice_get ys k
slice_get-right [] ys k = let same : 0 + k ≡ k = omega arith in ap (slice_get ys) same
slice_get-right (z ∷ xs) ys k = let same : suc (length xs) + k ≡ suc (length xs + k) = omega arith in ap (slice_get (z ∷ (xs ++ ys))) same ∙ slice_get-right xs ys k

-- a row's parent: none where its line is not indented, else the row of an earlier line that stands one less deep
pub record HasUpper (first : ℕ) (all : List TypeLine) (place : ℕ) (line : TypeLine) (parent : Option TypeId) : Type 0 where
  pub at : ℕ
  pub upper : TypeLine
  pub before : at < place
  pub is : slice_get all at ≡ Some upper
  pub deep : upper.depth + 1 ≡ line.depth
  pub parent_is : parent ≡ Some (record { n = first + at })

abbrev pub HasParent : ℕ → List TypeLine → ℕ → TypeLine → Option TypeId → Type 0
HasParent first all place line parent = ((line.depth ≡ 0) × (parent ≡ None)) ⊎ HasUpper first all place line parent

some_is : {X : Type 0} (o : Option X) → is_some o ≡ true → (x : X) × (o ≡ Some x)
some_is None e = absurd (true≢false (sym e))
some_is (Some x) e = (x, refl)

has_upper : (first : ℕ) (all before lines : List TypeLine) (line : TypeLine) (depth p : ℕ) → all ≡ before ++ lines → depth + 1 ≡ line.depth → last_at depth first before ≡ Some p
    → HasUpper first all (length before) line (option_map (λ (place : ℕ). record { n = place }) (last_at depth first before))
has_upper first all before lines line depth p is deep found = up (last_at_is depth first before p found)
  where
    up : IsLast depth first before p → HasUpper first all (length before) line (option_map (λ (place : ℕ). record { n = place }) (last_at depth first before))
    up w = record {
      at = w.at;
      upper = w.line;
      before = slice_get_within before w.at w.line w.is;
      is = ap (λ ls. slice_get ls w.at) is ∙ slice_get-left before lines w.at w.line w.is;
      deep = ap (λ n. n + 1) w.deep ∙ deep;
      parent_is = ap (option_map (λ (place : ℕ). record { n = place })) found ∙ ap (λ (n : ℕ). Some (record { n = n })) w.place;
    }

pub has_parent : (first : ℕ) (all before lines : List TypeLine) (line : TypeLine) → all ≡ before ++ lines → line.depth ≤ limit before → Reaches first before (limit before)
    → HasParent first all (length before) line (cond (line.depth == 0) None (option_map (λ (place : ℕ). record { n = place }) (last_at (line.depth - 1) first before)))
has_parent first all before lines line is low reaches = go (line.depth == 0) refl
  where
    go : (b : Bool) → (line.depth == 0) ≡ b → HasParent first all (length before) line (cond b None (option_map (λ (place : ℕ). record { n = place }) (last_at (line.depth - 1) first before)))
    go true e = inl (eqb-true line.depth 0 e, refl)
    go false e =
        let ne : line.depth ≡ 0 → ⊥ = eqb-false line.depth 0 e in
        let some = some_is (last_at (line.depth - 1) first before) (reaches (line.depth - 1) (omega arith)) in
        inr (has_upper first all before lines line (line.depth - 1) some.0 is (omega arith) some.1)

-- the row of each line has its parent
pub parents_from : (first : ℕ) (event : Bool) (all before lines : List TypeLine) → all ≡ before ++ lines → steps_down (limit before) lines ≡ true → Reaches first before (limit before)
    → (k : ℕ) (line : TypeLine) (place : ℕ) → length before + k ≡ place → slice_get lines k ≡ Some line
    → HasParent first all place line (option_and_then (λ (row : TypeRow). row.parent) (slice_get (rows_from first event before lines) k))
parents_from first event all before [] is steps reaches k line place at e = absurd (none-some line e)
parents_from first event all before (x ∷ lines) is steps reaches zero line place at e =
    let same : x ≡ line = same_Some x line e in
    let here : length before ≡ place = omega arith in
    let both = and_parts (nat_le x.depth (limit before)) (steps_down (x.depth + 1) lines) steps in
    let own : HasParent first all (length before) x (cond (x.depth == 0) None (option_map (λ (place : ℕ). record { n = place }) (last_at (x.depth - 1) first before))) =
    has_parent first all before (x ∷ lines) x is (leb-true x.depth (limit before) both.0) reaches in
    subst (λ p. HasParent first all p line (cond (x.depth == 0) None (option_map (λ (place : ℕ). record { n = place }) (last_at (x.depth - 1) first before)))) here
    (subst (λ (l : TypeLine). HasParent first all (length before) l (cond (x.depth == 0) None (option_map (λ (place : ℕ). record { n = place }) (last_at (x.depth - 1) first before)))) same own)
parents_from first event all before (x ∷ lines) is steps reaches (suc k) line place at e =
    let both = and_parts (nat_le x.depth (limit before)) (steps_down (x.depth + 1) lines) steps in
    let low : x.depth ≤ limit before = leb-true x.depth (limit before) both.0 in
    let lim : limit (before ++ x ∷ []) ≡ x.depth + 1 = limit_push before x in
    parents_from first event all (before ++ x ∷ []) lines (is ∙ sym (append_assoc before (x ∷ []) lines))
    (subst (λ m. steps_down m lines ≡ true) (sym lim) both.1) (subst (Reaches first (before ++ x ∷ [])) (sym lim) (reaches_push first before x low reaches))
    k line place (omega (arith, length_push before x)) e
