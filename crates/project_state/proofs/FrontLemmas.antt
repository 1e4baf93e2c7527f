-- Lists of which a front is done.
use Rattle.std.proofs.Common.{◌≡◌, ℕ, ◌<◌, ◌≤◌, ◌+◌, true, false, not, cond, List, [], ◌∷◌, ◌++◌, length, map, get_or, set, take, drop, Option, Some, None, zero, suc, refl, sym, ◌∙◌, ap, arith, slice_get}
use Rattle.std.specs.List.{filter, filter_map, zip, cons_option}
use Rattle.std.proofs.lemmas.List.{take_more, map-append}
use Rattle.std.proofs.lemmas.List.Elements.{filter-append}
use Rattle.entry_bytes.specs.declared.person.Person.{Person}
use Rattle.layer_model.specs.Annotations.{Annotations}
use Rattle.project_machine.specs.ProjectState.{Row, finished_row}
use Rattle.project_state.specs.Lending.{finished_part}

-- a list whose first elements are mapped, the next one mapped too
mapped_more_at : {X : Type 0} (f : X → X) (i : ℕ) (xs : List X) (d : X) → i < length xs → set (map f (take i xs) ++ drop i xs) i (f (get_or xs i d)) ≡ map f (take (suc i) xs) ++ drop (suc i) xs
mapped_more_at f i [] d h = absurd (omega arith)
mapped_more_at f zero (x ∷ xs) d h = refl
mapped_more_at {X = X} f (suc i) (x ∷ xs) d h = ap (λ (rest : List X). f x ∷ rest) (mapped_more_at f i xs d (omega arith))

-- the next element of a list whose first elements are mapped is as it was
mapped_next : {X : Type 0} (f : X → X) (i : ℕ) (xs : List X) (d : X) → i < length xs → get_or (map f (take i xs) ++ drop i xs) i d ≡ get_or xs i d
mapped_next f i [] d h = absurd (omega arith)
mapped_next f zero (x ∷ xs) d h = refl
mapped_next f (suc i) (x ∷ xs) d h = mapped_next f i xs d (omega arith)

pub mapped_more : {X : Type 0} (f : X → X) (i : ℕ) (xs now : List X) (d new : X) → i < length xs → now ≡ map f (take i xs) ++ drop i xs → new ≡ f (get_or now i d) → set now i new ≡ map f (take (i + 1) xs) ++ drop (i + 1) xs
mapped_more {X = X} f i xs now d new h e is =
    let next : i + 1 ≡ suc i = omega arith in
    ap (λ (x : X). set now i x) (is ∙ ap (λ (all : List X). f (get_or all i d)) e ∙ ap f (mapped_next f i xs d h))
    ∙ (ap (λ (all : List X). set all i (f (get_or xs i d))) e ∙ (mapped_more_at f i xs d h ∙ ap (λ n. map f (take n xs) ++ drop n xs) (sym next)))

-- ---- finished rows

-- the names of the annotators among people
abbrev pub annotators_in : List Person → List (List ℕ)
annotators_in people = map (λ (person : Person). person.name) (filter (λ (person : Person). not person.curator) people)

-- the finished layers of rows by holders
abbrev pub finished_in : List (List ℕ) → List Row → List (List ℕ × Annotations)
finished_in names rows = filter_map finished_row (zip names rows)

names_more : (people : List Person) (i : ℕ) (person : Person) → i < length people → annotators_in (take (i + 1) people) ≡ annotators_in (take i people) ++ annotators_in (get_or people i person ∷ [])
names_more people i person h =
    ap annotators_in (take_more people i person h)
    ∙ (ap (map (λ (one : Person). one.name)) (filter-append (λ (one : Person). not one.curator) (take i people) (get_or people i person ∷ []))
    ∙ map-append (λ (one : Person). one.name) (filter (λ (one : Person). not one.curator) (take i people)) (filter (λ (one : Person). not one.curator) (get_or people i person ∷ [])))

finished_next : (names : List (List ℕ)) (rows : List Row) (name : List ℕ) → finished_in (names ++ name ∷ []) rows ≡ finished_in names rows ++ finished_part name (slice_get rows (length names))
finished_next [] [] name = refl
finished_next [] (row ∷ rows) name = refl
finished_next (first ∷ names) [] name = refl
finished_next (first ∷ names) (row ∷ rows) name = by (finished_row (first, row)) (finished_next names rows name)
  where
    by : (o : Option (List ℕ × Annotations)) → finished_in (names ++ name ∷ []) rows ≡ finished_in names rows ++ finished_part name (slice_get rows (length names))
        → cons_option o (finished_in (names ++ name ∷ []) rows) ≡ cons_option o (finished_in names rows) ++ finished_part name (slice_get rows (length names))
    by None h = h
    by (Some held) h = ap (λ (all : List (List ℕ × Annotations)). held ∷ all) h

no_more : {X : Type 0} (xs : List X) → xs ++ [] ≡ xs
no_more [] = refl
no_more {X = X} (x ∷ xs) = ap (λ (all : List X). x ∷ all) (no_more xs)

one_more : (xs : List (List ℕ)) (x : List ℕ) → length (xs ++ x ∷ []) ≡ length xs + 1
one_more [] x = refl
one_more (y ∷ xs) x = let more = one_more xs x in omega arith

-- behind a curator the same annotators stand
pub names_behind_curator : (people : List Person) (i : ℕ) (person : Person) → i < length people → person ≡ get_or people i person → person.curator ≡ true → annotators_in (take (i + 1) people) ≡ annotators_in (take i people)
names_behind_curator people i person h is e =
    names_more people i person h ∙ (ap (λ (one : Person). annotators_in (take i people) ++ annotators_in (one ∷ [])) (sym is)
    ∙ (ap (λ b. annotators_in (take i people) ++ map (λ (one : Person). one.name) (cond (not b) (person ∷ []) [])) e ∙ no_more (annotators_in (take i people))))

-- behind an annotator there is one more
pub names_behind_annotator : (people : List Person) (i : ℕ) (person : Person) → i < length people → person ≡ get_or people i person → person.curator ≡ false → annotators_in (take (i + 1) people) ≡ annotators_in (take i people) ++ person.name ∷ []
names_behind_annotator people i person h is e =
    names_more people i person h ∙ (ap (λ (one : Person). annotators_in (take i people) ++ annotators_in (one ∷ [])) (sym is)
    ∙ ap (λ b. annotators_in (take i people) ++ map (λ (one : Person). one.name) (cond (not b) (person ∷ []) [])) e)

-- what is so far of the finished layers, and of the annotators
pub record SoFar (people : List Person) (rows : List Row) (i : ℕ) (found : List (List ℕ × Annotations)) (rater : ℕ) : Type 0 where
  pub so_far : found ≡ finished_in (annotators_in (take i people)) rows
  pub counted : rater ≡ length (annotators_in (take i people))
  pub few : rater ≤ i

pub behind_curator : (people : List Person) (rows : List Row) (i : ℕ) (person : Person) (found new : List (List ℕ × Annotations)) (rater next : ℕ) → i < length people → person ≡ get_or people i person → person.curator ≡ true
    → new ≡ found → next ≡ rater → SoFar people rows i found rater → SoFar people rows (i + 1) new next
behind_curator people rows i person found new rater next h is e same one before = record {
  so_far = same ∙ (before.so_far ∙ ap (λ names. finished_in names rows) (sym (names_behind_curator people i person h is e)));
  counted = one ∙ (before.counted ∙ ap (λ (names : List (List ℕ)). length names) (sym (names_behind_curator people i person h is e)));
  few = let few = before.few in omega arith;
}

pub behind_annotator : (people : List Person) (rows : List Row) (i : ℕ) (person : Person) (found new : List (List ℕ × Annotations)) (rater next : ℕ) → i < length people → person ≡ get_or people i person → person.curator ≡ false
    → new ≡ found ++ finished_part person.name (slice_get rows rater) → next ≡ rater + 1 → SoFar people rows i found rater → SoFar people rows (i + 1) new next
behind_annotator people rows i person found new rater next h is e more one before =
    let names : annotators_in (take (i + 1) people) ≡ annotators_in (take i people) ++ person.name ∷ [] = names_behind_annotator people i person h is e in
    record {
      so_far =
          more ∙ (ap (λ (all : List (List ℕ × Annotations)). all ++ finished_part person.name (slice_get rows rater)) before.so_far
          ∙ (ap (λ n. finished_in (annotators_in (take i people)) rows ++ finished_part person.name (slice_get rows n)) before.counted
          ∙ (sym (finished_next (annotators_in (take i people)) rows person.name) ∙ ap (λ all. finished_in all rows) (sym names))));
      counted = one ∙ (ap (λ n. n + 1) before.counted ∙ (sym (one_more (annotators_in (take i people)) person.name) ∙ ap (λ (all : List (List ℕ)). length all) (sym names)));
      few = let few = before.few in omega arith;
    }

-- ---- a slice that is written

-- a list all of which is replaced
pub whole_replaced : {X : Type 0} (n : ℕ) (new old : List X) → n ≡ length old → length new ≡ length old → take n (new ++ drop (length new) old) ≡ new
whole_replaced n [] [] e same = ap (λ k. take k []) e
whole_replaced n [] (y ∷ old) e same = absurd (omega arith)
whole_replaced n (x ∷ new) [] e same = absurd (omega arith)
whole_replaced {X = X} n (x ∷ new) (y ∷ old) e same = ap (λ k. take k (x ∷ (new ++ drop (length new) old))) e ∙ ap (λ (all : List X). x ∷ all) (whole_replaced (length old) new old refl (omega arith))
