-- Layers that are posted in turn: on a document by annotator, and document by document.
use Rattle.std.proofs.Common.{◌≡◌, ℕ, ◌+◌, ◌<◌, ◌≤◌, Bool, true, false, not, ◌||◌, List, [], ◌∷◌, ◌++◌, length, map, get_or, set, take, replicate, Option, Some, None, zero, suc, refl, sym, ◌∙◌, ap, arith, append-nil, cond, bytes_eq}
use Rattle.std.specs.List.{filter, list_any}
use Rattle.std.proofs.lemmas.List.{take_more, map-append, get_or_push}
use Rattle.std.proofs.lemmas.List.Elements.{filter-append}
use Rattle.std.proofs.lemmas.List.Sums.{length-filter}
use Rattle.std.proofs.lemmas.Slice.Eq.{bytes_eq-Decides}
use Rattle.entry_bytes.specs.declared.person.Person.{Person}
use Rattle.layer_model.specs.Annotations.{Annotations}
use Rattle.match_scores.specs.Standing.{Layers, Standing, admitted}
use Rattle.project_machine.specs.People.{annotator_count}
use Rattle.project_machine.specs.ProjectState.{ProjectState, annotators, is_annotator}
use Rattle.project_commands.specs.Scoring.{posted_if}

-- ---- a document

-- the layers of the first annotators, and none of the others
laid : {X : Type 0} → (X → Option Annotations) → List X → ℕ → Layers
laid f [] k = []
laid f (x ∷ xs) zero = None ∷ laid f xs zero
laid f (x ∷ xs) (suc k) = f x ∷ laid f xs k

blank : {X : Type 0} (f : X → Option Annotations) (xs : List X) → replicate (length xs) None ≡ laid f xs 0
unfolding laid
blank f [] = refl
blank f (x ∷ xs) = ap (λ (rest : Layers). None ∷ rest) (blank f xs)

full : {X : Type 0} (f : X → Option Annotations) (xs : List X) (k : ℕ) → length xs ≤ k → laid f xs k ≡ map f xs
unfolding laid
full f [] k long = refl
full f (x ∷ xs) zero long = absurd (omega arith)
full f (x ∷ xs) (suc k) long = ap (λ (rest : Layers). f x ∷ rest) (full f xs k (omega arith))

put : {X : Type 0} (f : X → Option Annotations) (xs : List X) (k : ℕ) (d : X) → k < length xs → set (laid f xs k) k (f (get_or xs k d)) ≡ laid f xs (suc k)
unfolding laid
put f [] k d within = absurd (omega arith)
put f (x ∷ xs) zero d within = refl
put f (x ∷ xs) (suc k) d within = ap (λ (rest : Layers). f x ∷ rest) (put f xs k d (omega arith))

stay : {X : Type 0} (f : X → Option Annotations) (xs : List X) (k : ℕ) (d : X) → k < length xs → f (get_or xs k d) ≡ None → laid f xs k ≡ laid f xs (suc k)
unfolding laid
stay f [] k d within none = absurd (omega arith)
stay f (x ∷ xs) zero d within none = ap (λ (one : Option Annotations). one ∷ laid f xs zero) (sym none)
stay f (x ∷ xs) (suc k) d within none = ap (λ (rest : Layers). f x ∷ rest) (stay f xs k d (omega arith) none)

-- a document more, with the layers of the first annotators
pub laid_on : Standing → (List ℕ → Option Annotations) → List (List ℕ) → ℕ → Standing
laid_on s f names k = record { raters = s.raters; documents = s.documents ++ laid f names k ∷ [] }

set_last : {X : Type 0} (xs : List X) (x y : X) → set (xs ++ x ∷ []) (length xs) y ≡ xs ++ y ∷ []
set_last [] x y = refl
set_last {X = X} (z ∷ xs) x y = ap (λ (rest : List X). z ∷ rest) (set_last xs x y)

-- the layers so far: those of the first annotators on a document more
abbrev pub LaidSoFar : Standing → (List ℕ → Option Annotations) → List (List ℕ) → ℕ → Standing → Type 0
LaidSoFar s f names k now = now ≡ laid_on s f names k

pub none_laid : (s : Standing) (f : List ℕ → Option Annotations) (names : List (List ℕ)) (now : Standing) → s.raters ≡ length names → now ≡ admitted s → LaidSoFar s f names 0 now
unfolding laid_on
none_laid s f names now long is =
    is ∙ ap (λ (layers : Layers). record { raters = s.raters; documents = s.documents ++ layers ∷ [] }) (ap (λ (n : ℕ). replicate n None) long ∙ blank f names)

pub next_laid : (s : Standing) (f : List ℕ → Option Annotations) (names : List (List ℕ)) (k doc : ℕ) (d : List ℕ) (before after : Standing) → k < length names → doc ≡ length s.documents → LaidSoFar s f names k before
    → after ≡ posted_if before doc k (f (get_or names k d)) → LaidSoFar s f names (k + 1) after
unfolding laid_on
next_laid s f names k doc d before after within place front is =
    is ∙ (ap (λ (st : Standing). posted_if st doc k (f (get_or names k d))) front
    ∙ (ap (λ (n : ℕ). posted_if (laid_on s f names k) n k (f (get_or names k d))) place ∙ by (f (get_or names k d)) refl))
  where
    made : Layers → Standing
    made layers = record { raters = s.raters; documents = s.documents ++ layers ∷ [] }

    next : suc k ≡ k + 1
    next = omega arith

    by : (found : Option Annotations) → f (get_or names k d) ≡ found → posted_if (laid_on s f names k) (length s.documents) k found ≡ laid_on s f names (k + 1)
    by None e = ap (λ (layers : Layers). record { raters = s.raters; documents = s.documents ++ layers ∷ [] }) (stay f names k d within e ∙ ap (laid f names) next)
    by (Some layer) e =
        ap (λ (documents : List Layers). record { raters = s.raters; documents = documents })
        (ap (λ (layers : Layers). set (s.documents ++ laid f names k ∷ []) (length s.documents) (set layers k (Some layer))) (get_or_push s.documents (laid f names k) [] (length s.documents) refl)
        ∙ (set_last s.documents (laid f names k) (set (laid f names k) k (Some layer))
        ∙ ap (λ (layers : Layers). s.documents ++ layers ∷ []) (ap (set (laid f names k) k) (sym e) ∙ (put f names k d within ∙ ap (laid f names) next))))

more : {X : Type 0} (xs : List X) (x : X) → length (xs ++ x ∷ []) ≡ length xs + 1
more [] x = refl
more (y ∷ xs) x = let rest = more xs x in omega arith

-- the document more is there, and there are as many annotators as before
pub laid_there : (s : Standing) (f : List ℕ → Option Annotations) (names : List (List ℕ)) (k doc : ℕ) (now : Standing) → doc ≡ length s.documents → LaidSoFar s f names k now → doc < length now.documents
unfolding laid_on
laid_there s f names k doc now place front =
    let long : length now.documents ≡ length s.documents + 1 = ap (λ (st : Standing). length st.documents) front ∙ more s.documents (laid f names k) in
    omega (arith, place, long)

pub laid_raters : (s : Standing) (f : List ℕ → Option Annotations) (names : List (List ℕ)) (k : ℕ) (now : Standing) → LaidSoFar s f names k now → now.raters ≡ s.raters
unfolding laid_on
laid_raters s f names k now front = ap (λ (st : Standing). st.raters) front

pub all_laid : (s : Standing) (f : List ℕ → Option Annotations) (names : List (List ℕ)) (k : ℕ) (now : Standing) → length names ≤ k → LaidSoFar s f names k now
    → now ≡ record s { documents = s.documents ++ map f names ∷ [] }
unfolding laid_on
all_laid s f names k now long front = front ∙ ap (λ (layers : Layers). record { raters = s.raters; documents = s.documents ++ layers ∷ [] }) (full f names k long)

-- ---- all documents

mapped_twice : {X Y Z : Type 0} (f : X → Y) (g : Y → Z) (xs : List X) → map g (map f xs) ≡ map (λ x. g (f x)) xs
mapped_twice f g [] = refl
mapped_twice {X = X} {Y = Y} {Z = Z} f g (x ∷ xs) = ap (λ (rest : List Z). g (f x) ∷ rest) (mapped_twice f g xs)

-- what is made of each of some lines is what is made of each thing that they are lines of
pub of_lines : {X Y : Type 0} {Z : Type 0} (line_of : X → Y) (g : Y → Z) (lines : List Y) (xs : List X) → lines ≡ map line_of xs → map g lines ≡ map (λ x. g (line_of x)) xs
of_lines line_of g lines xs is = ap (map g) is ∙ mapped_twice line_of g xs

-- one line more
pub next_line : {X : Type 0} (g : X → Layers) (lines : List X) (i : ℕ) (line : X) (n : ℕ) (now after : Standing) → i < length lines → line ≡ get_or lines i line → now ≡ record { raters = n; documents = map g (take i lines) }
    → after ≡ record now { documents = now.documents ++ g line ∷ [] } → after ≡ record { raters = n; documents = map g (take (i + 1) lines) }
next_line {X = X} g lines i line n now after within here front is =
    is ∙ (ap (λ (st : Standing). record st { documents = st.documents ++ g line ∷ [] }) front
    ∙ ap (λ (documents : List Layers). record { raters = n; documents = documents })
    (ap (λ (x : X). map g (take i lines) ++ g x ∷ []) here ∙ (sym (map-append g (take i lines) (get_or lines i line ∷ [])) ∙ ap (map g) (sym (take_more lines i line within)))))

-- ---- people

any_at : {X : Type 0} (p : X → Bool) (xs : List X) (k : ℕ) (d : X) → k < length xs → p (get_or xs k d) ≡ true → list_any p xs ≡ true
any_at p [] k d within passes = absurd (omega arith)
any_at p (x ∷ xs) zero d within passes = ap (λ (b : Bool). b || list_any p xs) passes
any_at p (x ∷ xs) (suc k) d within passes = ap (λ (b : Bool). p x || b) (any_at p xs k d (omega arith) passes) ∙ or_true (p x)
  where
    or_true : (b : Bool) → (b || true) ≡ true
    or_true true = refl
    or_true false = refl

-- each of the annotators' names is an annotator's
pub annotates : (s : ProjectState) (names : List (List ℕ)) (k : ℕ) (d : List ℕ) → names ≡ annotators s → k < length names → is_annotator s (get_or names k d) ≡ true
annotates s names k d are within =
    ap (λ (all : List (List ℕ)). list_any (bytes_eq (get_or names k d)) all) (sym are) ∙ any_at (bytes_eq (get_or names k d)) names k d within ((bytes_eq-Decides (get_or names k d) (get_or names k d)).1 refl)

named : (people : List Person) → length (map (λ (person : Person). person.name) people) ≡ length people
named [] = refl
named (person ∷ people) = ap suc (named people)

-- there are as many names of annotators as there are annotators
pub annotators_counted : (s : ProjectState) → length (annotators s) ≡ annotator_count s.people
annotators_counted s = named (filter (λ (person : Person). not person.curator) s.people) ∙ length-filter (λ (person : Person). not person.curator) s.people

-- the names of the annotators among people
abbrev pub annotators_in : List Person → List (List ℕ)
annotators_in people = map (λ (person : Person). person.name) (filter (λ (person : Person). not person.curator) people)

names_more : (people : List Person) (i : ℕ) (person : Person) → i < length people → annotators_in (take (i + 1) people) ≡ annotators_in (take i people) ++ annotators_in (get_or people i person ∷ [])
names_more people i person within =
    ap annotators_in (take_more people i person within)
    ∙ (ap (map (λ (one : Person). one.name)) (filter-append (λ (one : Person). not one.curator) (take i people) (get_or people i person ∷ []))
    ∙ map-append (λ (one : Person). one.name) (filter (λ (one : Person). not one.curator) (take i people)) (filter (λ (one : Person). not one.curator) (get_or people i person ∷ [])))

-- behind a curator the same annotators stand
pub behind_curator : (people : List Person) (i : ℕ) (person : Person) → i < length people → person ≡ get_or people i person → person.curator ≡ true → annotators_in (take (i + 1) people) ≡ annotators_in (take i people)
behind_curator people i person within is e =
    names_more people i person within ∙ (ap (λ (one : Person). annotators_in (take i people) ++ annotators_in (one ∷ [])) (sym is)
    ∙ (ap (λ b. annotators_in (take i people) ++ map (λ (one : Person). one.name) (cond (not b) (person ∷ []) [])) e ∙ append-nil (annotators_in (take i people))))

-- behind an annotator there is one more
pub behind_annotator : (people : List Person) (i : ℕ) (person : Person) → i < length people → person ≡ get_or people i person → person.curator ≡ false → annotators_in (take (i + 1) people) ≡ annotators_in (take i people) ++ person.name ∷ []
behind_annotator people i person within is e =
    names_more people i person within ∙ (ap (λ (one : Person). annotators_in (take i people) ++ annotators_in (one ∷ [])) (sym is)
    ∙ ap (λ b. annotators_in (take i people) ++ map (λ (one : Person). one.name) (cond (not b) (person ∷ []) [])) e)
