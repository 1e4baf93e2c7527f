-- Counting the tables of a project anew: row by row, and document by document.
use Rattle.std.proofs.Common.{◌≡◌, ℕ, ◌+◌, ◌*◌, ◌<◌, ◌≤◌, List, [], ◌∷◌, ◌++◌, length, map, get_or, set, take, replicate, sum, sum_by, Option, Some, None, zero, suc, refl, sym, ◌∙◌, ap, subst, arith}
use Rattle.std.proofs.lemmas.List.{get_or-map, get_or-set_same, length-map, length-take-le, map-append, set-get_or, take-map, take_more}
use Rattle.std.proofs.lemmas.List.Sums.{sum_by-append, sum_by-cons, sum_by-take-le}
use Rattle.char_documents.specs.Tokens.{tokens_of}
use Rattle.kappa_alpha.specs.Standing as tables
use Rattle.kappa_alpha.specs.Standing.{Standing, admitted, document_at, posted, tokens_in}
use Rattle.project_machine.specs.ProjectState.{Row, Document, ProjectState, annotators, blank_row, document, no_document}
use Rattle.project_machine.specs.Legal.{IsDocumentKept, IsKept}
use Rattle.project_machine.specs.Tables.{labels_in, labelled, standing_of}
use Rattle.project_state.specs.Tables.Counting.{labelled_upto, labels_upto, posted_as, standing_upto}
use Rattle.project_state.proofs.TablesProofs.SpareLemmas.{few_labelled}

-- ---- the rows of a document

pub upto_none : (s : ProjectState) (text : List ℕ) (rows : List Row) → labels_upto s text 0 rows ≡ replicate (length rows) None
upto_none s text [] = refl
upto_none s text (r ∷ rows) = ap (λ (rest : List (Option (List ℕ))). None ∷ rest) (upto_none s text rows)

pub upto_all : (s : ProjectState) (text : List ℕ) (rows : List Row) → labels_upto s text (length rows) rows ≡ map (labels_in s text) rows
upto_all s text [] = refl
upto_all s text (r ∷ rows) = ap (λ (rest : List (Option (List ℕ))). labels_in s text r ∷ rest) (upto_all s text rows)

-- one row more
more_set : (s : ProjectState) (text : List ℕ) (n : ℕ) (rows : List Row) (d : Row) → n < length rows → set (labels_upto s text n rows) n (labels_in s text (get_or rows n d)) ≡ labels_upto s text (suc n) rows
more_set s text n [] d within = absurd (omega arith)
more_set s text zero (r ∷ rows) d within = refl
more_set s text (suc n) (r ∷ rows) d within = ap (λ (rest : List (Option (List ℕ))). labels_in s text r ∷ rest) (more_set s text n rows d (omega arith))

more_none : (s : ProjectState) (text : List ℕ) (n : ℕ) (rows : List Row) (d : Row) → n < length rows → labels_in s text (get_or rows n d) ≡ None → labels_upto s text n rows ≡ labels_upto s text (suc n) rows
more_none s text n [] d within none = absurd (omega arith)
more_none s text zero (r ∷ rows) d within none = ap (λ (one : Option (List ℕ)). one ∷ labels_upto s text zero rows) (sym none)
more_none s text (suc n) (r ∷ rows) d within none = ap (λ (rest : List (Option (List ℕ))). labels_in s text r ∷ rest) (more_none s text n rows d (omega arith) none)

pub document_all : (s : ProjectState) (d : Document) (n : ℕ) → n ≡ length d.rows → labelled_upto s n d ≡ labelled s d
document_all s d n all =
    ap (λ (k : ℕ). labelled_upto s k d) all ∙ ap (λ (rows : List (Option (List ℕ))). let one : tables.Document = record { tokens = length (tokens_of d.text); rows = rows } in one) (upto_all s d.text d.rows)

-- ---- the tables with a document that is counted

-- tables whose document of a number is another
abbrev pub with_document : Standing → ℕ → tables.Document → Standing
with_document t doc d = record t { documents = set t.documents doc d }

set_set : {X : Type 0} (xs : List X) (i : ℕ) (a b : X) → set (set xs i a) i b ≡ set xs i b
set_set {X = X} [] i a b = refl
set_set {X = X} (x ∷ xs) zero a b = refl
set_set {X = X} (x ∷ xs) (suc i) a b = ap (λ (rest : List X). x ∷ rest) (set_set xs i a b)

same_tables : (t : Standing) (a b : List tables.Document) → a ≡ b → record t { documents = a } ≡ record t { documents = b }
same_tables t a b e = ap (λ (ds : List tables.Document). let one : Standing = record t { documents = ds } in one) e

-- before the first row
pub rows_none : (t : Standing) (doc : ℕ) (d : tables.Document) → document_at t.documents doc ≡ d → t ≡ with_document t doc d
rows_none t doc d is = same_tables t t.documents (set t.documents doc d) (sym (ap (λ (one : tables.Document). set t.documents doc one) (sym is) ∙ set-get_or t.documents doc tables.no_document))

-- a row more
pub row_more : (s : ProjectState) (t : Standing) (doc rater : ℕ) (d : Document) (r : Row) → doc < length t.documents → rater < length d.rows → get_or d.rows rater blank_row ≡ r
    → posted_as (with_document t doc (labelled_upto s rater d)) doc rater (labels_in s d.text r) ≡ with_document t doc (labelled_upto s (rater + 1) d)
row_more s t doc rater d r within here is =
    ap (λ (one : Row). posted_as (with_document t doc (labelled_upto s rater d)) doc rater (labels_in s d.text one)) (sym is)
    ∙ (by (labels_in s d.text (get_or d.rows rater blank_row)) refl
    ∙ ap (λ (n : ℕ). with_document t doc (labelled_upto s n d)) (omega arith))
  where
    row_as : List (Option (List ℕ)) → tables.Document
    row_as rows = record { tokens = length (tokens_of d.text); rows = rows }

    by : (o : Option (List ℕ)) → labels_in s d.text (get_or d.rows rater blank_row) ≡ o → posted_as (with_document t doc (labelled_upto s rater d)) doc rater o ≡ with_document t doc (labelled_upto s (suc rater) d)
    by None none = ap (λ (rows : List (Option (List ℕ))). let one : tables.Document = record { tokens = length (tokens_of d.text); rows = rows } in with_document t doc one) (more_none s d.text rater d.rows blank_row here none)
    by (Some labels) some =
        same_tables t _ _
        (set_set t.documents doc (labelled_upto s rater d) (tables.with_row (document_at (set t.documents doc (labelled_upto s rater d)) doc) rater (Some labels))
        ∙ (ap (λ (x : tables.Document). set t.documents doc (tables.with_row x rater (Some labels))) (get_or-set_same t.documents doc (labelled_upto s rater d) tables.no_document within)
        ∙ ap (λ (rows : List (Option (List ℕ))). let one : tables.Document = record { tokens = length (tokens_of d.text); rows = rows } in set t.documents doc one)
        (ap (λ (o : Option (List ℕ)). set (labels_upto s d.text rater d.rows) rater o) (sym some) ∙ more_set s d.text rater d.rows blank_row here)))

-- ---- the documents

-- the tables have room for the next document
pub next_fits : (s : ProjectState) (doc : ℕ) → IsKept s → doc < length s.documents → tokens_in (map (labelled s) (take doc s.documents)) + length (tokens_of (document s doc).text) ≤ 8390656
unfolding tokens_in
next_fits s doc kept within =
    let all : 2 * sum_by (λ (d : tables.Document). d.tokens) (map (labelled s) s.documents) ≤ sum (map (λ (d : Document). length d.text) s.documents) + length s.documents = few_labelled s s.documents in
    let few : length s.documents ≤ 4096 = kept.few in
    let total : sum (map (λ (d : Document). length d.text) s.documents) ≤ 16777216 = kept.total in
    let size : length (map (labelled s) s.documents) ≡ length s.documents = length-map s.documents (labelled s) in
    let here : get_or (map (labelled s) s.documents) doc tables.no_document ≡ labelled s (document s doc) = get_or-map (labelled s) s.documents doc no_document tables.no_document within in
    let more : take (doc + 1) (map (labelled s) s.documents) ≡ take doc (map (labelled s) s.documents) ++ labelled s (document s doc) ∷ [] =
    take_more (map (labelled s) s.documents) doc tables.no_document (omega arith) ∙ ap (λ (d : tables.Document). take doc (map (labelled s) s.documents) ++ d ∷ []) here in
    let low : sum_by (λ (d : tables.Document). d.tokens) (take (doc + 1) (map (labelled s) s.documents)) ≤ sum_by (λ (d : tables.Document). d.tokens) (map (labelled s) s.documents) = sum_by-take-le (λ (d : tables.Document). d.tokens) (map (labelled s) s.documents) (doc + 1) in
    let parts : sum_by (λ (d : tables.Document). d.tokens) (take (doc + 1) (map (labelled s) s.documents)) ≡ sum_by (λ (d : tables.Document). d.tokens) (take doc (map (labelled s) s.documents)) + sum_by (λ (d : tables.Document). d.tokens) (labelled s (document s doc) ∷ []) =
    ap (sum_by (λ (d : tables.Document). d.tokens)) more ∙ sum_by-append (λ (d : tables.Document). d.tokens) (take doc (map (labelled s) s.documents)) (labelled s (document s doc) ∷ []) in
    let one : sum_by (λ (d : tables.Document). d.tokens) (labelled s (document s doc) ∷ []) ≡ length (tokens_of (document s doc).text) + 0 = sum_by-cons (λ (d : tables.Document). d.tokens) (labelled s (document s doc)) [] in
    let same : sum_by (λ (d : tables.Document). d.tokens) (map (labelled s) (take doc s.documents)) ≡ sum_by (λ (d : tables.Document). d.tokens) (take doc (map (labelled s) s.documents)) = ap (sum_by (λ (d : tables.Document). d.tokens)) (sym (take-map (labelled s) doc s.documents)) in
    omega arith

-- ---- the next document

-- what stands before it
pub front_of : (s : ProjectState) (doc : ℕ) (before behind : Standing) → before ≡ standing_upto s doc before.spare → behind ≡ record before { spare = behind.spare } → behind ≡ standing_upto s doc behind.spare
front_of s doc before behind is same = same ∙ ap (λ (t : Standing). let one : Standing = record t { spare = behind.spare } in one) is

at_end : (xs : List tables.Document) (x d : tables.Document) → get_or (xs ++ x ∷ []) (length xs) d ≡ x
at_end [] x d = refl
at_end (y ∷ xs) x d = at_end xs x d

set_end : (xs : List tables.Document) (x y : tables.Document) → set (xs ++ x ∷ []) (length xs) y ≡ xs ++ y ∷ []
set_end [] x y = refl
set_end (z ∷ xs) x y = ap (λ (rest : List tables.Document). z ∷ rest) (set_end xs x y)

before_it : (s : ProjectState) (doc : ℕ) → doc < length s.documents → length (map (labelled s) (take doc s.documents)) ≡ doc
before_it s doc within = length-map (take doc s.documents) (labelled s) ∙ length-take-le doc s.documents (omega arith)

-- it has no labels when it comes in
pub comes_blank : (s : ProjectState) (doc tokens : ℕ) (before behind : Standing) (d : Document) → IsKept s → doc < length s.documents → d ≡ document s doc → tokens ≡ length (tokens_of d.text) → before ≡ standing_upto s doc before.spare → behind ≡ admitted before tokens behind.spare
    → document_at behind.documents doc ≡ labelled_upto s 0 d
comes_blank s doc tokens before behind d kept within is counted front came =
    let size : length (map (labelled s) (take doc s.documents)) ≡ doc = before_it s doc within in
    let rows : length d.rows ≡ length (annotators s) = ap (λ (one : Document). length one.rows) is ∙ (kept.documents doc no_document within).rows_are in
    let fronts : before.documents ≡ map (labelled s) (take doc s.documents) = ap (λ (t : Standing). t.documents) front in
    let raters : before.raters ≡ length (annotators s) = ap (λ (t : Standing). t.raters) front in
    ap (λ (t : Standing). document_at t.documents doc) came
    ∙ (ap (λ (ds : List tables.Document). get_or (ds ++ tables.blank before.raters tokens ∷ []) doc tables.no_document) fronts
    ∙ (ap (λ (n : ℕ). get_or (map (labelled s) (take doc s.documents) ++ tables.blank before.raters tokens ∷ []) n tables.no_document) (sym size)
    ∙ (at_end (map (labelled s) (take doc s.documents)) (tables.blank before.raters tokens) tables.no_document
    ∙ (ap (λ (n : ℕ). tables.blank n tokens) (raters ∙ sym rows)
    ∙ (ap (λ (n : ℕ). tables.blank (length d.rows) n) counted
    ∙ ap (λ (none : List (Option (List ℕ))). let one : tables.Document = record { tokens = length (tokens_of d.text); rows = none } in one) (sym (upto_none s d.text d.rows)))))))

-- and then those of its rows
pub document_more : (s : ProjectState) (doc tokens : ℕ) (before behind now : Standing) (d : Document) → doc < length s.documents → d ≡ document s doc → before ≡ standing_upto s doc before.spare → behind ≡ admitted before tokens behind.spare
    → now ≡ with_document behind doc (labelled s d) → now ≡ standing_upto s (doc + 1) now.spare
document_more s doc tokens before behind now d within is front came labels =
    let size : length (map (labelled s) (take doc s.documents)) ≡ doc = before_it s doc within in
    let fronts : before.documents ≡ map (labelled s) (take doc s.documents) = ap (λ (t : Standing). t.documents) front in
    let raters : before.raters ≡ length (annotators s) = ap (λ (t : Standing). t.raters) front in
    let categories : before.categories ≡ (standing_of s 0).categories = ap (λ (t : Standing). t.categories) front in
    let spare : now.spare ≡ behind.spare = ap (λ (t : Standing). t.spare) labels in
    let whole : set (before.documents ++ tables.blank before.raters tokens ∷ []) doc (labelled s d) ≡ map (labelled s) (take (doc + 1) s.documents) =
    ap (λ (ds : List tables.Document). set (ds ++ tables.blank before.raters tokens ∷ []) doc (labelled s d)) fronts
    ∙ (ap (λ (n : ℕ). set (map (labelled s) (take doc s.documents) ++ tables.blank before.raters tokens ∷ []) n (labelled s d)) (sym size)
    ∙ (set_end (map (labelled s) (take doc s.documents)) (tables.blank before.raters tokens) (labelled s d)
    ∙ (ap (λ (one : Document). map (labelled s) (take doc s.documents) ++ labelled s one ∷ []) is
    ∙ (sym (map-append (labelled s) (take doc s.documents) (document s doc ∷ []))
    ∙ ap (map (labelled s)) (sym (take_more s.documents doc no_document within)))))) in
    labels
    ∙ (ap (λ (t : Standing). with_document t doc (labelled s d)) came
    ∙ (ap (λ (n : ℕ). let one : Standing = record { raters = n; categories = before.categories; documents = set (before.documents ++ tables.blank before.raters tokens ∷ []) doc (labelled s d); spare = behind.spare } in one) raters
    ∙ (ap (λ (n : ℕ). let one : Standing = record { raters = length (annotators s); categories = n; documents = set (before.documents ++ tables.blank before.raters tokens ∷ []) doc (labelled s d); spare = behind.spare } in one) categories
    ∙ (ap (λ (ds : List tables.Document). let one : Standing = record { raters = length (annotators s); categories = (standing_of s 0).categories; documents = ds; spare = behind.spare } in one) whole
    ∙ ap (λ (n : ℕ). standing_upto s (doc + 1) n) (sym spare)))))
