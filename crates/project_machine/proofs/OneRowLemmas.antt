-- A project with one annotator's rows alone: what a change does to it.
use Rattle.std.proofs.Common.{◌≡◌, ◌≢◌, ℕ, ◌≤◌, ◌||◌, List, [], ◌∷◌, length, map, set, replicate, get_or, bytes_eq, None, zero, suc, refl, sym, ◌∙◌, ap, arith, inl, inr}
use Rattle.std.specs.List.{list_any, slice_get}
use Rattle.std.proofs.lemmas.Bool.{cases_lt}
use Rattle.std.proofs.lemmas.Grind.{get_or-set_at}
use Rattle.std.proofs.lemmas.List.{get_or_past, get_or-set_other, length-map, length-replicate, length-set, set_past}
use Rattle.project_machine.specs.ProjectState.{Row, Document, blank_row, no_document, with_row}
use Rattle.project_machine.specs.History.{freed, under_hold}
use Rattle.project_machine.specs.Own.{only_row}

-- a row alone among blank ones
abbrev pub alone : ℕ → List Row → List Row
alone i rows = set (replicate (length rows) blank_row) i (get_or rows i blank_row)

alone_length : (i : ℕ) (rows : List Row) → length (alone i rows) ≡ length rows
alone_length i rows = length-set (replicate (length rows) blank_row) i (get_or rows i blank_row) ∙ length-replicate (length rows) blank_row

-- past the rows all are blank
alone_past : (i : ℕ) (rows : List Row) → length rows ≤ i → alone i rows ≡ replicate (length rows) blank_row
alone_past i rows past = set_past (replicate (length rows) blank_row) i (get_or rows i blank_row) (let size : length (replicate (length rows) blank_row) ≡ length rows = length-replicate (length rows) blank_row in omega arith)

-- the row is the one that stood there
pub alone_row : (i : ℕ) (rows : List Row) → get_or (alone i rows) i blank_row ≡ get_or rows i blank_row
alone_row i rows =
    elim (cases_lt i (length rows)) as (λ _. get_or (alone i rows) i blank_row ≡ get_or rows i blank_row) [
      | inl within ↦ get_or-set_at (replicate (length rows) blank_row) i i (get_or rows i blank_row) blank_row refl (let size : length (replicate (length rows) blank_row) ≡ length rows = length-replicate (length rows) blank_row in omega arith)
      | inr past ↦ get_or_past (alone i rows) i blank_row (let size : length (alone i rows) ≡ length rows = alone_length i rows in omega arith) ∙ sym (get_or_past rows i blank_row past)
    ]

-- rows of one length with the same row there are the same alone
pub alone_same : (i : ℕ) (rows others : List Row) → length rows ≡ length others → get_or rows i blank_row ≡ get_or others i blank_row → alone i rows ≡ alone i others
alone_same i rows others size same = ap (λ n. set (replicate n blank_row) i (get_or rows i blank_row)) size ∙ ap (set (replicate (length others) blank_row) i) same

pub alone_twice : (i : ℕ) (rows : List Row) → alone i (alone i rows) ≡ alone i rows
alone_twice i rows = alone_same i (alone i rows) rows (alone_length i rows) (alone_row i rows)

set_there : (i : ℕ) (rows others : List Row) (new : Row) → length rows ≡ length others → get_or (set rows i new) i blank_row ≡ get_or (set others i new) i blank_row
set_there i rows others new size =
    elim (cases_lt i (length rows)) as (λ _. get_or (set rows i new) i blank_row ≡ get_or (set others i new) i blank_row) [
      | inl within ↦ get_or-set_at rows i i new blank_row refl within ∙ sym (get_or-set_at others i i new blank_row refl (omega arith))
      | inr past ↦ get_or_past (set rows i new) i blank_row (let n : length (set rows i new) ≡ length rows = length-set rows i new in omega arith)
          ∙ sym (get_or_past (set others i new) i blank_row (let n : length (set others i new) ≡ length others = length-set others i new in omega arith))
    ]

-- another row of the one annotator
pub alone_set : (i : ℕ) (rows : List Row) (new : Row) → alone i (set rows i new) ≡ alone i (set (alone i rows) i new)
alone_set i rows new =
    alone_same i (set rows i new) (set (alone i rows) i new) (length-set rows i new ∙ (sym (alone_length i rows) ∙ sym (length-set (alone i rows) i new)))
    (set_there i rows (alone i rows) new (sym (alone_length i rows)))

-- another row of another annotator changes nothing
pub alone_other : (i j : ℕ) (rows : List Row) (new : Row) → i ≢ j → alone i (set rows j new) ≡ alone i rows
alone_other i j rows new other = alone_same i (set rows j new) rows (length-set rows j new) (get_or-set_other rows j i new blank_row other)

free_row : (i : ℕ) (rows : List Row) → get_or (map (under_hold None) rows) i blank_row ≡ under_hold None (get_or rows i blank_row)
free_row i [] = refl
free_row zero (r ∷ rows) = refl
free_row (suc i) (r ∷ rows) = free_row i rows

-- freeing all rows
pub alone_free : (i : ℕ) (rows : List Row) → alone i (map (under_hold None) rows) ≡ alone i (map (under_hold None) (alone i rows))
alone_free i rows =
    alone_same i (map (under_hold None) rows) (map (under_hold None) (alone i rows))
    (length-map rows (under_hold None) ∙ (sym (alone_length i rows) ∙ sym (length-map (alone i rows) (under_hold None))))
    (free_row i rows ∙ (ap (under_hold None) (sym (alone_row i rows)) ∙ sym (free_row i (alone i rows))))

-- ---- documents

twice : (i : ℕ) (d : Document) → only_row i (only_row i d) ≡ only_row i d
twice i d = ap (λ rows. let one : Document = record { name = d.name; text = d.text; rows = rows } in one) (alone_twice i d.rows)

pub all_twice : (i : ℕ) (ds : List Document) → map (only_row i) (map (only_row i) ds) ≡ map (only_row i) ds
all_twice i [] = refl
all_twice i (d ∷ ds) = ap (λ one. one ∷ map (only_row i) (map (only_row i) ds)) (twice i d) ∙ ap (λ rest. only_row i d ∷ rest) (all_twice i ds)

-- the row of an annotator in a document alone
-- the row of a rater is there where it was there
pub alone_there : (i : ℕ) (rows : List Row) → slice_get (alone i rows) i ≡ slice_get rows i
alone_there zero [] = refl
alone_there (suc i) [] = refl
alone_there zero (r ∷ rows) = refl
alone_there (suc i) (r ∷ rows) = alone_there i rows

pub row_alone : (i doc : ℕ) (ds : List Document) → get_or (get_or (map (only_row i) ds) doc no_document).rows i blank_row ≡ get_or (get_or ds doc no_document).rows i blank_row
row_alone i doc [] = refl
row_alone i zero (d ∷ ds) = alone_row i d.rows
row_alone i (suc doc) (d ∷ ds) = row_alone i doc ds

pub text_alone : (i doc : ℕ) (ds : List Document) → (get_or (map (only_row i) ds) doc no_document).text ≡ (get_or ds doc no_document).text
text_alone i doc [] = refl
text_alone i zero (d ∷ ds) = refl
text_alone i (suc doc) (d ∷ ds) = text_alone i doc ds

pub any_alone : (i : ℕ) (name : List ℕ) (ds : List Document) → list_any (λ (d : Document). bytes_eq d.name name) (map (only_row i) ds) ≡ list_any (λ (d : Document). bytes_eq d.name name) ds
any_alone i name [] = refl
any_alone i name (d ∷ ds) = ap (λ b. bytes_eq d.name name || b) (any_alone i name ds)

-- another row of the one annotator in a document
one_set : (i : ℕ) (d : Document) (new : Row) → only_row i (with_row i new d) ≡ only_row i (with_row i new (only_row i d))
one_set i d new = ap (λ rows. let one : Document = record { name = d.name; text = d.text; rows = rows } in one) (alone_set i d.rows new)

pub documents_set : (i doc : ℕ) (ds : List Document) (changed : Row → Row)
    → map (only_row i) (set ds doc (with_row i (changed (get_or (get_or ds doc no_document).rows i blank_row)) (get_or ds doc no_document)))
    ≡ map (only_row i) (set (map (only_row i) ds) doc (with_row i (changed (get_or (get_or (map (only_row i) ds) doc no_document).rows i blank_row)) (get_or (map (only_row i) ds) doc no_document)))
documents_set i doc [] changed = refl
documents_set i zero (d ∷ ds) changed =
    ap (λ one. one ∷ map (only_row i) ds) (one_set i d (changed (get_or d.rows i blank_row)) ∙ ap (λ r. only_row i (with_row i (changed r) (only_row i d))) (sym (alone_row i d.rows)))
    ∙ ap (λ rest. only_row i (with_row i (changed (get_or (alone i d.rows) i blank_row)) (only_row i d)) ∷ rest) (sym (all_twice i ds))
documents_set i (suc doc) (d ∷ ds) changed = ap (λ one. one ∷ map (only_row i) (set ds doc (with_row i (changed (get_or (get_or ds doc no_document).rows i blank_row)) (get_or ds doc no_document)))) (sym (twice i d))
    ∙ ap (λ rest. only_row i (only_row i d) ∷ rest) (documents_set i doc ds changed)

-- another row of another annotator in a document
pub documents_other : (i j doc : ℕ) (ds : List Document) (new : Row) → i ≢ j → map (only_row i) (set ds doc (with_row j new (get_or ds doc no_document))) ≡ map (only_row i) ds
documents_other i j doc [] new other = refl
documents_other i j zero (d ∷ ds) new other = ap (λ one. one ∷ map (only_row i) ds) (ap (λ rows. let one : Document = record { name = d.name; text = d.text; rows = rows } in one) (alone_other i j d.rows new other))
documents_other i j (suc doc) (d ∷ ds) new other = ap (λ rest. only_row i d ∷ rest) (documents_other i j doc ds new other)

pub documents_free : (i : ℕ) (ds : List Document) → map (only_row i) (map freed ds) ≡ map (only_row i) (map freed (map (only_row i) ds))
documents_free i [] = refl
documents_free i (d ∷ ds) =
    ap (λ rows. let one : Document = record { name = d.name; text = d.text; rows = rows } in one ∷ map (only_row i) (map freed ds)) (alone_free i d.rows)
    ∙ ap (λ rest. only_row i (freed (only_row i d)) ∷ rest) (documents_free i ds)
