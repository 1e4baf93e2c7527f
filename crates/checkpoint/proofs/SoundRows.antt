-- A project of which the rows from a place on are blank.
use Rattle.std.proofs.Common.{◌≡◌, ℕ, ◌<◌, ◌≤◌, List, [], ◌∷◌, length, map, set, get_or, replicate, zero, suc, refl, sym, ◌∙◌, ap, arith}
use Rattle.std.proofs.lemmas.List.{length-map}
use Rattle.project_machine.specs.ProjectState.{Row, Document, ProjectState, blank_row, document, no_document, row_at, with_row}
use Rattle.checkpoint.specs.Projects.{put_row}

-- the first rows as they are, and blank ones in place of the others
abbrev pub first_rows : ℕ → List Row → List Row
first_rows zero rows = replicate (length rows) blank_row
first_rows (suc r) [] = []
first_rows (suc r) (q ∷ rows) = q ∷ first_rows r rows

-- a document with blank rows
abbrev pub blank_document : Document → Document
blank_document d = record { name = d.name; text = d.text; rows = replicate (length d.rows) blank_row }

-- the first documents as they are, of the next one the first rows, and blank ones in place of the others
abbrev pub first_documents : ℕ → ℕ → List Document → List Document
first_documents zero r [] = []
first_documents zero r (x ∷ xs) = record { name = x.name; text = x.text; rows = first_rows r x.rows } ∷ map blank_document xs
first_documents (suc d) r [] = []
first_documents (suc d) r (x ∷ xs) = x ∷ first_documents d r xs

-- a project with these documents, and without snapshots
abbrev pub with_documents : ProjectState → List Document → ProjectState
with_documents s documents = record { conf = s.conf; level = s.level; people = s.people; place = s.place; documents = documents; snapshots = [] }

-- a project whose rows are blank from that of a place on, in the document of a number, and which has no snapshots
abbrev pub blanked : ProjectState → ℕ → ℕ → ProjectState
blanked s doc rater = with_documents s (first_documents doc rater s.documents)

-- ---- rows

rows_next : (rows : List Row) (r : ℕ) → r < length rows → set (first_rows r rows) r (get_or rows r blank_row) ≡ first_rows (suc r) rows
rows_next [] r within = absurd (omega arith)
rows_next (q ∷ rows) zero within = refl
rows_next (q ∷ rows) (suc r) within = ap (λ (xs : List Row). q ∷ xs) (rows_next rows r (omega arith))

rows_whole : (rows : List Row) (r : ℕ) → length rows ≤ r → first_rows r rows ≡ rows
rows_whole [] zero past = refl
rows_whole [] (suc r) past = refl
rows_whole (q ∷ rows) zero past = absurd (omega arith)
rows_whole (q ∷ rows) (suc r) past = ap (λ (xs : List Row). q ∷ xs) (rows_whole rows r (omega arith))

rows_blank : (rows : List Row) (r : ℕ) → r < length rows → get_or rows r blank_row ≡ blank_row → first_rows r rows ≡ first_rows (suc r) rows
rows_blank [] r within is = absurd (omega arith)
rows_blank (q ∷ rows) zero within is = ap (λ (x : Row). x ∷ replicate (length rows) blank_row) (sym is)
rows_blank (q ∷ rows) (suc r) within is = ap (λ (xs : List Row). q ∷ xs) (rows_blank rows r (omega arith) is)

-- ---- documents

-- the first of some documents with other rows, and the others blank
abbrev led_by : Document → List Document → List Row → List Document
led_by x xs rows = record { name = x.name; text = x.text; rows = rows } ∷ map blank_document xs

pub documents_start : (xs : List Document) → first_documents zero zero xs ≡ map blank_document xs
documents_start [] = refl
documents_start (x ∷ xs) = refl

documents_next : (xs : List Document) (d r : ℕ) → d < length xs → length (get_or xs d no_document).rows ≤ r → first_documents d r xs ≡ first_documents (suc d) zero xs
documents_next [] d r within past = absurd (omega arith)
documents_next (x ∷ xs) zero r within past = ap (led_by x xs) (rows_whole x.rows r past) ∙ ap (λ (ds : List Document). x ∷ ds) (sym (documents_start xs))
documents_next (x ∷ xs) (suc d) r within past = ap (λ (ds : List Document). x ∷ ds) (documents_next xs d r (omega arith) past)

documents_whole : (xs : List Document) (d r : ℕ) → length xs ≤ d → first_documents d r xs ≡ xs
documents_whole [] zero r past = refl
documents_whole [] (suc d) r past = refl
documents_whole (x ∷ xs) zero r past = absurd (omega arith)
documents_whole (x ∷ xs) (suc d) r past = ap (λ (ds : List Document). x ∷ ds) (documents_whole xs d r (omega arith))

document_put : (xs : List Document) (d r : ℕ) → d < length xs → r < length (get_or xs d no_document).rows
    → set (first_documents d r xs) d (with_row r (get_or (get_or xs d no_document).rows r blank_row) (get_or (first_documents d r xs) d no_document)) ≡ first_documents d (suc r) xs
document_put [] d r within low = absurd (omega arith)
document_put (x ∷ xs) zero r within low = ap (led_by x xs) (rows_next x.rows r low)
document_put (x ∷ xs) (suc d) r within low = ap (λ (ds : List Document). x ∷ ds) (document_put xs d r (omega arith) low)

document_same : (xs : List Document) (d r : ℕ) → d < length xs → r < length (get_or xs d no_document).rows → get_or (get_or xs d no_document).rows r blank_row ≡ blank_row → first_documents d r xs ≡ first_documents d (suc r) xs
document_same [] d r within low is = absurd (omega arith)
document_same (x ∷ xs) zero r within low is = ap (led_by x xs) (rows_blank x.rows r low is)
document_same (x ∷ xs) (suc d) r within low is = ap (λ (ds : List Document). x ∷ ds) (document_same xs d r (omega arith) low is)

blank_text : (xs : List Document) (n : ℕ) → (get_or (map blank_document xs) n no_document).text ≡ (get_or xs n no_document).text
blank_text [] n = refl
blank_text (x ∷ xs) zero = refl
blank_text (x ∷ xs) (suc n) = blank_text xs n

text_at : (xs : List Document) (d r n : ℕ) → (get_or (first_documents d r xs) n no_document).text ≡ (get_or xs n no_document).text
text_at [] zero r n = refl
text_at [] (suc d) r n = refl
text_at (x ∷ xs) zero r zero = refl
text_at (x ∷ xs) zero r (suc n) = blank_text xs n
text_at (x ∷ xs) (suc d) r zero = refl
text_at (x ∷ xs) (suc d) r (suc n) = text_at xs d r n

documents_many : (xs : List Document) (d r : ℕ) → length (first_documents d r xs) ≡ length xs
documents_many [] zero r = refl
documents_many [] (suc d) r = refl
documents_many (x ∷ xs) zero r = ap (λ (n : ℕ). suc n) (length-map xs blank_document)
documents_many (x ∷ xs) (suc d) r = ap (λ (n : ℕ). suc n) (documents_many xs d r)

-- ---- projects

-- its rows are blank from the first on
pub blanked_start : (s : ProjectState) → with_documents s (map blank_document s.documents) ≡ blanked s zero zero
blanked_start s = ap (with_documents s) (sym (documents_start s.documents))

-- the next row is put into its place
pub blanked_put : (s : ProjectState) (doc rater : ℕ) (q : Row) → doc < length s.documents → rater < length (document s doc).rows → q ≡ row_at s doc rater → put_row (blanked s doc rater) doc rater q ≡ blanked s doc (suc rater)
blanked_put s doc rater q within low is = ap (put_row (blanked s doc rater) doc rater) is ∙ ap (with_documents s) (document_put s.documents doc rater within low)

-- where the next row is blank, only the place moves
pub blanked_same : (s : ProjectState) (doc rater : ℕ) → doc < length s.documents → rater < length (document s doc).rows → row_at s doc rater ≡ blank_row → blanked s doc rater ≡ blanked s doc (suc rater)
blanked_same s doc rater within low is = ap (with_documents s) (document_same s.documents doc rater within low is)

-- behind the last row of a document comes the next document
pub blanked_next : (s : ProjectState) (doc rater : ℕ) → doc < length s.documents → length (document s doc).rows ≤ rater → blanked s doc rater ≡ blanked s (suc doc) zero
blanked_next s doc rater within past = ap (with_documents s) (documents_next s.documents doc rater within past)

-- and behind the last document no row is blank
pub blanked_whole : (s : ProjectState) (doc rater : ℕ) → length s.documents ≤ doc → blanked s doc rater ≡ with_documents s s.documents
blanked_whole s doc rater past = ap (with_documents s) (documents_whole s.documents doc rater past)

pub blanked_text : (s : ProjectState) (doc rater n : ℕ) → (document (blanked s doc rater) n).text ≡ (document s n).text
blanked_text s doc rater n = text_at s.documents doc rater n

pub blanked_many : (s : ProjectState) (doc rater : ℕ) → length (blanked s doc rater).documents ≡ length s.documents
blanked_many s doc rater = documents_many s.documents doc rater
