-- The rows of labels that stand, and sums over them.
use Rattle.std.specs.Prelude.{ℕ, zero, suc, ◌+◌, List, [], ◌∷◌, ◌++◌, get_or, set, map, replicate, slice_index, Option, Some, None, sum_by}
use Rattle.kappa_alpha.specs.Columns.{Column, confusion_at, coincidence_at, label_at, unit_at, shared_at}

-- The rows that stand on one document, by rater: None of a rater who has none.
abbrev pub Rows : Type 0
Rows = List (Option (List ℕ))

-- The tokens of a document, and the rows that stand on it.
pub record Document : Type 0 where
  pub tokens : ℕ
  pub rows : Rows

-- The rows that stand on all documents, and how many more documents room is made for.
pub record Standing : Type 0 where
  pub raters : ℕ
  pub categories : ℕ
  pub documents : List Document
  pub spare : ℕ

-- f 0 + f 1 + .. + f (n - 1)
unfoldable pub sum_below : (ℕ → ℕ) → ℕ → ℕ
sum_below f zero = 0
sum_below f (suc n) = sum_below f n + f n

-- the label of token i in a row
abbrev pub label_of : ℕ → Option (List ℕ) → Option ℕ
label_of i None = None
label_of i (Some row) = Some (slice_index row i)

-- the column of token i
abbrev pub column_of : Rows → ℕ → Column
column_of rows i = map (label_of i) rows

-- a function of the column, summed over the first n tokens of a document
unfoldable pub over_tokens : (Column → ℕ) → Rows → ℕ → ℕ
over_tokens f rows n = sum_below (λ i. f (column_of rows i)) n

-- the same summed over every token of every document: each table is counted so, anew
unfoldable pub over_all : (Column → ℕ) → List Document → ℕ
over_all f documents = sum_by (λ document. over_tokens f document.rows document.tokens) documents

-- how many tokens rater a labels c and rater b labels k, of those that both label
abbrev pub confusion_of : List Document → ℕ → ℕ → ℕ → ℕ → ℕ
confusion_of documents a b c k = over_all (confusion_at a b c k) documents

-- how many tokens both raters label
abbrev pub shared_of : List Document → ℕ → ℕ → ℕ
shared_of documents a b = over_all (shared_at a b) documents

-- Krippendorff's coincidence of the labels c and k, 360360 times
abbrev pub coincidence_of : List Document → ℕ → ℕ → ℕ
coincidence_of documents c k = over_all (coincidence_at c k) documents

-- how many labels c there are on tokens that two raters or more label
abbrev pub labels_of : List Document → ℕ → ℕ
labels_of documents c = over_all (label_at c) documents

-- how many tokens two raters or more label
abbrev pub units_of : List Document → ℕ
units_of documents = over_all unit_at documents

-- the tokens of all documents
unfoldable pub tokens_in : List Document → ℕ
tokens_in documents = sum_by (λ document. document.tokens) documents

-- what stands past the end of a list of documents
abbrev pub no_document : Document
no_document = record { tokens = 0; rows = [] }

-- document number d, from 0
abbrev pub document_at : List Document → ℕ → Document
document_at documents d = get_or documents d no_document

-- the row of a rater on a document
abbrev pub row_at : Standing → ℕ → ℕ → Option (List ℕ)
row_at s d rater = get_or (document_at s.documents d).rows rater None

-- a document with this row of a rater in the place of the one that stood
abbrev pub with_row : Document → ℕ → Option (List ℕ) → Document
with_row document rater row = record { tokens = document.tokens; rows = set document.rows rater row }

-- the same rows, with this row of a rater on a document in the place of the one that stood
abbrev pub posted : Standing → ℕ → ℕ → Option (List ℕ) → Standing
posted s d rater row = record s { documents = set s.documents d (with_row (document_at s.documents d) rater row) }

-- a document on which no rater has a row yet
abbrev pub blank : ℕ → ℕ → Document
blank raters tokens = record { tokens = tokens; rows = replicate raters None }

-- one document more
abbrev pub admitted : Standing → ℕ → ℕ → Standing
admitted s tokens spare = record s { documents = s.documents ++ blank s.raters tokens ∷ []; spare = spare }
