-- The rows of a project that is kept, and the layers that its snapshots hold.
use Rattle.std.proofs.Common.{◌≡◌, ℕ, ◌<◌, List, length, get_or, slice_get, Some, None, refl, sym, ◌∙◌, ap, subst, arith}
use Rattle.std.proofs.lemmas.Option.{slice_get-get_or}
use Rattle.project_machine.specs.ProjectState.{Row, Document, ProjectState, annotators, blank_row, document, no_document, row_at}
use Rattle.project_machine.specs.Legal.{IsKept, IsRowKept}

-- there is a row for each annotator
pub rows_many : (s : ProjectState) (doc : ℕ) (names : List (List ℕ)) → IsKept s → doc < length s.documents → names ≡ annotators s → length (document s doc).rows ≡ length names
rows_many s doc names k within is = (k.documents doc no_document within).rows_are ∙ ap (λ (all : List (List ℕ)). length all) (sym is)

-- the row of an annotator is there
pub row_found : (s : ProjectState) (doc rater : ℕ) (d : Document) → d ≡ document s doc → IsKept s → doc < length s.documents → rater < length (annotators s) → slice_get d.rows rater ≡ Some (row_at s doc rater)
row_found s doc rater d is k within low =
    let many : length (document s doc).rows ≡ length (annotators s) = rows_many s doc (annotators s) k within refl in
    ap (λ (one : Document). slice_get one.rows rater) is ∙ slice_get-get_or (document s doc).rows rater blank_row (omega arith)

-- and kept
pub row_there : (s : ProjectState) (doc rater : ℕ) (who : List ℕ) → IsKept s → doc < length s.documents → rater < length (annotators s) → who ≡ get_or (annotators s) rater who → IsRowKept s.conf (document s doc).text s.place who (row_at s doc rater)
row_there s doc rater who k within low is =
    subst (λ (name : List ℕ). IsRowKept s.conf (document s doc).text s.place name (row_at s doc rater)) (sym is) ((k.documents doc no_document within).rows_kept rater who blank_row low)

none_some : {X : Type 0} (x : X) → None ≡ Some x → ⊥
none_some x e = cc

-- no row is missing
pub row_missing : (s : ProjectState) (doc rater : ℕ) (d : Document) → d ≡ document s doc → IsKept s → doc < length s.documents → rater < length (annotators s) → slice_get d.rows rater ≡ None → ⊥
row_missing s doc rater d is k within low none = none_some (row_at s doc rater) (sym none ∙ row_found s doc rater d is k within low)

some_same : {X : Type 0} (x y : X) → Some x ≡ Some y → x ≡ y
some_same x y e = cc

pub row_same : (s : ProjectState) (doc rater : ℕ) (d : Document) (r : Row) → d ≡ document s doc → IsKept s → doc < length s.documents → rater < length (annotators s) → slice_get d.rows rater ≡ Some r → r ≡ row_at s doc rater
row_same s doc rater d r is k within low found = some_same r (row_at s doc rater) (sym found ∙ row_found s doc rater d is k within low)
