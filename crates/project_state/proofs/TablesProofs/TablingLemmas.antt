-- What acts on a project do to the labels that stand.
use Rattle.std.proofs.Common.{◌≡◌, ℕ, ◌-◌, ◌<◌, List, [], ◌∷◌, ◌++◌, length, map, set, replicate, Option, None, zero, suc, refl, sym, ◌∙◌, ap}
use Rattle.std.proofs.lemmas.List.{map-set, map-append, get_or-map}
use Rattle.std.proofs.Math.Seq.{map-set_same}
use Rattle.char_documents.specs.Tokens.{tokens_of}
use Rattle.type_hierarchy.specs.declared.type_row.TypeRow.{TypeRow}
use Rattle.label_tracks.specs.Levels.{Grouping, grouping_of}
use Rattle.kappa_alpha.specs.Standing as tables
use Rattle.kappa_alpha.specs.Standing.{Standing, posted, admitted}
use Rattle.project_machine.specs.ProjectState.{Row, Document, ProjectState, annotators, blank_row, no_document, document, row_at, with_row}
use Rattle.project_machine.specs.History.{under_hold, freed}
use Rattle.project_machine.specs.Tables.{labels_in, labelled, standing_of}
use Rattle.project_state.specs.Acting.{on_rater}

-- a project at another place, with other documents
abbrev moved : ProjectState → ℕ → List Document → ProjectState
moved s place documents = record s { documents = documents; place = place }

same_documents : (s : ProjectState) (spare : ℕ) (a b : List tables.Document) → a ≡ b
    → record (standing_of s spare) { documents = a } ≡ record (standing_of s spare) { documents = b }
same_documents s spare a b e = ap (λ (ds : List tables.Document). record (standing_of s spare) { documents = ds }) e

-- a document with another row of a rater
row_labelled : (s : ProjectState) (d : Document) (rater : ℕ) (new : Row) → labelled s (with_row rater new d) ≡ tables.with_row (labelled s d) rater (labels_in s d.text new)
row_labelled s d rater new = ap (λ (rows : List (Option (List ℕ))). record { tokens = length (tokens_of d.text); rows = rows }) (map-set (labels_in s d.text) d.rows rater new)

-- where the labels of a row are others, they stand in the place of the old ones
pub relabelled : (s : ProjectState) (doc rater place spare : ℕ) (changed : Row → Row) (labels : Option (List ℕ)) → doc < length s.documents → labels_in s (document s doc).text (changed (row_at s doc rater)) ≡ labels
    → posted (standing_of s spare) doc rater labels ≡ standing_of (moved s place (on_rater s doc rater changed).documents) spare
relabelled s doc rater place spare changed labels within is =
    let new : Row = changed (row_at s doc rater) in
    let old_is : tables.document_at (map (labelled s) s.documents) doc ≡ labelled s (document s doc) = get_or-map (labelled s) s.documents doc no_document tables.no_document within in
    let one : labelled s (with_row rater new (document s doc)) ≡ tables.with_row (tables.document_at (map (labelled s) s.documents) doc) rater labels =
    row_labelled s (document s doc) rater new ∙ (ap (λ (o : Option (List ℕ)). tables.with_row (labelled s (document s doc)) rater o) is ∙ ap (λ (d : tables.Document). tables.with_row d rater labels) (sym old_is)) in
    same_documents s spare (set (map (labelled s) s.documents) doc (tables.with_row (tables.document_at (map (labelled s) s.documents) doc) rater labels)) (map (labelled s) (on_rater s doc rater changed).documents)
    (ap (λ (d : tables.Document). set (map (labelled s) s.documents) doc d) (sym one) ∙ sym (map-set (labelled s) s.documents doc (with_row rater new (document s doc))))

-- where the labels of a row stay, all stay
pub unlabelled : (s : ProjectState) (doc rater place spare : ℕ) (changed : Row → Row)
    → labels_in s (document s doc).text (changed (row_at s doc rater)) ≡ labels_in s (document s doc).text (row_at s doc rater)
    → standing_of s spare ≡ standing_of (moved s place (on_rater s doc rater changed).documents) spare
unlabelled s doc rater place spare changed stay =
    let new : Row = changed (row_at s doc rater) in
    let d : Document = document s doc in
    let rows_stay : map (labels_in s d.text) (set d.rows rater new) ≡ map (labels_in s d.text) d.rows = map-set_same (labels_in s d.text) d.rows rater new blank_row stay in
    let one : labelled s (with_row rater new d) ≡ labelled s d = ap (λ (rows : List (Option (List ℕ))). record { tokens = length (tokens_of d.text); rows = rows }) rows_stay in
    same_documents s spare (map (labelled s) s.documents) (map (labelled s) (on_rater s doc rater changed).documents)
    (sym (map-set_same (labelled s) s.documents doc (with_row rater new d) no_document one))

-- where no row is out any more, all labels stay
freed_rows : (s : ProjectState) (text : List ℕ) (rows : List Row) → map (labels_in s text) (map (under_hold None) rows) ≡ map (labels_in s text) rows
freed_rows s text [] = refl
freed_rows s text (r ∷ rows) = ap (λ (rest : List (Option (List ℕ))). labels_in s text r ∷ rest) (freed_rows s text rows)

freed_documents : (s : ProjectState) (documents : List Document) → map (labelled s) (map freed documents) ≡ map (labelled s) documents
freed_documents s [] = refl
freed_documents s (d ∷ documents) =
    ap (λ (rows : List (Option (List ℕ))). record { tokens = length (tokens_of d.text); rows = rows } ∷ map (labelled s) (map freed documents)) (freed_rows s d.text d.rows)
    ∙ ap (λ (rest : List tables.Document). labelled s d ∷ rest) (freed_documents s documents)

pub freed_tabled : (s : ProjectState) (place spare : ℕ) → standing_of s spare ≡ standing_of (moved s place (map freed s.documents)) spare
freed_tabled s place spare = same_documents s spare (map (labelled s) s.documents) (map (labelled s) (map freed s.documents)) (sym (freed_documents s s.documents))

-- a document that comes in has no labels
blank_rows : (s : ProjectState) (text : List ℕ) (n : ℕ) → map (labels_in s text) (replicate n blank_row) ≡ replicate n None
blank_rows s text zero = refl
blank_rows s text (suc n) = ap (λ (rest : List (Option (List ℕ))). None ∷ rest) (blank_rows s text n)

pub document_tabled : (s : ProjectState) (place spare tokens : ℕ) (added : Document) → added.rows ≡ replicate (length (annotators s)) blank_row → tokens ≡ length (tokens_of added.text)
    → admitted (standing_of s spare) tokens (spare - 1) ≡ standing_of (moved s place (s.documents ++ added ∷ [])) (spare - 1)
document_tabled s place spare tokens added blank counted =
    let one : labelled s added ≡ tables.blank (length (annotators s)) tokens =
    ap (λ (rows : List Row). record { tokens = length (tokens_of added.text); rows = map (labels_in s added.text) rows }) blank
    ∙ (ap (λ (rows : List (Option (List ℕ))). record { tokens = length (tokens_of added.text); rows = rows }) (blank_rows s added.text (length (annotators s)))
    ∙ ap (λ (n : ℕ). record { tokens = n; rows = replicate (length (annotators s)) None }) (sym counted)) in
    same_documents s (spare - 1) (map (labelled s) s.documents ++ tables.blank (length (annotators s)) tokens ∷ []) (map (labelled s) (s.documents ++ added ∷ []))
    (ap (λ (d : tables.Document). map (labelled s) s.documents ++ d ∷ []) (sym one) ∙ sym (map-append (labelled s) s.documents (added ∷ [])))

-- ---- the groups of a project

pub level_of : (types : List TypeRow) (level : ℕ) (groups : Grouping) → groups ≡ grouping_of types level → groups.level ≡ level
unfolding grouping_of
level_of types level groups e = ap (λ (g : Grouping). g.level) e

pub grouped : (types : List TypeRow) (level : ℕ) (groups : Grouping) → groups ≡ grouping_of types level → groups ≡ grouping_of types groups.level
grouped types level groups e = e ∙ ap (λ (l : ℕ). grouping_of types l) (sym (level_of types level groups e))
