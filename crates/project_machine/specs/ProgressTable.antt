-- Who is done: the rows of a project as CSV (RFC 4180), one for each document and annotator.
use Rattle.std.specs.Prelude.{ℕ, ◌+◌, ◌==◌, Bool, true, false, List, [], ◌∷◌, ◌++◌, length, codes, decimal, is_some, slice_get, if◌then◌else◌}
use Rattle.std.specs.List.{flat_map, zip}
use Rattle.std.specs.Option.{option_map_or}
use Rattle.mark_base.specs.declared.ann_id.Kind.TheVariants as letter
use Rattle.layer_model.specs.Annotations.{Annotations}
use Rattle.layer_model.specs.Layers.{count}
use Rattle.agreement_report.specs.Report.{row}
use Rattle.project_machine.specs.ProjectState.{Row, Document, ProjectState, annotators, is_curator, rater_of}

-- how many annotations a layer has, of all letters; its classes are not counted
abbrev pub annotation_count : Annotations → ℕ
annotation_count layer =
    count layer letter.Text + count layer letter.Event + count layer letter.Relation + count layer letter.Attribute + count layer letter.Legacy + count layer letter.Normal
    + count layer letter.Note

-- where the work on a row stands: it is finished; or else it is out; or else it is open where something was committed, and `none` where nothing was
abbrev pub standing : Row → List ℕ
standing r =
    if r.finished then codes "finished" else if is_some r.hold then codes "out" else if r.revision == 0 then codes "none" else codes "open"

-- a flag as a word
abbrev pub flag_text : Bool → List ℕ
flag_text true = codes "true"
flag_text false = codes "false"

-- the fields of the row of an annotator on the document of a name: both names, the number of commits, where the work stands, whether the layer is ignored, how many annotations were committed last, and how many commands are done in the draft that is parked
abbrev pub progress_fields : (document who : List ℕ) → Row → List (List ℕ)
progress_fields document who r =
    document ∷ who ∷ decimal r.revision ∷ standing r ∷ flag_text r.ignored ∷ decimal (annotation_count r.layer) ∷ decimal (length r.done) ∷ []

-- the names of these fields
abbrev pub progress_header : List (List ℕ)
progress_header = codes "document" ∷ codes "annotator" ∷ codes "revision" ∷ codes "state" ∷ codes "ignored" ∷ codes "annotations" ∷ codes "parked" ∷ []

-- the rows of a document, one for each annotator of these names
abbrev pub progress_rows : (names : List (List ℕ)) → Document → List ℕ
progress_rows names d = flat_map (λ placed. row (progress_fields d.name placed.0 placed.1)) (zip names d.rows)

-- the table: the documents as they were added, and in each the annotators in the order of their names
abbrev pub progress_table : ProjectState → List ℕ
progress_table s = row progress_header ++ flat_map (progress_rows (annotators s)) s.documents

-- the row of an annotator of this place among the annotators on a document, where there is one
abbrev pub own_row : (rater : ℕ) (who : List ℕ) → Document → List ℕ
own_row rater who d = option_map_or (λ r. row (progress_fields d.name who r)) (slice_get d.rows rater) []

-- the rows of one annotator alone
abbrev pub own_progress : ProjectState → (who : List ℕ) → List ℕ
own_progress s who = row progress_header ++ flat_map (own_row (rater_of s who) who) s.documents

-- what a caller is shown: a curator the whole table, and an annotator the own rows
abbrev pub shown_progress : ProjectState → (caller : List ℕ) → List ℕ
shown_progress s caller = if is_curator s caller then progress_table s else own_progress s caller
