-- The rows of labels of a project fit: each has a label for each token of its document, and few labels differ.
use Rattle.std.proofs.Common.{◌≡◌, ℕ, ◌+◌, ◌<◌, ◌≤◌, ◌^◌, ◌&&◌, Bool, true, false, not, cond, List, [], ◌∷◌, length, map, get_or, slice_index, nat_lt, sum, sum_by, Option, Some, None, IfSome, refl, sym, ◌∙◌, subst, arith, option_map, count_by}
use Rattle.std.specs.FinMap as finite
use Rattle.std.specs.Option.{option_map_or}
use Rattle.std.proofs.lemmas.Bool.{ltb-false, or_parts}
use Rattle.std.proofs.lemmas.List.{get_or-map, length-map}
use Rattle.std.proofs.lemmas.List.Sums.{sum_by-cons}
use Rattle.mark_base.specs.declared.fragments.Frag.{Frag}
use Rattle.char_documents.specs.Tokens.{tokens_of}
use Rattle.type_hierarchy.specs.declared.type_row.TypeRow.{TypeRow}
use Rattle.type_hierarchy.specs.declared.types_fault.TypesFault.{TypesFault}
use Rattle.type_hierarchy.specs.declared.types_fault.TypesFault.TheVariants.{BadParent, NameTwice, TooMany}
use Rattle.type_hierarchy.specs.TypeFaults.{are_too_many, bad_parent, fault_of, name_twice}
use Rattle.layer_model.specs.Annotations.{Annotations}
use Rattle.label_tracks.specs.Candidates.{first_covering}
use Rattle.label_tracks.specs.Labels.{label_at, labels_of}
use Rattle.label_tracks.specs.Levels.{group_at, grouping_of, heads}
use Rattle.label_tracks.proofs.LevelLemmas.{group_within, heads_few, rolled_few}
use Rattle.label_tracks.proofs.TokenOrder.{tokens_few}
use Rattle.kappa_alpha.specs.Counted.{DocumentFits}
use Rattle.kappa_alpha.specs.Standing as tables
use Rattle.kappa_alpha.specs.Standing.{Standing, document_at, tokens_in}
use Rattle.project_machine.specs.ProjectState.{Document, ProjectState, Row, annotators, blank_row, no_document}
use Rattle.project_machine.specs.Tables.{labelled, labels_in, standing_of}
use Rattle.project_machine.specs.Legal.{IsDocumentKept, IsKept}
use Rattle.project_machine.proofs.RowLemmas.{or_second}
use Rattle.project_state.proofs.RosterLemmas.{annotators_few}
use Rattle.annotation_http.proofs.AnswerLawsProofs.FigureLemmas.{IsFitting}

-- ---- how many labels there are

some_fault : (fault : TypesFault) → Some fault ≡ None → ⊥
some_fault fault e = cc

not_many : (many : Bool) → cond many (Some TooMany) None ≡ None → many ≡ false
not_many true e = absurd (some_fault TooMany e)
not_many false e = refl

usable_few : (rows : List TypeRow) → fault_of rows ≡ None → count_by (λ (row : TypeRow). row.usable) rows ≤ 63
unfolding fault_of
usable_few rows sound =
    let many : are_too_many rows ≡ false = not_many (are_too_many rows) (or_second (option_map BadParent (bad_parent rows)) _ (or_second (option_map NameTwice (name_twice rows)) _ sound)) in
    ltb-false 63 (count_by (λ (row : TypeRow). row.usable) rows) (or_parts (nat_lt 256 (length rows)) (nat_lt 63 (count_by (λ (row : TypeRow). row.usable) rows)) many).1

width_is : (rows : List TypeRow) (level : ℕ) → (grouping_of rows level).width ≡ length (heads rows level) + 1
unfolding grouping_of
width_is rows level = refl

width_few : (rows : List TypeRow) (level : ℕ) → fault_of rows ≡ None → (grouping_of rows level).width ≤ 64
width_few rows level sound =
    let few : length (heads rows level) ≤ 63 = heads_few rows level (rolled_few rows level (usable_few rows sound)) in
    let width : (grouping_of rows level).width ≡ length (heads rows level) + 1 = width_is rows level in
    omega arith

-- ---- the labels of a layer

all_below : {X : Type 0} (o : Option X) (f : X → ℕ) (most : ℕ) → 0 < most → ((x : X) → f x < most) → option_map_or f o 0 < most
all_below None f most some each = some
all_below (Some x) f most some each = each x

labels_long : (rows : List TypeRow) (level : ℕ) (layer : Annotations) (text : List ℕ) → length (labels_of rows level layer text) ≡ length (tokens_of text)
unfolding labels_of
labels_long rows level layer text = length-map (tokens_of text) (λ (token : Frag). label_at rows level (finite.entries layer.spans) token.start)

labels_below : (rows : List TypeRow) (level : ℕ) (layer : Annotations) (text : List ℕ) (i : ℕ) → i < length (tokens_of text) → slice_index (labels_of rows level layer text) i < (grouping_of rows level).width
unfolding labels_of
labels_below rows level layer text i within =
    let token : Frag = get_or (tokens_of text) i (record { start = 0; end = 0 }) in
    let read : get_or (map (λ (token : Frag). label_at rows level (finite.entries layer.spans) token.start) (tokens_of text)) i 0 ≡ label_at rows level (finite.entries layer.spans) token.start =
    get_or-map (λ (token : Frag). label_at rows level (finite.entries layer.spans) token.start) (tokens_of text) i (record { start = 0; end = 0 }) 0 within in
    let small : label_at rows level (finite.entries layer.spans) token.start < length (heads rows level) + 1 =
    all_below (first_covering token.start (finite.entries layer.spans)) (λ first. group_at rows level first.kind.n) (length (heads rows level) + 1) (omega arith) (λ first. group_within rows level first.kind.n) in
    let width : (grouping_of rows level).width ≡ length (heads rows level) + 1 = width_is rows level in
    omega arith

-- ---- the rows of a document

where_so : (so : Bool) (P : List ℕ → Type 0) (labels : List ℕ) → P labels → IfSome (cond so (Some labels) None) P
where_so true P labels is = is
where_so false P labels is = tt

row_long : (s : ProjectState) (text : List ℕ) (r : Row) → IfSome (labels_in s text r) (λ row. length row ≡ length (tokens_of text))
row_long s text r =
    where_so (nat_lt 0 r.revision && not r.ignored) (λ row. length row ≡ length (tokens_of text)) (labels_of s.conf.types s.level r.layer text) (labels_long s.conf.types s.level r.layer text)

row_below : (s : ProjectState) (text : List ℕ) (r : Row) (i : ℕ) → i < length (tokens_of text) → IfSome (labels_in s text r) (λ row. slice_index row i < (grouping_of s.conf.types s.level).width)
row_below s text r i within =
    where_so (nat_lt 0 r.revision && not r.ignored) (λ row. slice_index row i < (grouping_of s.conf.types s.level).width) (labels_of s.conf.types s.level r.layer text)
    (labels_below s.conf.types s.level r.layer text i within)

document_fits : (s : ProjectState) (d : Document) → IsKept s → IsDocumentKept s.conf (annotators s) s.place d → DocumentFits (labelled s d) (length (annotators s)) (grouping_of s.conf.types s.level).width
document_fits s d k one =
    let size : length (map (labels_in s d.text) d.rows) ≡ length d.rows = length-map d.rows (labels_in s d.text) in
    let raters : length (annotators s) ≤ 16 = annotators_few s k in
    let are : length d.rows ≡ length (annotators s) = one.rows_are in
    record {
      rows = record {
        long = λ rater inside. subst (λ (o : Option (List ℕ)). IfSome o (λ row. length row ≡ length (tokens_of d.text)))
            (sym (get_or-map (labels_in s d.text) d.rows rater blank_row None (omega arith))) (row_long s d.text (get_or d.rows rater blank_row));
        labels = λ rater i inside within. subst (λ (o : Option (List ℕ)). IfSome o (λ row. slice_index row i < (grouping_of s.conf.types s.level).width))
            (sym (get_or-map (labels_in s d.text) d.rows rater blank_row None (omega arith))) (row_below s d.text (get_or d.rows rater blank_row) i within);
        few = omega arith;
      };
      whole = size ∙ are;
    }

-- ---- all documents

labelled_few : (s : ProjectState) (documents : List Document) → sum_by (λ (d : tables.Document). d.tokens) (map (labelled s) documents) ≤ sum (map (λ (d : Document). length d.text) documents)
labelled_few s [] = omega arith
labelled_few s (d ∷ documents) =
    let one : length (tokens_of d.text) ≤ length d.text = tokens_few d.text in
    let rest : sum_by (λ (x : tables.Document). x.tokens) (map (labelled s) documents) ≤ sum (map (λ (x : Document). length x.text) documents) = labelled_few s documents in
    let tokens : sum_by (λ (x : tables.Document). x.tokens) (map (labelled s) (d ∷ documents)) ≡ length (tokens_of d.text) + sum_by (λ (x : tables.Document). x.tokens) (map (labelled s) documents) =
    sum_by-cons (λ (x : tables.Document). x.tokens) (labelled s d) (map (labelled s) documents) in
    let characters : sum (map (λ (x : Document). length x.text) (d ∷ documents)) ≡ length d.text + sum (map (λ (x : Document). length x.text) documents) =
    sum_by-cons (λ (x : ℕ). x) (length d.text) (map (λ (x : Document). length x.text) documents) in
    omega arith

tokens_small : (s : ProjectState) → IsKept s → tokens_in (map (labelled s) s.documents) ≤ 2 ^ 24
unfolding tokens_in
tokens_small s k =
    let few : sum_by (λ (d : tables.Document). d.tokens) (map (labelled s) s.documents) ≤ sum (map (λ (d : Document). length d.text) s.documents) = labelled_few s s.documents in
    let total : sum (map (λ (d : Document). length d.text) s.documents) ≤ 16777216 = k.total in
    omega arith

pub standing_fits : (s : ProjectState) → IsKept s → IsFitting (standing_of s 0)
standing_fits s k = record {
  documents = λ d inside.
      let size : length (map (labelled s) s.documents) ≡ length s.documents = length-map s.documents (labelled s) in
      let within : d < length s.documents = omega arith in
      subst (λ (one : tables.Document). DocumentFits one (length (annotators s)) (grouping_of s.conf.types s.level).width)
      (sym (get_or-map (labelled s) s.documents d no_document tables.no_document within))
      (document_fits s (get_or s.documents d no_document) k (k.documents d no_document within));
  tokens = tokens_small s k;
  narrow = width_few s.conf.types s.level k.founding.sound.types;
}
