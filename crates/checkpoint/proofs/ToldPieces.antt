-- The pieces of what was read so far.
use Rattle.std.proofs.Common.{◌≡◌, ◌⊎◌, ℕ, ◌+◌, ◌<◌, ◌≤◌, ◌||◌, true, cond, List, [], ◌∷◌, ◌++◌, length, map, bytes_eq, refl, sym, ◌∙◌, ap, subst, arith, inl, inr, append-nil}
use Rattle.std.specs.Prelude.{⊤}
use Rattle.std.specs.List.{enumerate_from, flat_map, zip}
use Rattle.std.proofs.Math.Seq.{map-set_same}
use Rattle.entry_bytes.specs.declared.entry.Entry.{Entry}
use Rattle.entry_bytes.specs.declared.entry.Entry.TheVariants as entry
use Rattle.ann_writer.specs.AnnOf.{ann_of}
use Rattle.conf_model.specs.Configurations.{Configuration}
use Rattle.conf_model.specs.ConfText.{conf_text}
use Rattle.command_bytes.specs.CommandBytes.{scripts_bytes}
use Rattle.project_machine.specs.Entries.{document_piece, flags_of, has_draft, held_piece, is_committed, pieces_where, row_pieces, rows_pieces, snapshot_pieces}
use Rattle.project_machine.specs.Legal.{IsSound}
use Rattle.project_machine.specs.ProjectState.{Row, Document, Snapshot, ProjectState, annotators, blank_row, document, is_annotator, no_document, rater_of, row_at, with_row}
use Rattle.project_machine.proofs.KeptLemmas.{any_within, rater_name, same_text}
use Rattle.checkpoint.specs.Projects.{put_row}
use Rattle.checkpoint.specs.declared.so_far.OpenRow.{OpenRow}
use Rattle.checkpoint.specs.declared.so_far.Part.{Part}
use Rattle.checkpoint.specs.declared.so_far.Part.TheVariants as part
use Rattle.checkpoint.specs.declared.so_far.SoFar.{SoFar}
use Rattle.checkpoint.specs.Reading.{closed_by, is_told, is_whole}
use Rattle.checkpoint.proofs.StandLemmas.{IsPart, IsRowPart, in_hand}
use Rattle.checkpoint.proofs.ToldLists.{flat_same, named_none, named_put, numbered_none, numbered_put}

-- ---- what the pieces so far are

-- the pieces of the rows that are in their places
abbrev pub rows_told : ProjectState → List Entry
rows_told s = flat_map (rows_pieces s) (enumerate_from 0 s.documents)

-- the pieces of the snapshots
abbrev pub shots_told : ProjectState → List Entry
shots_told s = flat_map (snapshot_pieces s) s.snapshots

-- the pieces of what is open
abbrev pub part_told : ProjectState → Part → List Entry
part_told s (part.Row r) = cond (is_told r.stage) (row_pieces s r.doc (r.who, r.row)) (entry.Row r.doc r.who r.row.revision (flags_of r.row) ∷ [])
part_told s (part.Shot h) = entry.Snapshot h.doc h.layers ∷ map (held_piece s (record { doc = h.doc; holders = h.held; verdicts = [] })) h.held
part_told s part.Ended = entry.End ∷ []
part_told s _ = []

-- the pieces behind those of the documents
abbrev pub behind_texts : SoFar → List Entry
behind_texts so = (rows_told so.state ++ shots_told so.state) ++ part_told so.state so.part

-- the first piece of a project, which counts so many documents and snapshots
abbrev pub head_on : ProjectState → ℕ → ℕ → Entry
head_on s docs shots = entry.Restored s.place s.level docs shots (conf_text s.conf) s.people

-- the first piece: it counts what was told and what is wanted
abbrev pub head_of : SoFar → Entry
head_of so = head_on so.state (length so.state.documents + so.texts) (length so.state.snapshots + in_hand so.part + so.shots)

-- all pieces so far
abbrev pub all_told : SoFar → List Entry
all_told so = (head_of so ∷ map document_piece so.state.documents) ++ behind_texts so

-- ---- what rows tell depends on the text of their document alone

row_on : Configuration → List ℕ → ℕ → List ℕ × Row → List Entry
row_on conf text doc placed =
    pieces_where (is_committed placed.1 || has_draft placed.1) (entry.Row doc placed.0 placed.1.revision (flags_of placed.1)) ++ pieces_where (is_committed placed.1) (entry.Layer (ann_of conf text placed.1.layer))
    ++ pieces_where (has_draft placed.1) (entry.Draft (scripts_bytes conf text placed.1.done placed.1.undone))

on_text : (s : ProjectState) (doc : ℕ) (placed : List ℕ × Row) → row_pieces s doc placed ≡ row_on s.conf (document s doc).text doc placed
unfolding row_on
on_text s doc placed = refl

-- a document of the same text tells the same rows
rows_same : (s t : ProjectState) (placed : ℕ × Document) → t.conf ≡ s.conf → annotators t ≡ annotators s → (document t placed.0).text ≡ (document s placed.0).text → rows_pieces t placed ≡ rows_pieces s placed
rows_same s t placed conf people text =
    flat_same (row_pieces t placed.0) (row_pieces s placed.0) (zip (annotators t) placed.1.rows)
    (λ x. on_text t placed.0 x ∙ (ap (λ (c : Configuration). row_on c (document t placed.0).text placed.0 x) conf ∙ (ap (λ (w : List ℕ). row_on s.conf w placed.0 x) text ∙ sym (on_text s placed.0 x))))
    ∙ ap (λ (names : List (List ℕ)). flat_map (row_pieces s placed.0) (zip names placed.1.rows)) people

-- ---- one more row

-- the rows of a place and of all behind it are blank
abbrev pub BlankFrom : ProjectState → ℕ → ℕ → Type 0
BlankFrom s doc rater = (d r : ℕ) → (doc < d) ⊎ ((d ≡ doc) × (rater ≤ r)) → row_at s d r ≡ blank_row

blank_tells : (s : ProjectState) (doc : ℕ) (name : List ℕ) (r : Row) → r ≡ blank_row → row_pieces s doc (name, r) ≡ []
blank_tells s doc name r e = ap (λ (q : Row). row_pieces s doc (name, q)) e

-- rows that are all blank tell nothing
pub rows_none : (s : ProjectState) → ((d r : ℕ) → row_at s d r ≡ blank_row) → rows_told s ≡ []
rows_none s blank = numbered_none (rows_pieces s) no_document 0 s.documents (λ i j is. named_none (row_pieces s j) blank_row (annotators s) (document s i).rows (λ name n. blank_tells s j name (row_at s i n) (blank i n)))

-- the rows of a document with one more row
one_put : (s : ProjectState) (doc : ℕ) (who : List ℕ) (r : Row) → is_annotator s who ≡ true → length (document s doc).rows ≡ length (annotators s) → BlankFrom s doc (rater_of s who)
    → rows_pieces s (doc, with_row (rater_of s who) r (document s doc)) ≡ rows_pieces s (doc, document s doc) ++ row_pieces s doc (who, r)
one_put s doc who r annotates many blank =
    let k : ℕ = rater_of s who in
    let low : k < length (annotators s) = any_within (bytes_eq who) (annotators s) annotates in
    named_put (row_pieces s doc) [] blank_row (annotators s) (document s doc).rows k r (omega arith) low (λ name i past. blank_tells s doc name (row_at s doc i) (blank doc i (inr (refl, past))))
    ∙ ap (λ (name : List ℕ). rows_pieces s (doc, document s doc) ++ row_pieces s doc (name, r)) (rater_name s who [] annotates)

-- a row that is put into its place, behind all others, tells its pieces behind theirs
put_told : (s : ProjectState) (doc : ℕ) (who : List ℕ) (r : Row) → doc < length s.documents → is_annotator s who ≡ true → length (document s doc).rows ≡ length (annotators s) → BlankFrom s doc (rater_of s who)
    → rows_told (put_row s doc (rater_of s who) r) ≡ rows_told s ++ row_pieces s doc (who, r)
put_told s doc who r within annotates many blank =
    let new : Document = with_row (rater_of s who) r (document s doc) in
    let t : ProjectState = put_row s doc (rater_of s who) r in
    flat_same (rows_pieces t) (rows_pieces s) (enumerate_from 0 t.documents) (λ placed. rows_same s t placed refl refl (same_text s doc placed.0 who (λ _. r)))
    ∙ numbered_put (rows_pieces s) no_document 0 s.documents doc new (row_pieces s doc (who, r)) within
    (λ j is. let here : doc ≡ j = omega arith in subst (λ n. rows_pieces s (n, new) ≡ rows_pieces s (n, document s doc) ++ row_pieces s doc (who, r)) here (one_put s doc who r annotates many blank))
    (λ i j past is. named_none (row_pieces s j) blank_row (annotators s) (document s i).rows (λ name n. blank_tells s j name (row_at s i n) (blank i n (inl past))))

-- ---- what is open in its place

-- the rows that are still to come are blank
abbrev pub IsBlank : ProjectState → Part → Type 0
IsBlank s part.Start = (d r : ℕ) → row_at s d r ≡ blank_row
IsBlank s (part.Row r) = BlankFrom s r.doc r.rater
IsBlank s _ = ⊤

-- no snapshot was told where a row may still come
abbrev pub HasNone : ProjectState → Part → Type 0
HasNone s part.Start = s.snapshots ≡ []
HasNone s (part.Row r) = s.snapshots ≡ []
HasNone s _ = ⊤

put_rows : (s : ProjectState) (r : OpenRow) → IsSound s → IsRowPart s r → BlankFrom s r.doc r.rater → rows_told (put_row s r.doc r.rater r.row) ≡ rows_told s ++ row_pieces s r.doc (r.who, r.row)
put_rows s r sound is blank =
    subst (λ n. rows_told (put_row s r.doc n r.row) ≡ rows_told s ++ row_pieces s r.doc (r.who, r.row)) (sym is.rater)
    (put_told s r.doc r.who r.row is.within is.annotates (sound.kept.documents r.doc no_document is.within).rows_are (subst (BlankFrom s r.doc) is.rater blank))

-- what is open, and lacks no piece, tells the same in its place
pub closed_told : (s : ProjectState) (p : Part) → IsSound s → IsPart s p → IsBlank s p → HasNone s p → is_whole p ≡ true → rows_told (closed_by p s) ++ shots_told (closed_by p s) ≡ (rows_told s ++ shots_told s) ++ part_told s p
closed_told s part.Start sound is blank none whole = sym (append-nil (rows_told s ++ shots_told s))
closed_told s (part.Row r) sound is blank none whole =
    let t : ProjectState = put_row s r.doc r.rater r.row in
    ap (λ (xs : List Snapshot). rows_told t ++ flat_map (snapshot_pieces t) xs) none
    ∙ (append-nil (rows_told t)
    ∙ (put_rows s r sound is blank
    ∙ sym (ap (λ (xs : List Snapshot). (rows_told s ++ flat_map (snapshot_pieces s) xs) ++ part_told s (part.Row r)) none
    ∙ (ap (λ (x : List Entry). x ++ part_told s (part.Row r)) (append-nil (rows_told s))
    ∙ ap (λ b. rows_told s ++ cond b (row_pieces s r.doc (r.who, r.row)) (entry.Row r.doc r.who r.row.revision (flags_of r.row) ∷ [])) whole))))
closed_told s (part.Shot h) sound is blank none whole = absurd cc
closed_told s part.Shots sound is blank none whole = sym (append-nil (rows_told s ++ shots_told s))
closed_told s part.Ended sound is blank none whole = absurd cc

-- and the documents tell the same
pub closed_texts : (s : ProjectState) (p : Part) → map document_piece (closed_by p s).documents ≡ map document_piece s.documents
closed_texts s (part.Row r) = map-set_same document_piece s.documents r.doc (with_row r.rater r.row (document s r.doc)) no_document refl
closed_texts s _ = refl
