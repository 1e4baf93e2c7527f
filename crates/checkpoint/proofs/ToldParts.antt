-- What each piece adds to those that were told, kind by kind.
use Rattle.std.proofs.Common.{◌≡◌, ℕ, ◌+◌, ◌-◌, ◌<◌, ◌||◌, Bool, true, false, cond, List, [], ◌∷◌, ◌++◌, length, map, nat_lt, zero, suc, refl, sym, ◌∙◌, ap, arith, append_assoc, append-nil, length-append}
use Rattle.std.specs.Prelude.{chars, ⊤}
use Rattle.std.specs.List.{flat_map}
use Rattle.std.proofs.lemmas.Bool.{and_parts, eqb-true, lt-ltb}
use Rattle.std.proofs.lemmas.List.{flat_map_more, map-append}
use Rattle.std.proofs.lemmas.Str.{encodes-chars}
use Rattle.entry_bytes.specs.declared.entry.Entry.{Entry}
use Rattle.entry_bytes.specs.declared.entry.Entry.TheVariants as entry
use Rattle.entry_bytes.specs.Fields.{IsText}
use Rattle.layer_model.specs.Annotations.{Annotations}
use Rattle.layer_core.specs.declared.command.Command.{Command}
use Rattle.ann_writer.specs.AnnOf.{ann_of}
use Rattle.unanimous_merge.specs.declared.item.ItemId.{ItemId}
use Rattle.curator_decisions.specs.declared.verdict.Verdict.{Verdict}
use Rattle.command_bytes.specs.CommandBytes.{list_bytes, scripts_bytes}
use Rattle.project_machine.specs.Entries.{document_piece, flags_of, has_draft, held_piece, is_committed, pieces_where, row_pieces, snapshot_pieces, verdict_bytes}
use Rattle.project_machine.specs.Legal.{IsSound}
use Rattle.project_machine.specs.ProjectState.{Row, Document, Snapshot, ProjectState, blank_row, document, new_document, row_at}
use Rattle.checkpoint.specs.HeldSoFar.{HeldSoFar}
use Rattle.checkpoint.specs.declared.so_far.Part.{Part}
use Rattle.checkpoint.specs.declared.so_far.Part.TheVariants as part
use Rattle.checkpoint.specs.declared.so_far.SoFar.{SoFar}
use Rattle.checkpoint.specs.declared.so_far.Stage.{Stage}
use Rattle.checkpoint.specs.declared.so_far.Stage.TheVariants as stage
use Rattle.checkpoint.specs.Reading.{TakesDraft, TakesHeld, TakesLayer, TakesVerdicts, closed, closed_by, is_start, is_told, is_whole, named_row, takes_draft, with_draft, with_held_in, with_layer, with_text, with_verdicts}
use Rattle.checkpoint.proofs.KeepableLemmas.{closed_length, not_true}
use Rattle.checkpoint.proofs.StandLemmas.{IsPart, in_hand, whole_hand}
use Rattle.checkpoint.proofs.ToldPieces.{HasNone, IsBlank, all_told, behind_texts, closed_texts, closed_told, head_of, head_on, part_told, rows_none, rows_told, shots_told}

-- ---- a piece behind all others

-- what is told grows by a piece that stands behind all others
grows : (h k : Entry) (docs texts more tail : List Entry) (e : Entry) → h ≡ k → docs ≡ texts → more ≡ tail ++ e ∷ [] → (h ∷ docs) ++ more ≡ ((k ∷ texts) ++ tail) ++ e ∷ []
grows h k docs texts more tail e first same is =
    ap (λ (x : Entry). (x ∷ docs) ++ more) first
    ∙ (ap (λ (x : List Entry). (k ∷ x) ++ more) same
    ∙ (ap (λ (x : List Entry). (k ∷ texts) ++ x) is ∙ sym (append_assoc (k ∷ texts) tail (e ∷ []))))

-- one more piece of what is open
pub part_grows : (so : SoFar) (p : Part) (e : Entry) → in_hand p ≡ in_hand so.part → part_told so.state p ≡ part_told so.state so.part ++ e ∷ [] → all_told (record so { part = p }) ≡ all_told so ++ e ∷ []
part_grows so p e hand is =
    grows (head_of (record so { part = p })) (head_of so) (map document_piece so.state.documents) (map document_piece so.state.documents) (behind_texts (record so { part = p })) (behind_texts so) e
    (ap (λ n. head_on so.state (length so.state.documents + so.texts) (length so.state.snapshots + n + so.shots)) hand) refl
    (ap (λ (x : List Entry). (rows_told so.state ++ shots_told so.state) ++ x) is ∙ sym (append_assoc (rows_told so.state ++ shots_told so.state) (part_told so.state so.part) (e ∷ [])))

-- ---- documents

nothing_open : (s : ProjectState) (p : Part) → is_start p ≡ true → part_told s p ≡ []
nothing_open s part.Start e = refl
nothing_open s (part.Row r) e = absurd cc
nothing_open s (part.Shot h) e = absurd cc
nothing_open s part.Shots e = refl
nothing_open s part.Ended e = absurd cc

-- where all rows are blank and there is no snapshot, nothing stands behind the documents
nothing_behind : (s : ProjectState) (p : Part) → is_start p ≡ true → ((d r : ℕ) → row_at s d r ≡ blank_row) → s.snapshots ≡ [] → (rows_told s ++ shots_told s) ++ part_told s p ≡ []
nothing_behind s p start blank none =
    ap (λ (x : List Entry). (rows_told s ++ shots_told s) ++ x) (nothing_open s p start)
    ∙ (append-nil (rows_told s ++ shots_told s)
    ∙ (ap (λ (x : List Entry). x ++ shots_told s) (rows_none s blank) ∙ ap (λ (xs : List Snapshot). flat_map (snapshot_pieces s) xs) none))

-- what is told grows by a document where nothing stands behind the documents
texts_grow : (h k : Entry) (docs texts more tail : List Entry) (e : Entry) → h ≡ k → docs ≡ texts ++ e ∷ [] → more ≡ [] → tail ≡ [] → (h ∷ docs) ++ more ≡ ((k ∷ texts) ++ tail) ++ e ∷ []
texts_grow h k docs texts more tail e first is none nothing =
    ap (λ (x : List Entry). (h ∷ docs) ++ x) none
    ∙ (append-nil (h ∷ docs)
    ∙ (ap (λ (x : Entry). x ∷ docs) first
    ∙ (ap (λ (x : List Entry). k ∷ x) is
    ∙ sym (ap (λ (x : List Entry). ((k ∷ texts) ++ x) ++ e ∷ []) nothing ∙ ap (λ (x : List Entry). x ++ e ∷ []) (append-nil (k ∷ texts))))))

-- one more document
pub text_told : (so : SoFar) (name text : List ℕ) → IsText text → is_start so.part ≡ true → 0 < so.texts → ((d r : ℕ) → row_at so.state d r ≡ blank_row) → ((d r : ℕ) → row_at (with_text so name text).state d r ≡ blank_row)
    → so.state.snapshots ≡ [] → all_told (with_text so name text) ≡ all_told so ++ entry.Document name text ∷ []
text_told so name text is start wanted blank still none =
    let s = so.state in
    let now : SoFar = with_text so name text in
    let one : Document = new_document s name (chars text) in
    let count : length (s.documents ++ one ∷ []) + (so.texts - 1) ≡ length s.documents + so.texts = omega (arith, length-append s.documents (one ∷ [])) in
    texts_grow (head_of now) (head_of so) (map document_piece now.state.documents) (map document_piece s.documents) (behind_texts now) (behind_texts so) (entry.Document name text)
    (ap (λ n. head_on s n (length s.snapshots + in_hand so.part + so.shots)) count)
    (map-append document_piece s.documents (one ∷ []) ∙ ap (λ (words : List ℕ). map document_piece s.documents ++ entry.Document name words ∷ []) (encodes-chars text is.utf8))
    (nothing_behind now.state so.part start still none)
    (nothing_behind s so.part start blank none)

-- ---- a piece that begins something

closed_head : (p : Part) (s : ProjectState) (docs shots : ℕ) → head_on (closed_by p s) docs shots ≡ head_on s docs shots
closed_head (part.Row r) s docs shots = refl
closed_head _ s docs shots = refl

closed_count : (p : Part) (s : ProjectState) → length (closed_by p s).snapshots ≡ length s.snapshots
closed_count (part.Row r) s = refl
closed_count _ s = refl

-- it closes what was open, and is told behind it
pub closing : (so : SoFar) (shots : ℕ) (p : Part) (e : Entry) → IsSound so.state → IsPart so.state so.part → IsBlank so.state so.part → HasNone so.state so.part → is_whole so.part ≡ true
    → in_hand p + shots ≡ so.shots → part_told (closed so) p ≡ e ∷ [] → all_told (record { state = closed so; texts = so.texts; room = so.room; shots = shots; part = p }) ≡ all_told so ++ e ∷ []
closing so shots p e sound is blank none whole wanted begun =
    let s = so.state in
    let t : ProjectState = closed so in
    let now : SoFar = record { state = t; texts = so.texts; room = so.room; shots = shots; part = p } in
    let hand : in_hand so.part ≡ 0 = whole_hand so.part whole in
    let taken : length t.snapshots ≡ length s.snapshots = closed_count so.part s in
    let many : length t.snapshots + in_hand p + shots ≡ length s.snapshots + in_hand so.part + so.shots = omega arith in
    grows (head_of now) (head_of so) (map document_piece t.documents) (map document_piece s.documents) (behind_texts now) (behind_texts so) e
    (closed_head so.part s (length t.documents + so.texts) (length t.snapshots + in_hand p + shots)
    ∙ (ap (λ n. head_on s (n + so.texts) (length t.snapshots + in_hand p + shots)) (closed_length so.part s)
    ∙ ap (λ n. head_on s (length s.documents + so.texts) n) many))
    (closed_texts s so.part)
    (ap (λ (x : List Entry). (rows_told t ++ shots_told t) ++ x) begun ∙ ap (λ (x : List Entry). x ++ e ∷ []) (closed_told s so.part sound is blank none whole))

-- the flags of a row as it is named
flags_back : (revision flags : ℕ) → flags < 4 → flags_of (named_row revision flags) ≡ flags
flags_back revision zero low = refl
flags_back revision (suc zero) low = refl
flags_back revision (suc (suc zero)) low = refl
flags_back revision (suc (suc (suc zero))) low = refl
flags_back revision (suc (suc (suc (suc n)))) low = absurd (omega arith)

-- a row that is named tells its own piece
pub named_told : (s : ProjectState) (doc rater : ℕ) (who : List ℕ) (revision flags : ℕ) → flags < 4
    → part_told s (part.Row (record { doc = doc; rater = rater; who = who; row = named_row revision flags; stage = stage.Named })) ≡ entry.Row doc who revision flags ∷ []
named_told s doc rater who revision flags low = ap (λ n. entry.Row doc who revision n ∷ []) (flags_back revision flags low)

-- ---- the pieces of an open row

-- the pieces of a row that was committed or not, and in which something is parked or not
abbrev cell : Bool → Bool → Entry → Entry → Entry → List Entry
cell committed parked row layer draft = pieces_where (committed || parked) row ++ pieces_where committed layer ++ pieces_where parked draft

-- nothing is parked in a row before the piece of that is read, and its layer is read where it was committed
abbrev pub IsBareAt : Stage → Row → Type 0
IsBareAt stage.Named q = (q.done ≡ []) × (q.undone ≡ [])
IsBareAt stage.Committed q = (0 < q.revision) × (q.done ≡ []) × (q.undone ≡ [])
IsBareAt stage.Parked q = ⊤

none_parked : (q : Row) → q.done ≡ [] → q.undone ≡ [] → has_draft q ≡ false
none_parked q done undone = ap (λ (cs : List Command). nat_lt 0 (length cs + length q.undone)) done ∙ ap (λ (cs : List Command). nat_lt 0 (0 + length cs)) undone

-- its layer
pub layer_told : (s : ProjectState) (p : Part) (lines : List ℕ) (layer : Annotations) → TakesLayer s p lines layer → part_told s (with_layer p layer) ≡ part_told s p ++ entry.Layer lines ∷ []
layer_told s (part.Row r) lines layer takes =
    let wants = and_parts _ _ takes.0 in
    let text : List ℕ = (document s r.doc).text in
    let row : Entry = entry.Row r.doc r.who r.row.revision (flags_of r.row) in
    let here : Entry = entry.Layer (ann_of s.conf text layer) in
    ap (λ (b : Bool). cell b false row here (entry.Draft (scripts_bytes s.conf text [] []))) wants.1
    ∙ (ap (λ (l : List ℕ). row ∷ entry.Layer l ∷ []) (sym takes.2.are)
    ∙ sym (ap (λ (b : Bool). cond b (row_pieces s r.doc (r.who, r.row)) (row ∷ []) ++ entry.Layer lines ∷ []) (not_true (is_told r.stage) wants.0)))
layer_told s _ lines layer takes = absurd takes

draft_cells : (st : Stage) (q : Row) (row layer draft old : Entry) → takes_draft st q.revision ≡ true → IsBareAt st q → cell (is_committed q) true row layer draft ≡ cond (is_told st) (cell (is_committed q) (has_draft q) row layer old) (row ∷ []) ++ draft ∷ []
draft_cells stage.Named q row layer draft old takes bare = ap (λ n. cell (nat_lt 0 n) true row layer draft) (eqb-true q.revision 0 takes)
draft_cells stage.Committed q row layer draft old takes bare =
    let some : nat_lt 0 q.revision ≡ true = lt-ltb 0 q.revision bare.0 in
    ap (λ (b : Bool). cell b true row layer draft) some
    ∙ sym (ap (λ (b : Bool). cell b (has_draft q) row layer old ++ draft ∷ []) some ∙ ap (λ (b : Bool). cell true b row layer old ++ draft ∷ []) (none_parked q bare.1 bare.2))
draft_cells stage.Parked q row layer draft old takes bare = absurd cc

-- nothing is parked in what is open before the piece of that is read
abbrev pub IsBare : Part → Type 0
IsBare (part.Row r) = IsBareAt r.stage r.row
IsBare _ = ⊤

-- what is parked in it
pub draft_told : (s : ProjectState) (p : Part) (bytes : List ℕ) (done undone : List Command) → IsBare p → TakesDraft s p bytes done undone → part_told s (with_draft p done undone) ≡ part_told s p ++ entry.Draft bytes ∷ []
draft_told s (part.Row r) bytes done undone bare takes =
    let text : List ℕ = (document s r.doc).text in
    let row : Entry = entry.Row r.doc r.who r.row.revision (flags_of r.row) in
    let here : Entry = entry.Layer (ann_of s.conf text r.row.layer) in
    let parked : Entry = entry.Draft (scripts_bytes s.conf text done undone) in
    ap (λ (b : Bool). cell (is_committed r.row) b row here parked) (lt-ltb 0 (length done + length undone) takes.2.some)
    ∙ (draft_cells r.stage r.row row here parked (entry.Draft (scripts_bytes s.conf text r.row.done r.row.undone)) takes.0 bare
    ∙ ap (λ (b : List ℕ). part_told s (part.Row r) ++ entry.Draft b ∷ []) (sym takes.2.are))
draft_told s _ bytes done undone bare takes = absurd takes

-- ---- the pieces of an open snapshot

-- a layer that it holds
pub held_told : (s : ProjectState) (p : Part) (who lines : List ℕ) (layer : Annotations) → TakesHeld s p who lines layer → part_told s (with_held_in p who layer) ≡ part_told s p ++ entry.HeldLayer who lines ∷ []
held_told s (part.Shot h) who lines layer takes =
    let one : Snapshot = record { doc = h.doc; holders = h.held; verdicts = [] } in
    ap (λ (x : List Entry). entry.Snapshot h.doc h.layers ∷ x) (map-append (held_piece s one) h.held ((who, layer) ∷ []))
    ∙ ap (λ (l : List ℕ). part_told s (part.Shot h) ++ entry.HeldLayer who l ∷ []) (sym takes.2.are)
held_told s _ who lines layer takes = absurd takes

-- its verdicts, which close it
decided_behind : (s : ProjectState) (h : HeldSoFar) (verdicts : List (ItemId × Verdict)) → length h.held ≡ h.layers
    → (rows_told s ++ shots_told (with_verdicts s (part.Shot h) verdicts)) ++ [] ≡ ((rows_told s ++ shots_told s) ++ part_told s (part.Shot h)) ++ entry.Decided (list_bytes verdict_bytes verdicts) ∷ []
decided_behind s h verdicts many =
    let one : Snapshot = record { doc = h.doc; holders = h.held; verdicts = verdicts } in
    let held : List Entry = map (held_piece s one) h.held in
    let last : List Entry = entry.Decided (list_bytes verdict_bytes verdicts) ∷ [] in
    append-nil (rows_told s ++ flat_map (snapshot_pieces s) (s.snapshots ++ one ∷ []))
    ∙ (ap (λ (x : List Entry). rows_told s ++ x) (sym (flat_map_more (snapshot_pieces s) [] s.snapshots one))
    ∙ (sym (append_assoc (rows_told s) (shots_told s) (snapshot_pieces s one))
    ∙ (ap (λ n. (rows_told s ++ shots_told s) ++ (entry.Snapshot h.doc n ∷ held ++ last)) many
    ∙ sym (append_assoc (rows_told s ++ shots_told s) (entry.Snapshot h.doc h.layers ∷ held) last))))

decided_at : (s : ProjectState) (p : Part) (texts room shots : ℕ) (bytes : List ℕ) (verdicts : List (ItemId × Verdict)) → TakesVerdicts s p bytes verdicts
    → all_told (record { state = with_verdicts s p verdicts; texts = texts; room = room; shots = shots; part = part.Shots }) ≡ all_told (record { state = s; texts = texts; room = room; shots = shots; part = p }) ++ entry.Decided bytes ∷ []
decided_at s (part.Shot h) texts room shots bytes verdicts takes =
    let so : SoFar = record { state = s; texts = texts; room = room; shots = shots; part = part.Shot h } in
    let now : SoFar = record { state = with_verdicts s (part.Shot h) verdicts; texts = texts; room = room; shots = shots; part = part.Shots } in
    let one : Snapshot = record { doc = h.doc; holders = h.held; verdicts = verdicts } in
    let many : length (s.snapshots ++ one ∷ []) + 0 + shots ≡ length s.snapshots + 1 + shots = omega (arith, length-append s.snapshots (one ∷ [])) in
    grows (head_of now) (head_of so) (map document_piece s.documents) (map document_piece s.documents) (behind_texts now) (behind_texts so) (entry.Decided bytes)
    (ap (λ n. head_on s (length s.documents + texts) n) many) refl
    (decided_behind s h verdicts takes.0 ∙ ap (λ (b : List ℕ). behind_texts so ++ entry.Decided b ∷ []) (sym takes.1.are))
decided_at s _ texts room shots bytes verdicts takes = absurd takes

pub decided_told : (so : SoFar) (bytes : List ℕ) (verdicts : List (ItemId × Verdict)) → TakesVerdicts so.state so.part bytes verdicts
    → all_told (record so { state = with_verdicts so.state so.part verdicts; part = part.Shots }) ≡ all_told so ++ entry.Decided bytes ∷ []
decided_told so bytes verdicts takes = decided_at so.state so.part so.texts so.room so.shots bytes verdicts takes
