-- What happened as entries of a journal: one entry each, but a restored state is the run of its pieces.
use Rattle.std.specs.Prelude.{ℕ, ◌+◌, ◌==◌, ◌||◌, ◌≤◌, Bool, true, false, List, [], ◌∷◌, ◌++◌, length, map, encode_utf8_all, nat_lt, if◌then◌else◌}
use Rattle.std.specs.List.{enumerate_from, flat_map, zip}
use Rattle.entry_bytes.specs.declared.person.Person.{Person}
use Rattle.entry_bytes.specs.declared.entry.Entry.{Entry}
use Rattle.entry_bytes.specs.declared.entry.Entry.TheVariants as entry
use Rattle.entry_bytes.specs.Entries.{entry_bytes}
use Rattle.entry_bytes.specs.Fields.{flag, u32_bytes}
use Rattle.conf_model.specs.ConfText.{conf_text}
use Rattle.layer_model.specs.Classes.{letter_place}
use Rattle.layer_model.specs.Annotations.{Annotations}
use Rattle.ann_writer.specs.AnnOf.{ann_of}
use Rattle.unanimous_merge.specs.declared.item.ItemId.{ItemId}
use Rattle.curator_decisions.specs.declared.verdict.Verdict.{Verdict}
use Rattle.curator_decisions.specs.declared.verdict.Verdict.TheVariants.{Accept, Reject}
use Rattle.project_machine.specs.ProjectState.{Row, Document, Snapshot, ProjectState, annotators, document, text_of}
use Rattle.command_bytes.specs.CommandBytes.{list_bytes, scripts_bytes}
use Rattle.project_machine.specs.Requests.{Happened, Founded, TextAdded, CheckedOut, TakenOver, LayerCommitted, LayerParked, LayerFinished, LayerReopened, LayerIgnored, LayerReadmitted, SnapshotTaken, ItemDecided, ItemUndecided, AllFreed, Restored}

-- the bytes of a text
abbrev pub encoded_text : List ℕ → List ℕ
encoded_text text = encode_utf8_all text

-- the .ann lines of a layer of the document of a number
abbrev pub lines_in : ProjectState → ℕ → Annotations → List ℕ
lines_in s doc layer = ann_of s.conf (document s doc).text layer

-- an item is accepted
abbrev pub accepts : Verdict → Bool
accepts Accept = true
accepts Reject = false

-- ---- the pieces of a state

-- the first piece: the place, the level, how much follows, the configuration and the people
abbrev pub first_piece : ProjectState → Entry
first_piece s = entry.Restored s.place s.level (length s.documents) (length s.snapshots) (conf_text s.conf) s.people

-- the piece of a document
abbrev pub document_piece : Document → Entry
document_piece d = entry.Document d.name (encoded_text d.text)

-- something is parked in a row
abbrev pub has_draft : Row → Bool
has_draft r = nat_lt 0 (length r.done + length r.undone)

-- a row was committed
abbrev pub is_committed : Row → Bool
is_committed r = nat_lt 0 r.revision

-- the flags of a row: 1 for finished, and 2 for ignored
abbrev pub flags_of : Row → ℕ
flags_of r = flag r.finished + (if r.ignored then 2 else 0)

-- a piece where something holds
abbrev pub pieces_where : Bool → Entry → List Entry
pieces_where so piece = if so then piece ∷ [] else []

-- the pieces of the row of an annotator: the row where something was committed or is parked, then the layer, then what is parked
abbrev pub row_pieces : ProjectState → ℕ → List ℕ × Row → List Entry
row_pieces s doc placed =
    pieces_where (is_committed placed.1 || has_draft placed.1) (entry.Row doc placed.0 placed.1.revision (flags_of placed.1))
    ++ pieces_where (is_committed placed.1) (entry.Layer (lines_in s doc placed.1.layer))
    ++ pieces_where (has_draft placed.1) (entry.Draft (scripts_bytes s.conf (document s doc).text placed.1.done placed.1.undone))

-- the pieces of the rows of a document, by name
abbrev pub rows_pieces : ProjectState → ℕ × Document → List Entry
rows_pieces s placed = flat_map (row_pieces s placed.0) (zip (annotators s) placed.1.rows)

-- the piece of a layer that a snapshot holds
abbrev pub held_piece : ProjectState → Snapshot → List ℕ × Annotations → Entry
held_piece s shot held = entry.HeldLayer held.0 (ann_of s.conf (text_of s shot) held.1)

-- a verdict: the place of the holder, the place of the letter, the number, and 1 for accepted
abbrev pub verdict_bytes : ItemId × Verdict → List ℕ
verdict_bytes pair = pair.0.holder ∷ letter_place pair.0.id.kind ∷ u32_bytes pair.0.id.number ++ flag (accepts pair.1) ∷ []

-- the pieces of a snapshot: its document, the layers that it holds by name, and its verdicts by item
abbrev pub snapshot_pieces : ProjectState → Snapshot → List Entry
snapshot_pieces s shot =
    entry.Snapshot shot.doc (length shot.holders) ∷ map (held_piece s shot) shot.holders ++ entry.Decided (list_bytes verdict_bytes shot.verdicts) ∷ []

-- the pieces of a state, in order
unfoldable pub pieces_of : ProjectState → List Entry
pieces_of s =
    first_piece s ∷ map document_piece s.documents ++ flat_map (rows_pieces s) (enumerate_from 0 s.documents)
    ++ flat_map (snapshot_pieces s) s.snapshots ++ entry.End ∷ []

-- ---- one entry for each change

-- a founding: without a level, or at one
abbrev pub founding_entry : List ℕ → List Person → ℕ → Entry
founding_entry conf people level = if level == 255 then entry.Found conf people else entry.FoundAt conf people level

-- the entry of what happens to a state; a restored state begins with its first piece
abbrev pub entry_of : ProjectState → Happened → Entry
entry_of s (Founded conf level people) = founding_entry (conf_text conf) people level
entry_of s (TextAdded by name text) = entry.AddText by name (encoded_text text)
entry_of s (CheckedOut by doc) = entry.Checkout by doc
entry_of s (TakenOver by doc) = entry.TakeOver by doc
entry_of s (LayerCommitted by doc hold layer) = entry.Commit by doc hold (lines_in s doc layer)
entry_of s (LayerParked by doc hold done undone) = entry.Park by doc hold (scripts_bytes s.conf (document s doc).text done undone)
entry_of s (LayerFinished by doc) = entry.Finish by doc
entry_of s (LayerReopened by doc who) = entry.Reopen by doc who
entry_of s (LayerIgnored by doc who) = entry.Ignore by doc who
entry_of s (LayerReadmitted by doc who) = entry.Readmit by doc who
entry_of s (SnapshotTaken by doc) = entry.Snap by doc
entry_of s (ItemDecided by number holder id verdict) = entry.Decide by number holder (letter_place id.kind) id.number (accepts verdict)
entry_of s (ItemUndecided by number holder id) = entry.Undecide by number holder (letter_place id.kind) id.number
entry_of s AllFreed = entry.FreeAll
entry_of s (Restored place state) = first_piece state

-- the entries of what happens to a state: its one entry, or the pieces of a restored state
abbrev pub entries_of : ProjectState → Happened → List Entry
entries_of s (Restored place state) = pieces_of state
entries_of s happened = entry_of s happened ∷ []

-- an entry is not longer than a journal takes
abbrev pub IsShort : Entry → Type 0
IsShort e = length (entry_bytes e) ≤ 16777216
