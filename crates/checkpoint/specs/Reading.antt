-- How the pieces of a checkpoint are read, one after another: what those so far leave, what is tested of the next one, and what it leaves.
use Rattle.std.specs.Prelude.{◌≡◌, ℕ, ◌+◌, ◌-◌, ◌<◌, ◌≤◌, ◌^◌, ◌==◌, ◌&&◌, ◌||◌, Bool, true, false, not, List, [], ◌∷◌, ◌++◌, chars, length, nat_le, nat_lt, None}
use Rattle.entry_bytes.specs.declared.entry.Entry.{Entry}
use Rattle.entry_bytes.specs.declared.entry.Entry.TheVariants as entry
use Rattle.entry_bytes.specs.declared.person.Person.{Person}
use Rattle.conf_model.specs.Configurations.{Configuration}
use Rattle.conf_model.specs.ConfText.{conf_text}
use Rattle.layer_model.specs.Annotations.{Annotations, no_marks}
use Rattle.layer_core.specs.declared.command.Command.{Command}
use Rattle.layer_rules.specs.WellFormed.{IsWellFormed}
use Rattle.layer_undo.specs.Replays.{first_refusal}
use Rattle.ann_writer.specs.AnnOf.{ann_of}
use Rattle.unanimous_merge.specs.declared.item.ItemId.{ItemId}
use Rattle.unanimous_merge.specs.Readings.{readings}
use Rattle.curator_decisions.specs.declared.verdict.Verdict.{Verdict}
use Rattle.curator_decisions.specs.Decisions.{Ascend}
use Rattle.curator_decisions.specs.DecisionFaults.{decision_fault}
use Rattle.command_bytes.specs.CommandBytes.{list_bytes, scripts_bytes}
use Rattle.command_bytes.specs.CommandValues.{AreCommands}
use Rattle.project_machine.specs.Entries.{IsShort, verdict_bytes}
use Rattle.project_machine.specs.Legal.{IsFounding, LayerObeys}
use Rattle.project_machine.specs.ProjectState.{Row, ProjectState, document, is_annotator, is_there, new_document, rater_of}
use Rattle.checkpoint.specs.HeldSoFar.{HeldSoFar, follows, with_held}
use Rattle.checkpoint.specs.Projects.{begun, put_row}
use Rattle.checkpoint.specs.declared.so_far.OpenRow.{OpenRow}
use Rattle.checkpoint.specs.declared.so_far.Part.{Part}
use Rattle.checkpoint.specs.declared.so_far.Part.TheVariants as part
use Rattle.checkpoint.specs.declared.so_far.SoFar.{SoFar}
use Rattle.checkpoint.specs.declared.so_far.Stage.{Stage}
use Rattle.checkpoint.specs.declared.so_far.Stage.TheVariants as stage

-- ---- what is open

-- a row lacks no piece: its layer or what is parked in it stands behind its own piece
abbrev pub is_told : Stage → Bool
is_told stage.Named = false
is_told stage.Committed = true
is_told stage.Parked = true

-- nothing that is open lacks a piece
abbrev pub is_whole : Part → Bool
is_whole part.Start = true
is_whole (part.Row r) = is_told r.stage
is_whole (part.Shot shot) = false
is_whole part.Shots = true
is_whole part.Ended = false

-- the row of a place can be the next: it comes behind the one that is open, by document and then by name, and no snapshot was begun
abbrev pub comes_next : Part → ℕ → ℕ → Bool
comes_next part.Start doc rater = true
comes_next (part.Row r) doc rater = is_told r.stage && (nat_lt r.doc doc || (r.doc == doc && nat_lt r.rater rater))
comes_next _ doc rater = false

-- a project with what is open in its place
abbrev pub closed_by : Part → ProjectState → ProjectState
closed_by (part.Row r) s = put_row s r.doc r.rater r.row
closed_by _ s = s

-- the project that the pieces so far tell
abbrev pub closed : SoFar → ProjectState
closed so = closed_by so.part so.state

-- ---- the first piece

-- the numbers of a first piece are within their limits
abbrev pub is_placed : ℕ → ℕ → ℕ → Bool
is_placed place documents snapshots = nat_lt 0 place && nat_le place (2 ^ 62) && nat_le documents 4096 && nat_le snapshots place

-- a first piece of these fields can begin a checkpoint: a project can be founded so, its text is the one of the configuration, and the numbers are within their limits
pub record CanBegin (place level documents snapshots : ℕ) (text : List ℕ) (people : List Person) (conf : Configuration) : Type 0 where
  pub placed : is_placed place documents snapshots ≡ true
  pub founding : IsFounding conf level people
  pub is : text ≡ conf_text conf

-- a piece is the first of a checkpoint, and leaves this
abbrev pub Begins : Entry → SoFar → Type 0
Begins (entry.Restored place level documents snapshots text people) so =
    (conf : Configuration) × CanBegin place level documents snapshots text people conf
    × (so ≡ record { state = begun place level people conf; texts = documents; room = 16777216; shots = snapshots; part = part.Start })
Begins _ so = ⊥

-- ---- documents

-- no row and no snapshot was begun
abbrev pub is_start : Part → Bool
is_start part.Start = true
is_start _ = false

-- a document of this name and text can follow: no row or snapshot was begun, one is wanted, its name is new, and there is room for its characters
abbrev pub text_fits : SoFar → List ℕ → List ℕ → Bool
text_fits so name text = is_start so.part && nat_lt 0 so.texts && not (is_there so.state name) && nat_le (length (chars text)) 200000 && nat_le (length (chars text)) so.room

-- what it leaves: the document, with blank rows
abbrev pub with_text : SoFar → List ℕ → List ℕ → SoFar
with_text so name text = record {
  state = record so.state { documents = so.state.documents ++ new_document so.state name (chars text) ∷ [] };
  texts = so.texts - 1;
  room = so.room - length (chars text);
  shots = so.shots;
  part = so.part;
}

-- ---- rows

-- a row can follow: all documents were told, it comes behind the last one, it is one of a document and an annotator, it was committed no more often than there are changes, and has a flag only where it was committed
abbrev pub row_fits : SoFar → ℕ → List ℕ → ℕ → ℕ → Bool
row_fits so doc who revision flags =
    so.texts == 0 && comes_next so.part doc (rater_of so.state who) && nat_lt doc (length so.state.documents) && is_annotator so.state who && nat_le revision so.state.place && (nat_lt 0 revision || flags == 0)

-- a row without its layer and what is parked in it; the flags are 1 for finished, and 2 for ignored
abbrev pub named_row : ℕ → ℕ → Row
named_row revision flags = record { revision = revision; layer = no_marks; done = []; undone = []; hold = None; finished = flags == 1 || flags == 3; ignored = nat_le 2 flags }

-- what its piece leaves
abbrev pub with_named : SoFar → ℕ → List ℕ → ℕ → ℕ → SoFar
with_named so doc who revision flags = record {
  state = closed so;
  texts = so.texts;
  room = so.room;
  shots = so.shots;
  part = part.Row (record { doc = doc; rater = rater_of so.state who; who = who; row = named_row revision flags; stage = stage.Named });
}

-- the row that is open wants its layer
abbrev pub wants_layer : OpenRow → Bool
wants_layer r = not (is_told r.stage) && nat_lt 0 r.row.revision

-- .ann lines are those of a layer that obeys on a text
pub record AreLines (conf : Configuration) (text lines : List ℕ) (layer : Annotations) : Type 0 where
  pub obeys : LayerObeys conf (length text) layer
  pub are : lines ≡ ann_of conf text layer

-- the lines of this layer can follow: the open row wants it, the entry of its commit is short enough, and it obeys
abbrev pub TakesLayer : ProjectState → Part → List ℕ → Annotations → Type 0
TakesLayer s (part.Row r) lines layer = (wants_layer r ≡ true) × IsShort (entry.Commit r.who 0 0 lines) × AreLines s.conf (document s r.doc).text lines layer
TakesLayer s _ lines layer = ⊥

-- what is open behind the layer of a row
abbrev pub with_layer : Part → Annotations → Part
with_layer (part.Row r) layer = part.Row (record {
  doc = r.doc;
  rater = r.rater;
  who = r.who;
  row = record { revision = r.row.revision; layer = layer; done = []; undone = []; hold = None; finished = r.row.finished; ignored = r.row.ignored };
  stage = stage.Committed;
})
with_layer other layer = other

-- what is parked can follow where a row was committed so often, and so much was read of it: behind its layer, or where it was never committed
abbrev pub takes_draft : Stage → ℕ → Bool
takes_draft stage.Named revision = revision == 0
takes_draft stage.Committed revision = true
takes_draft stage.Parked revision = false

-- bytes are those of commands that are parked on a layer of a text: there are some, and none is refused
pub record AreParked (conf : Configuration) (text : List ℕ) (layer : Annotations) (bytes : List ℕ) (done undone : List Command) : Type 0 where
  pub based : IsWellFormed conf (length text) layer
  pub some : 0 < length done + length undone
  pub typed : AreCommands done × AreCommands undone
  pub accepted : first_refusal conf (length text) layer done undone ≡ None
  pub are : bytes ≡ scripts_bytes conf text done undone

-- these commands can follow: the open row takes them, their piece is short enough, and they replay from its layer
abbrev pub TakesDraft : ProjectState → Part → List ℕ → List Command → List Command → Type 0
TakesDraft s (part.Row r) bytes done undone =
    (takes_draft r.stage r.row.revision ≡ true) × IsShort (entry.Draft bytes) × AreParked s.conf (document s r.doc).text r.row.layer bytes done undone
TakesDraft s _ bytes done undone = ⊥

-- what is open behind what is parked in a row
abbrev pub with_draft : Part → List Command → List Command → Part
with_draft (part.Row r) done undone = part.Row (record {
  doc = r.doc;
  rater = r.rater;
  who = r.who;
  row = record { revision = r.row.revision; layer = r.row.layer; done = done; undone = undone; hold = None; finished = r.row.finished; ignored = r.row.ignored };
  stage = stage.Parked;
})
with_draft other done undone = other

-- ---- snapshots

-- a snapshot can follow: all documents were told, nothing lacks a piece, a snapshot is wanted, and it is one of a document, with 2 to 16 layers
abbrev pub shot_fits : SoFar → ℕ → ℕ → Bool
shot_fits so doc layers = so.texts == 0 && is_whole so.part && nat_lt 0 so.shots && nat_lt doc (length so.state.documents) && nat_le 2 layers && nat_le layers 16

-- what its piece leaves
abbrev pub with_shot : SoFar → ℕ → ℕ → SoFar
with_shot so doc layers = record { state = closed so; texts = so.texts; room = so.room; shots = so.shots - 1; part = part.Shot (record { doc = doc; layers = layers; held = [] }) }

-- a layer of this holder can follow: one is wanted, and the holder is an annotator who follows those before
abbrev pub holder_fits : ProjectState → HeldSoFar → List ℕ → Bool
holder_fits s shot who = nat_lt (length shot.held) shot.layers && is_annotator s who && follows shot.held who

-- the lines of this layer can follow: the holder fits, their piece is short enough, and it obeys
abbrev pub TakesHeld : ProjectState → Part → List ℕ → List ℕ → Annotations → Type 0
TakesHeld s (part.Shot shot) who lines layer =
    (holder_fits s shot who ≡ true) × IsShort (entry.HeldLayer who lines) × AreLines s.conf (document s shot.doc).text lines layer
TakesHeld s _ who lines layer = ⊥

-- what is open behind a layer that a snapshot holds
abbrev pub with_held_in : Part → List ℕ → Annotations → Part
with_held_in (part.Shot shot) who layer = part.Shot (with_held shot who layer)
with_held_in other who layer = other

-- bytes are those of verdicts in the order of items that are accepted on the layers of a snapshot
pub record AreVerdicts (conf : Configuration) (text : List ℕ) (held : List (List ℕ × Annotations)) (bytes : List ℕ) (verdicts : List (ItemId × Verdict)) : Type 0 where
  pub ascending : Ascend verdicts
  pub accepted : decision_fault conf (length text) (readings held) verdicts ≡ None
  pub are : bytes ≡ list_bytes verdict_bytes verdicts

-- these verdicts can follow: all layers of the open snapshot were told, and they are accepted
abbrev pub TakesVerdicts : ProjectState → Part → List ℕ → List (ItemId × Verdict) → Type 0
TakesVerdicts s (part.Shot shot) bytes verdicts = (length shot.held ≡ shot.layers) × AreVerdicts s.conf (document s shot.doc).text shot.held bytes verdicts
TakesVerdicts s _ bytes verdicts = ⊥

-- a project with the open snapshot and its verdicts
abbrev pub with_verdicts : ProjectState → Part → List (ItemId × Verdict) → ProjectState
with_verdicts s (part.Shot shot) verdicts = record s { snapshots = s.snapshots ++ record { doc = shot.doc; holders = shot.held; verdicts = verdicts } ∷ [] }
with_verdicts s _ verdicts = s

-- ---- any piece

-- the last piece can follow: nothing is lacking
abbrev pub end_fits : SoFar → Bool
end_fits so = so.texts == 0 && is_whole so.part && so.shots == 0

-- what it leaves
abbrev pub with_end : SoFar → SoFar
with_end so = record { state = closed so; texts = so.texts; room = so.room; shots = so.shots; part = part.Ended }

-- behind what the pieces so far leave, a piece is read, and leaves this
abbrev pub Reads : SoFar → Entry → SoFar → Type 0
Reads so (entry.Document name text) now = (text_fits so name text ≡ true) × (now ≡ with_text so name text)
Reads so (entry.Row doc who revision flags) now = (row_fits so doc who revision flags ≡ true) × (now ≡ with_named so doc who revision flags)
Reads so (entry.Layer lines) now = (layer : Annotations) × TakesLayer so.state so.part lines layer × (now ≡ record so { part = with_layer so.part layer })
Reads so (entry.Draft bytes) now = (done : List Command) × ((undone : List Command) × TakesDraft so.state so.part bytes done undone × (now ≡ record so { part = with_draft so.part done undone }))
Reads so (entry.Snapshot doc layers) now = (shot_fits so doc layers ≡ true) × (now ≡ with_shot so doc layers)
Reads so (entry.HeldLayer who lines) now = (layer : Annotations) × TakesHeld so.state so.part who lines layer × (now ≡ record so { part = with_held_in so.part who layer })
Reads so (entry.Decided bytes) now = (verdicts : List (ItemId × Verdict)) × TakesVerdicts so.state so.part bytes verdicts × (now ≡ record so { state = with_verdicts so.state so.part verdicts; part = part.Shots })
Reads so entry.End now = (end_fits so ≡ true) × (now ≡ with_end so)
Reads so _ now = ⊥
