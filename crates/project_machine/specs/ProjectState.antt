-- A project at one place of its history.
use Rattle.std.specs.Prelude.{ℕ, ◌-◌, ◌==◌, ◌||◌, Bool, false, not, List, [], length, nat_lt, get_or, set, map, replicate, bytes_eq, Option, Some, None, is_some, if◌then◌else◌}
use Rattle.std.specs.List.{filter, filter_map, list_any, position_or_len, zip}
use Rattle.mark_base.specs.declared.ann_id.AnnId.{AnnId}
use Rattle.entry_bytes.specs.declared.person.Person.{Person}
use Rattle.conf_model.specs.Configurations.{Configuration}
use Rattle.layer_model.specs.Annotations.{Annotations, no_marks}
use Rattle.layer_core.specs.declared.command.Command.{Command}
use Rattle.unanimous_merge.specs.declared.item.ItemId.{ItemId}
use Rattle.curator_decisions.specs.declared.verdict.Verdict.{Verdict}

-- what one annotator has done on one document: how often it was committed, the committed layer, the commands done and undone since that were parked, the hold under which it is out, and two flags
pub record Row : Type 0 where
  pub revision : ℕ
  pub layer : Annotations
  pub done : List Command
  pub undone : List Command
  pub hold : Option ℕ
  pub finished : Bool
  pub ignored : Bool

-- a document: its name, the characters of its text, and a row for each annotator in the order of their names
pub record Document : Type 0 where
  pub name : List ℕ
  pub text : List ℕ
  pub rows : List Row

-- a snapshot: the number of its document, the layers that were finished when it was taken, by their holders, and the verdicts that stand on its items, in the order of items
pub record Snapshot : Type 0 where
  pub doc : ℕ
  pub holders : List (List ℕ × Annotations)
  pub verdicts : List (ItemId × Verdict)

-- a project: its configuration, the level at which types are compared (255 for none), its people in the order of their names, the place of the last change, the documents as they were added, and the snapshots as they were taken
pub record ProjectState : Type 0 where
  pub conf : Configuration
  pub level : ℕ
  pub people : List Person
  pub place : ℕ
  pub documents : List Document
  pub snapshots : List Snapshot

-- a row on which nothing was done
abbrev pub blank_row : Row
blank_row = record { revision = 0; layer = no_marks; done = []; undone = []; hold = None; finished = false; ignored = false }

-- what stands where there is no document
abbrev pub no_document : Document
no_document = record { name = []; text = []; rows = [] }

-- what stands where there is no snapshot
abbrev pub no_snapshot : Snapshot
no_snapshot = record { doc = 0; holders = []; verdicts = [] }

-- ---- people

-- the names of the annotators, in order
abbrev pub annotators : ProjectState → List (List ℕ)
annotators s = map (λ person. person.name) (filter (λ person. not person.curator) s.people)

-- the names of the curators, in order
abbrev pub curators : ProjectState → List (List ℕ)
curators s = map (λ person. person.name) (filter (λ person. person.curator) s.people)

-- somebody is an annotator
abbrev pub is_annotator : ProjectState → List ℕ → Bool
is_annotator s who = list_any (bytes_eq who) (annotators s)

-- somebody is a curator
abbrev pub is_curator : ProjectState → List ℕ → Bool
is_curator s who = list_any (bytes_eq who) (curators s)

-- the place of an annotator among the annotators, from 0; without one, their count
abbrev pub rater_of : ProjectState → List ℕ → ℕ
rater_of s who = position_or_len (bytes_eq who) (annotators s)

-- ---- documents and their rows

-- a document of this name is there
abbrev pub is_there : ProjectState → List ℕ → Bool
is_there s name = list_any (λ d. bytes_eq d.name name) s.documents

-- the number of the document of a name, from 0; without one, their count
abbrev pub number_of : ProjectState → List ℕ → ℕ
number_of s name = position_or_len (λ d. bytes_eq d.name name) s.documents

-- the document of a number
abbrev pub document : ProjectState → ℕ → Document
document s doc = get_or s.documents doc no_document

-- the row of an annotator by place in the document of a number
abbrev pub row_at : ProjectState → ℕ → ℕ → Row
row_at s doc rater = get_or (document s doc).rows rater blank_row

-- the row of an annotator by name in the document of a number
abbrev pub row : ProjectState → ℕ → List ℕ → Row
row s doc who = row_at s doc (rater_of s who)

-- the row of an annotator in the document of a name
abbrev pub row_in : ProjectState → List ℕ → List ℕ → Row
row_in s name who = row s (number_of s name) who

-- a document with another row of a rater
abbrev pub with_row : ℕ → Row → Document → Document
with_row rater new d = record { name = d.name; text = d.text; rows = set d.rows rater new }

-- a project with another row of an annotator in the document of a number
abbrev pub set_row : ProjectState → ℕ → List ℕ → Row → ProjectState
set_row s doc who new = record s { documents = set s.documents doc (with_row (rater_of s who) new (document s doc)) }

-- a document as it is added: nothing was done on it
abbrev pub new_document : ProjectState → List ℕ → List ℕ → Document
new_document s name text = record { name = name; text = text; rows = replicate (length (annotators s)) blank_row }

-- some layer is out
abbrev pub is_some_out : ProjectState → Bool
is_some_out s = list_any (λ d. list_any (λ r. is_some r.hold) d.rows) s.documents

-- ---- snapshots

-- the layer of a row that is finished, by its holder
abbrev pub finished_row : List ℕ × Row → Option (List ℕ × Annotations)
finished_row placed = if placed.1.finished then Some (placed.0, placed.1.layer) else None

-- the finished layers of a document in the order of their holders, ignored ones too
abbrev pub finished_rows : ProjectState → ℕ → List (List ℕ × Annotations)
finished_rows s doc = filter_map finished_row (zip (annotators s) (document s doc).rows)

-- no snapshot of this number was taken: they count from 1
abbrev pub is_untaken : ProjectState → ℕ → Bool
is_untaken s number = number == 0 || nat_lt (length s.snapshots) number

-- the snapshot of a number that was taken; of another number it means nothing
abbrev pub snapshot : ProjectState → ℕ → Snapshot
snapshot s number = get_or s.snapshots (number - 1) no_snapshot

-- the snapshot of a number, if it was taken
abbrev pub snapshot_of : ProjectState → ℕ → Option Snapshot
snapshot_of s number = if is_untaken s number then None else Some (snapshot s number)

-- the text that a snapshot's layers are for
abbrev pub text_of : ProjectState → Snapshot → List ℕ
text_of s shot = (document s shot.doc).text

-- somebody holds a layer of a snapshot
abbrev pub is_holder : Snapshot → List ℕ → Bool
is_holder shot who = list_any (λ held. bytes_eq held.0 who) shot.holders

-- the place of a holder in a snapshot, from 0; without one, how many there are
abbrev pub holder_of : Snapshot → List ℕ → ℕ
holder_of shot who = position_or_len (λ held. bytes_eq held.0 who) shot.holders

-- the item of a snapshot that a holder's annotation names; a holder who is not there has no item
abbrev pub item_in : Snapshot → List ℕ → AnnId → ItemId
item_in shot who id = record { holder = holder_of shot who; id = id }

-- the name of the holder of a place
abbrev pub holder_name : Snapshot → ℕ → List ℕ
holder_name shot holder = (get_or shot.holders holder ([], no_marks)).0
