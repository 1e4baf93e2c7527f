-- The history of one annotator: of all that happened, what concerns that annotator's rows and the documents.
use Rattle.std.specs.Prelude.{◌≡◌, ℕ, ◌||◌, Bool, true, false, List, [], length, map, bytes_eq, get_or, set, replicate, Option, Some, None, if◌then◌else◌}
use Rattle.std.specs.List.{filter_map}
use Rattle.std.specs.Option.{option_map}
use Rattle.project_machine.specs.ProjectState.{Document, ProjectState, blank_row, rater_of, is_annotator, is_curator}
use Rattle.project_machine.specs.Requests.{Asked, Answered, HandedOut, Happened, Founded, TextAdded, CheckedOut, TakenOver, LayerCommitted, LayerParked, LayerFinished, LayerReopened, LayerIgnored, LayerReadmitted, SnapshotTaken, ItemDecided, ItemUndecided, AllFreed, Restored}
use Rattle.project_machine.specs.Machine.{step}
use Rattle.project_machine.specs.History.{after, after_places, numbered, unfounded}

-- a document with one rater's row alone: the others are blank
abbrev pub only_row : ℕ → Document → Document
only_row rater d = record d { rows = set (replicate (length d.rows) blank_row) rater (get_or d.rows rater blank_row) }

-- a project with one annotator's rows alone, and without snapshots
abbrev pub only_rows : List ℕ → ProjectState → ProjectState
only_rows who s = record s { documents = map (only_row (rater_of s who)) s.documents; snapshots = [] }

-- a change where something holds
abbrev pub where_so : Bool → Happened → Option Happened
where_so so happened = if so then Some happened else None

-- what of a change concerns an annotator: what the annotator made happen, what curators did to the annotator's rows, the founding, each text that was added, each freeing, and of a restored state the annotator's rows
abbrev pub own_change : List ℕ → Happened → Option Happened
own_change who (Founded conf level people) = Some (Founded conf level people)
own_change who (TextAdded by name text) = Some (TextAdded by name text)
own_change who (CheckedOut by doc) = where_so (bytes_eq by who) (CheckedOut by doc)
own_change who (TakenOver by doc) = where_so (bytes_eq by who) (TakenOver by doc)
own_change who (LayerCommitted by doc hold layer) = where_so (bytes_eq by who) (LayerCommitted by doc hold layer)
own_change who (LayerParked by doc hold done undone) = where_so (bytes_eq by who) (LayerParked by doc hold done undone)
own_change who (LayerFinished by doc) = where_so (bytes_eq by who) (LayerFinished by doc)
own_change who (LayerReopened by doc whose) = where_so (bytes_eq by who || bytes_eq whose who) (LayerReopened by doc whose)
own_change who (LayerIgnored by doc whose) = where_so (bytes_eq by who || bytes_eq whose who) (LayerIgnored by doc whose)
own_change who (LayerReadmitted by doc whose) = where_so (bytes_eq by who || bytes_eq whose who) (LayerReadmitted by doc whose)
own_change who (SnapshotTaken by doc) = where_so (bytes_eq by who) (SnapshotTaken by doc)
own_change who (ItemDecided by number holder id verdict) = where_so (bytes_eq by who) (ItemDecided by number holder id verdict)
own_change who (ItemUndecided by number holder id) = where_so (bytes_eq by who) (ItemUndecided by number holder id)
own_change who AllFreed = Some AllFreed
own_change who (Restored place state) = Some (Restored place (only_rows who state))

-- the same at its place
abbrev pub own_placed : List ℕ → ℕ × Happened → Option (ℕ × Happened)
own_placed who placed = option_map (λ happened. (placed.0, happened)) (own_change who placed.1)

-- the history of an annotator: each change stands at the place that it has in the whole
abbrev pub own : List ℕ → List Happened → List (ℕ × Happened)
own who log = filter_map (own_placed who) (numbered log)

-- what of an answer is shown to who asked: all but the hold of a layer that is handed out
abbrev pub shown : Answered → Answered
shown (HandedOut out) = HandedOut (record out { hold = 0 })
shown answer = answer

-- what is shown to an annotator follows from the annotator's own history, whatever all others do
abbrev pub IsPrivate : List Happened → List ℕ → Asked → Type 0
IsPrivate log who asked =
    is_annotator (after log) who ≡ true → is_curator (after log) who ≡ false
    → shown (step (after log) who asked).answer ≡ shown (step (after_places unfounded (own who log)) who asked).answer
