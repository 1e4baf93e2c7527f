-- The history of a project: what happened in turn, at places that count from 1, or go on from the place of a state that was restored.
use Rattle.std.specs.Prelude.{ℕ, ◌+◌, ◌-◌, ◌==◌, Bool, true, false, List, [], ◌∷◌, ◌++◌, length, map, set, take, drop, nat_lt, slice_get, Option, Some, None, if◌then◌else◌}
use Rattle.std.specs.List.{filter_map}
use Rattle.entry_bytes.specs.Entries.{entry_bytes}
use Rattle.layer_model.specs.Annotations.{Annotations}
use Rattle.layer_core.specs.declared.command.Command.{Command}
use Rattle.unanimous_merge.specs.declared.item.ItemId.{ItemId}
use Rattle.curator_decisions.specs.declared.verdict.Verdict.{Verdict}
use Rattle.curator_decisions.specs.Decisions.{with_verdict, without_verdict}
use Rattle.project_machine.specs.ProjectState.{Row, Document, Snapshot, ProjectState, row, set_row, new_document, finished_rows, snapshot}
use Rattle.project_machine.specs.Requests.{Happened, Founded, TextAdded, CheckedOut, TakenOver, LayerCommitted, LayerParked, LayerFinished, LayerReopened, LayerIgnored, LayerReadmitted, SnapshotTaken, ItemDecided, ItemUndecided, AllFreed, Restored}
use Rattle.project_machine.specs.Entries.{entries_of}

-- ---- what each change does

-- a row that is out under a hold, or under none
abbrev pub under_hold : Option ℕ → Row → Row
under_hold hold r = record r { hold = hold }

-- a row with one more commit: the layer is there, and nothing is parked
abbrev pub with_commit : Annotations → Row → Row
with_commit layer r = record r { revision = r.revision + 1; layer = layer; done = []; undone = [] }

-- a row whose scripts are parked: it is out no more
abbrev pub with_draft : List Command → List Command → Row → Row
with_draft done undone r = record r { done = done; undone = undone; hold = None }

-- a row that is finished, or open again
abbrev pub with_finished : Bool → Row → Row
with_finished finished r = record r { finished = finished }

-- a row that is left out of the tables, or put back
abbrev pub with_ignored : Bool → Row → Row
with_ignored ignored r = record r { ignored = ignored }

-- a document of which no row is out
abbrev pub freed : Document → Document
freed d = record d { rows = map (under_hold None) d.rows }

-- a project whose row of an annotator is changed
abbrev pub on_row : ProjectState → ℕ → List ℕ → (Row → Row) → ProjectState
on_row s doc who changed = set_row s doc who (changed (row s doc who))

-- a snapshot of the layers of a document that are finished
abbrev pub new_snapshot : ProjectState → ℕ → Snapshot
new_snapshot s doc = record { doc = doc; holders = finished_rows s doc; verdicts = [] }

-- a snapshot with one verdict more
abbrev pub with_decision : ItemId → Verdict → Snapshot → Snapshot
with_decision item verdict shot = record shot { verdicts = with_verdict shot.verdicts item verdict }

-- a snapshot without the verdict on an item
abbrev pub without_decision : ItemId → Snapshot → Snapshot
without_decision item shot = record shot { verdicts = without_verdict shot.verdicts item }

-- a project whose snapshot of a number is changed
abbrev pub on_snapshot : ProjectState → ℕ → (Snapshot → Snapshot) → ProjectState
on_snapshot s number changed = record s { snapshots = set s.snapshots (number - 1) (changed (snapshot s number)) }

-- a project after what happened at a place, but for the place
abbrev pub acted : ℕ → Happened → ProjectState → ProjectState
acted place (Founded conf level people) s = record { conf = conf; level = level; people = people; place = place; documents = []; snapshots = [] }
acted place (TextAdded by name text) s = record s { documents = s.documents ++ new_document s name text ∷ [] }
acted place (CheckedOut by doc) s = on_row s doc by (under_hold (Some place))
acted place (TakenOver by doc) s = on_row s doc by (under_hold (Some place))
acted place (LayerCommitted by doc hold layer) s = on_row s doc by (with_commit layer)
acted place (LayerParked by doc hold done undone) s = on_row s doc by (with_draft done undone)
acted place (LayerFinished by doc) s = on_row s doc by (with_finished true)
acted place (LayerReopened by doc who) s = on_row s doc who (with_finished false)
acted place (LayerIgnored by doc who) s = on_row s doc who (with_ignored true)
acted place (LayerReadmitted by doc who) s = on_row s doc who (with_ignored false)
acted place (SnapshotTaken by doc) s = record s { snapshots = s.snapshots ++ new_snapshot s doc ∷ [] }
acted place (ItemDecided by number holder id verdict) s = on_snapshot s number (with_decision (record { holder = holder; id = id }) verdict)
acted place (ItemUndecided by number holder id) s = on_snapshot s number (without_decision (record { holder = holder; id = id }))
acted place AllFreed s = record s { documents = map freed s.documents }
acted place (Restored at state) s = state

-- the effect of what happened at a place
abbrev pub effect : ℕ → Happened → ProjectState → ProjectState
effect place happened s = record (acted place happened s) { place = place }

-- ---- places

-- the place of what happened next behind a place: a restored state carries its own
abbrev pub place_behind : Happened → ℕ → ℕ
place_behind (Restored at state) before = at
place_behind happened before = before + 1

-- what happened in turn, each at its place, behind a place
abbrev pub numbered_from : ℕ → List Happened → List (ℕ × Happened)
numbered_from before [] = []
numbered_from before (happened ∷ log) = (place_behind happened before, happened) ∷ numbered_from (place_behind happened before) log

-- a history, each change at its place
abbrev pub numbered : List Happened → List (ℕ × Happened)
numbered log = numbered_from 0 log

-- a project after what happened to it at some places in turn
abbrev pub after_places : ProjectState → List (ℕ × Happened) → ProjectState
after_places s [] = s
after_places s (placed ∷ log) = after_places (effect placed.0 placed.1 s) log

-- a project before its history
abbrev pub unfounded : ProjectState
unfounded = record {
  conf = record { types = []; roles = []; relations = []; attributes = []; overlaps = [] };
  level = 255;
  people = [];
  place = 0;
  documents = [];
  snapshots = [];
}

-- the state after a history
abbrev pub after : List Happened → ProjectState
after log = after_places unfounded (numbered log)

-- the place before the first of a history
abbrev pub begin : List Happened → ℕ
begin [] = 0
begin (happened ∷ log) = place_behind happened 0 - 1

-- the place of the last of a history
abbrev pub last : List Happened → ℕ
last log = begin log + length log

-- a history up to a place
abbrev pub upto : ℕ → List Happened → List Happened
upto place log = take (place - begin log) log

-- what happened above a place
abbrev pub above : ℕ → List Happened → List Happened
above place log = drop (place - begin log) log

-- what happened at a place
abbrev pub change_at : ℕ → List Happened → Option Happened
change_at place log = if nat_lt (begin log) place then slice_get log (place - begin log - 1) else None

-- the place of a commit under a hold
abbrev pub commit_place : ℕ → ℕ × Happened → Option ℕ
commit_place hold (place, LayerCommitted by doc under layer) = if under == hold then Some place else None
commit_place hold (place, happened) = None

-- the places of the commits under a hold
abbrev pub commits_under : ℕ → List Happened → List ℕ
commits_under hold log = filter_map (commit_place hold) (numbered log)

-- ---- as entries

-- the bytes of the entries of what happened to a project at some places in turn
abbrev pub encoded_from : ProjectState → List (ℕ × Happened) → List (List ℕ)
encoded_from s [] = []
encoded_from s (placed ∷ log) = map entry_bytes (entries_of s placed.1) ++ encoded_from (effect placed.0 placed.1 s) log

-- the bytes of the entries of a history, a restored state as its pieces
abbrev pub encoded : List Happened → List (List ℕ)
encoded log = encoded_from unfounded (numbered log)
