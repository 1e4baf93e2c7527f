-- Which request a change answers: what a history holds says who asked for what.
use Rattle.std.specs.Prelude.{ℕ, List, Option, Some, None, IfSome, if◌then◌else◌}
use Rattle.std.specs.Option.{option_and_then}
use Rattle.project_machine.specs.ProjectState.{ProjectState, document, is_some_out, snapshot, holder_name}
use Rattle.project_machine.specs.Requests.{Asked, AddText, Checkout, TakeOver, Commit, Park, Finish, Reopen, Ignore, Readmit, Snap, Decide, Undecide, Happened, Founded, TextAdded, CheckedOut, TakenOver, LayerCommitted, LayerParked, LayerFinished, LayerReopened, LayerIgnored, LayerReadmitted, SnapshotTaken, ItemDecided, ItemUndecided, AllFreed, Restored}
use Rattle.project_machine.specs.Machine.{step}
use Rattle.project_machine.specs.RequestValues.{IsAsked}

-- who asked for a change, and for what; nobody asks for a founding, a freeing or a restored state
abbrev pub asked_for : ProjectState → Happened → Option (List ℕ × Asked)
asked_for s (Founded conf level people) = None
asked_for s (TextAdded by name text) = Some (by, AddText name text)
asked_for s (CheckedOut by doc) = Some (by, Checkout (document s doc).name)
asked_for s (TakenOver by doc) = Some (by, TakeOver (document s doc).name)
asked_for s (LayerCommitted by doc hold layer) = Some (by, Commit (document s doc).name hold layer)
asked_for s (LayerParked by doc hold done undone) = Some (by, Park (document s doc).name hold done undone)
asked_for s (LayerFinished by doc) = Some (by, Finish (document s doc).name)
asked_for s (LayerReopened by doc who) = Some (by, Reopen (document s doc).name who)
asked_for s (LayerIgnored by doc who) = Some (by, Ignore (document s doc).name who)
asked_for s (LayerReadmitted by doc who) = Some (by, Readmit (document s doc).name who)
asked_for s (SnapshotTaken by doc) = Some (by, Snap (document s doc).name)
asked_for s (ItemDecided by number holder id verdict) = Some (by, Decide number (holder_name (snapshot s number) holder) id verdict)
asked_for s (ItemUndecided by number holder id) = Some (by, Undecide number (holder_name (snapshot s number) holder) id)
asked_for s AllFreed = None
asked_for s (Restored place state) = None

-- what a request of a caller makes happen
abbrev pub made_by : ProjectState → List ℕ × Asked → Option Happened
made_by s asking = (step s asking.0 asking.1).change

-- what happens next where a change is put to the test by its own request, and a freeing by the layers that are out; that names, texts and numbers are ones of a request is tested apart (IsOfTyped)
abbrev pub next_by : ProjectState → Happened → Option Happened
next_by s AllFreed = if is_some_out s then Some AllFreed else None
next_by s happened = option_and_then (made_by s) (asked_for s happened)

-- the request of a change, if somebody asked for it, is one that a typed request can be
abbrev pub IsOfTyped : ProjectState → Happened → Type 0
IsOfTyped s happened = IfSome (asked_for s happened) (λ asking. IsAsked asking.1)
