-- Which request an entry tells.
use Rattle.std.specs.Prelude.{◌≡◌, ◌<◌, ℕ, Bool, true, false, List, [], chars, length, Option, Some, None, IfSome, MatchOption, option_map, if◌then◌else◌}
use Rattle.mark_base.specs.declared.ann_id.AnnId.{AnnId}
use Rattle.entry_bytes.specs.declared.entry.Entry.{Entry}
use Rattle.curator_decisions.specs.declared.verdict.Verdict.{Verdict}
use Rattle.curator_decisions.specs.declared.verdict.Verdict.TheVariants.{Accept, Reject}
use Rattle.project_machine.specs.AskedFor.{asked_for, next_by, IsOfTyped}
use Rattle.project_machine.specs.Entries.{entry_of}
use Rattle.project_machine.specs.ProjectState.{ProjectState}
use Rattle.project_machine.specs.Requests.{Asked, Happened}
use Rattle.project_state.specs.Values.{asked_of}
use Rattle.project_state.specs.declared.entries.asking.Asking.{Asking}

-- who asks, and for what
abbrev pub plain_asking : Asking → List ℕ × Asked
plain_asking asking = (asking.caller, asked_of asking.request)

-- a change that can be the next of a project: the request that it tells is of typed values and makes it, or it frees layers that are out
pub record CanBeNext (s : ProjectState) (happened : Happened) : Type 0 where
  pub typed : IsOfTyped s happened
  pub made : next_by s happened ≡ Some happened

-- what an entry tells of a project: who asked for what, of each change of this entry that can be the next
abbrev pub TellsRequest : ProjectState → Entry → Option Asking → Type 0
TellsRequest s e told = (happened : Happened) → CanBeNext s happened → entry_of s happened ≡ e → asked_for s happened ≡ option_map plain_asking told

-- accepted or rejected
abbrev pub verdict_of : Bool → Verdict
verdict_of accept = if accept then Accept else Reject
