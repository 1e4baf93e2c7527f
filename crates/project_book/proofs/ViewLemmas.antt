-- The verdicts of a snapshot that is read.
use Rattle.std.proofs.Common.{◌≡◌, ℕ, ◌-◌, ◌<◌, ◌≤◌, List, length, subst, arith}
use Rattle.project_machine.specs.ProjectState.{ProjectState, no_snapshot, snapshot}
use Rattle.project_machine.specs.Requests.{Taken, TakeSnapshot, View}
use Rattle.project_machine.specs.Machine.{step, view_of}
use Rattle.project_machine.specs.Legal.{AreAccepted, IsViewAccepted}
use Rattle.project_machine.proofs.ViewLemmas.{read_snapshot}

pub read_accepted : (s : ProjectState) (caller : List ℕ) (number : ℕ) (view : View) → AreAccepted s → (step s caller (TakeSnapshot number)).answer ≡ Taken view → IsViewAccepted view
read_accepted s caller number view accepted e =
    let there : (0 < number) × (number ≤ length s.snapshots) × (view_of s (snapshot s number) ≡ view) = read_snapshot s caller number view e in
    let some : 0 < number = there.0 in
    let most : number ≤ length s.snapshots = there.1 in
    subst IsViewAccepted there.2 (accepted (number - 1) no_snapshot (omega arith))
