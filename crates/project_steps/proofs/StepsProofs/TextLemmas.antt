-- On which snapshot a request asks for a decision.
use Rattle.std.proofs.Common.{◌≡◌, ℕ, Option, refl, ap, ◌∙◌}
use Rattle.project_machine.specs.ProjectState.{ProjectState}
use Rattle.project_machine.specs.Requests.{Asked, ReadConf, ListDocs, ReadText, AddText, Checkout, TakeOver, Commit, Park, Finish, ReadLayer, Reopen, Ignore, Readmit, Snap, TakeSnapshot, Decide, Undecide, ReadPairs, ReadAlpha, ReadReport}
use Rattle.project_machine.specs.Machine.{decided_snapshot}
use Rattle.project_steps.specs.Steps.Judging.{decided_number, snapshot_decided}

by_number : (s : ProjectState) (asked : Asked) → decided_snapshot s asked ≡ snapshot_decided s (decided_number asked)
by_number s ReadConf = refl
by_number s ListDocs = refl
by_number s (ReadText name) = refl
by_number s (AddText name text) = refl
by_number s (Checkout name) = refl
by_number s (TakeOver name) = refl
by_number s (Commit name hold layer) = refl
by_number s (Park name hold done undone) = refl
by_number s (Finish name) = refl
by_number s (ReadLayer name who) = refl
by_number s (Reopen name who) = refl
by_number s (Ignore name who) = refl
by_number s (Readmit name who) = refl
by_number s (Snap name) = refl
by_number s (TakeSnapshot number) = refl
by_number s (Decide number holder id verdict) = refl
by_number s (Undecide number holder id) = refl
by_number s ReadPairs = refl
by_number s ReadAlpha = refl
by_number s (ReadReport report) = refl

pub decided_there : (s : ProjectState) (asked : Asked) (decided : Option ℕ) → decided_number asked ≡ decided → decided_snapshot s asked ≡ snapshot_decided s decided
decided_there s asked decided e = by_number s asked ∙ ap (snapshot_decided s) e
