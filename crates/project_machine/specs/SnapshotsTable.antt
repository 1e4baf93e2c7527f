-- How far curation is: the snapshots of a project as CSV (RFC 4180), one row each.
use Rattle.std.specs.Prelude.{ℕ, ◌&&◌, Bool, true, false, not, List, [], ◌∷◌, ◌++◌, length, codes, count_by, decimal, is_none}
use Rattle.std.specs.List.{enumerate_from, flat_map}
use Rattle.unanimous_merge.specs.Items.{Held, leaders, name_of}
use Rattle.unanimous_merge.specs.Readings.{Reading, readings}
use Rattle.unanimous_merge.specs.Unanimous.{in_each}
use Rattle.curator_decisions.specs.declared.verdict.Verdict.{Verdict}
use Rattle.curator_decisions.specs.declared.verdict.Verdict.TheVariants.{Accept, Reject}
use Rattle.curator_decisions.specs.Decisions.{Decided, verdict_on}
use Rattle.agreement_report.specs.Report.{row}
use Rattle.project_machine.specs.ProjectState.{Snapshot, ProjectState, document}

-- an item is unanimous: each layer has it, whatever was decided
abbrev pub is_unanimous : List Reading → Held → Bool
is_unanimous layers item = in_each layers item.content

-- an item is undecided: it is not unanimous, and there is no verdict on it
abbrev pub is_undecided : List Reading → Decided → Held → Bool
is_undecided layers decided item = not (is_unanimous layers item) && is_none (verdict_on (name_of item) decided)

-- a verdict accepts its item, or else it rejects it
abbrev pub accepts : Verdict → Bool
accepts Accept = true
accepts Reject = false

-- how many verdicts accept
abbrev pub accepted_in : Decided → ℕ
accepted_in decided = count_by (λ one. accepts one.1) decided

-- how many verdicts reject
abbrev pub rejected_in : Decided → ℕ
rejected_in decided = count_by (λ one. not (accepts one.1)) decided

-- the fields of what layers have and what was decided on it: how many items there are, unanimous ones, verdicts of either kind, and undecided items
abbrev pub decided_fields : List Reading → Decided → List (List ℕ)
decided_fields layers decided =
    decimal (length (leaders layers))
    ∷ decimal (count_by (is_unanimous layers) (leaders layers))
    ∷ decimal (accepted_in decided)
    ∷ decimal (rejected_in decided)
    ∷ decimal (count_by (is_undecided layers decided) (leaders layers))
    ∷ []

-- the fields of the snapshot of a number: the number, the name of its document, how many layers it holds, and what these have and was decided
abbrev pub snapshot_fields : ProjectState → (number : ℕ) → Snapshot → List (List ℕ)
snapshot_fields s number shot =
    decimal number ∷ (document s shot.doc).name ∷ decimal (length shot.holders) ∷ decided_fields (readings shot.holders) shot.verdicts

-- the names of these fields
abbrev pub snapshots_header : List (List ℕ)
snapshots_header =
    codes "snapshot" ∷ codes "document" ∷ codes "holders" ∷ codes "items" ∷ codes "unanimous" ∷ codes "accepted" ∷ codes "rejected" ∷ codes "undecided" ∷ []

-- the table: the snapshots as they were taken, numbered from 1
abbrev pub snapshots_table : ProjectState → List ℕ
snapshots_table s = row snapshots_header ++ flat_map (λ placed. row (snapshot_fields s placed.0 placed.1)) (enumerate_from 1 s.snapshots)
