-- What a change does to a project as it is kept: an act has with it all that it puts there.
use Rattle.std.specs.Prelude.{◌≡◌, ℕ, ◌+◌, ◌-◌, ◌^◌, ◌<◌, ◌∷◌, ◌++◌, [], Some, false, length, map, replicate, set, ⊤}
use Rattle.std.specs.Arc.{arc_value}
use Rattle.project_machine.specs.Machine.{is_full}
use Rattle.project_machine.specs.ProjectState.{Row, ProjectState, annotators, blank_row, document, is_there, row_at, with_row}
use Rattle.project_machine.specs.History.{under_hold, with_commit, with_draft, with_finished, with_ignored, freed, on_snapshot}
use Rattle.project_state.specs.declared.act.Act.{Act}
use Rattle.project_state.specs.declared.act.Act.TheVariants as act
use Rattle.project_state.specs.Stored.{Stored, numbered_as}

-- a project whose row of an annotator, by place among the annotators, is changed
abbrev pub on_rater : ProjectState → ℕ → ℕ → (Row → Row) → ProjectState
on_rater s doc rater changed = record s { documents = set s.documents doc (with_row rater (changed (row_at s doc rater)) (document s doc)) }

-- a project behind an act, but for the place
abbrev pub done_by : Act → ProjectState → ProjectState
done_by (act.AddDocument added) s = record s { documents = s.documents ++ added ∷ [] }
done_by (act.Hold doc rater) s = on_rater s doc rater (under_hold (Some (s.place + 1)))
done_by (act.Commit doc rater layer) s = on_rater s doc rater (with_commit (arc_value layer))
done_by (act.Park doc rater done undone) s = on_rater s doc rater (with_draft done undone)
done_by (act.Finish doc rater finished) s = on_rater s doc rater (with_finished finished)
done_by (act.Ignore doc rater ignored) s = on_rater s doc rater (with_ignored ignored)
done_by (act.Snap taken) s = record s { snapshots = s.snapshots ++ taken ∷ [] }
done_by (act.Decide number decisions) s = on_snapshot s number (λ shot. record shot { verdicts = decisions })
done_by act.FreeAll s = record s { documents = map freed s.documents }

-- a project behind an act, at the next place
abbrev pub performed : Act → ProjectState → ProjectState
performed done s = record (done_by done s) { place = s.place + 1 }

-- an act can be done to a project: a document that is added has a name of its own and room, and a commit can be counted
abbrev pub CanAct : Act → ProjectState → Type 0
CanAct (act.AddDocument added) s = (is_there s added.name ≡ false) × (is_full s added.text ≡ false)
CanAct (act.Commit doc rater layer) s = (row_at s doc rater).revision < 2 ^ 64 - 1
CanAct done s = ⊤

-- a project as it is kept has all the memory that an act takes
abbrev pub HasMemory : Act → Stored → Type 0
HasMemory (act.AddDocument added) kept = (0 < kept.spare) × (numbered_as kept.numbers added.name ≡ Some (length kept.state.documents))
HasMemory (act.Snap taken) kept = 0 < kept.room
HasMemory done kept = ⊤

-- an act fits the rows of a project: a document that is added has a blank row for each annotator, and the row is there whose labels change
abbrev pub FitsRows : Act → ProjectState → Type 0
FitsRows (act.AddDocument added) s = added.rows ≡ replicate (length (annotators s)) blank_row
FitsRows (act.Commit doc rater layer) s = (doc < length s.documents) × (rater < length (annotators s))
FitsRows (act.Ignore doc rater ignored) s = (doc < length s.documents) × (rater < length (annotators s))
FitsRows done s = ⊤
