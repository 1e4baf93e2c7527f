-- What an act does to one row (private calls only).
use Rattle.std.specs.Prelude.{◌-◌, ◌^◌, ◌<◌, Some, ⊤}
use Rattle.std.specs.Arc.{arc_value}
use Rattle.project_machine.specs.ProjectState.{Row}
use Rattle.project_machine.specs.History.{under_hold, with_commit, with_draft, with_finished, with_ignored}
use Rattle.project_state.specs.declared.row_act.RowAct.{RowAct}
use Rattle.project_state.specs.declared.row_act.RowAct.TheVariants as row_act

-- a row behind an act
abbrev pub row_behind : RowAct → Row → Row
row_behind (row_act.Hold place) r = under_hold (Some place) r
row_behind (row_act.Commit layer) r = with_commit (arc_value layer) r
row_behind (row_act.Park done undone) r = with_draft done undone r
row_behind (row_act.Finish finished) r = with_finished finished r
row_behind (row_act.Ignore ignored) r = with_ignored ignored r

-- a commit can be counted
abbrev pub CanActOnRow : RowAct → Row → Type 0
CanActOnRow (row_act.Commit layer) r = r.revision < 2 ^ 64 - 1
CanActOnRow done r = ⊤
