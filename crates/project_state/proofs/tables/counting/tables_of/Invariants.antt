use Rattle.std.proofs.Common.{◌≡◌}
use Rattle.project_state.specs.Tables.Counting.{standing_upto}
use Rattle.project_state.proofs.tables.counting.tables_of.Given as goal

abbrev pub invariant-loop-doc : goal.invariant-loop-doc
invariant-loop-doc g l = l.tables ≡ standing_upto l.state.state l.doc l.tables.spare
