use Rattle.std.proofs.Common.{◌≡◌, length}
use Rattle.token_columns.specs.WriteRuns.{still}
use Rattle.token_columns.proofs.columns.still.Given as goal

abbrev pub invariant-loop-first : goal.invariant-loop-first
invariant-loop-first l = still l.character l.left ≡ still l.character l.runs

abbrev pub decreases-loop-first : goal.decreases-loop-first
decreases-loop-first l = length l.left
