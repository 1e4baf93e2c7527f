use Rattle.std.proofs.Common.{◌≡◌, ℕ, ◌+◌, ◌≤◌, false, drop}
use Rattle.std.specs.FinMap as finite
use Rattle.layer_model.specs.Annotations.{no_marks}
use Rattle.token_columns.specs.ReadRuns.{put_from}
use Rattle.token_columns.proofs.layer_runs.layer_of.Given as goal

abbrev pub invariant-loop-run : goal.invariant-loop-run
invariant-loop-run l = record {
  count : l.number ≡ l.run-index + 1;
  free : (q : ℕ) → l.number ≤ q → finite.contains_key l.layer.spans q ≡ false;
  put : put_from l.layer l.number (drop l.run-index l.runs) ≡ put_from no_marks 1 l.runs;
}
