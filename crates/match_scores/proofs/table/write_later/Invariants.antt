use Rattle.std.proofs.Common.{◌+◌, ◌≤◌}
use Rattle.agreement_report.specs.Report.{IsReady, text_of}
use Rattle.match_scores.specs.ScoreTable.{rows_of_two}
use Rattle.match_scores.proofs.TableLemmas.{RowsSoFar}
use Rattle.match_scores.proofs.table.write_later.Given as goal

abbrev pub invariant-loop-second : goal.invariant-loop-second
invariant-loop-second l = record {
  ready : IsReady l.writer;
  rows : RowsSoFar (rows_of_two l.names l.scores l.first) (l.first + 1) (text_of l.fn.writer) (text_of l.writer) l.second;
  low : l.first + 1 ≤ l.second;
}
