use Rattle.agreement_report.specs.Report.{IsReady, row, text_of}
use Rattle.match_scores.specs.ScoreTable.{rows_of_one, scores_header}
use Rattle.match_scores.proofs.TableLemmas.{RowsSoFar}
use Rattle.match_scores.proofs.table.scores_csv.Given as goal

abbrev pub invariant-loop-first : goal.invariant-loop-first
invariant-loop-first l = record {
  ready : IsReady l.writer;
  rows : RowsSoFar (rows_of_one l.names l.scores) 0 (row scores_header) (text_of l.writer) l.first;
}
