use Rattle.std.proofs.Common.{arith}
use Rattle.agreement_report.specs.Report.{row, text_of}
use Rattle.match_scores.specs.ScoreTable.{rows_of_one, scores_header}
use Rattle.match_scores.proofs.TableLemmas.{one_row}
use Rattle.match_scores.proofs.table.scores_csv.Goals as goal

pub loop-first-preserved : goal.loop-first-preserved
loop-first-preserved c = record {
  ready = c.in_ok-write_later.ensures.ready;
  rows =
      one_row (rows_of_one c.args.names.now c.args.scores.now) 0 c.loop-first.first (row scores_header) (text_of c.loop-first.writer) (text_of c.write_later.new.writer)
      (omega arith) c.loop-first.invariant.rows c.in_ok-write_later.ensures.written;
}
