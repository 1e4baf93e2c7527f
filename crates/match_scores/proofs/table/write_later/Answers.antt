use Rattle.std.proofs.Common.{◌+◌, arith}
use Rattle.agreement_report.specs.Report.{text_of}
use Rattle.match_scores.specs.ScoreTable.{rows_of_two}
use Rattle.match_scores.proofs.TableLemmas.{one_row}
use Rattle.match_scores.proofs.table.write_later.Goals as goal

pub loop-second-preserved : goal.loop-second-preserved
loop-second-preserved c = record {
  ready = c.in_ok-write_two.ensures.ready;
  rows =
      one_row (rows_of_two c.args.names.now c.args.scores.now c.args.first) (c.args.first + 1) c.loop-second.second (text_of c.args.writer.now) (text_of c.loop-second.writer) (text_of c.write_two.new.writer)
      c.loop-second.invariant.low c.loop-second.invariant.rows c.in_ok-write_two.ensures.written;
  low = let low = c.loop-second.invariant.low in omega (arith, low);
}
