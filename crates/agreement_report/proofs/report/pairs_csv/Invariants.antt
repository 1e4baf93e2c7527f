use Rattle.std.proofs.Common.{◌≡◌, take}
use Rattle.agreement_report.specs.Report.{IsReady, pairs_table, text_of}
use Rattle.agreement_report.proofs.report.pairs_csv.Given as goal

abbrev pub invariant-loop-line : goal.invariant-loop-line
invariant-loop-line l = record {
  ready : IsReady l.writer;
  written : text_of l.writer ≡ pairs_table l.names (take l.line-index l.lines);
}
