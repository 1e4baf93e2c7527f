use Rattle.std.proofs.Common.{◌≡◌, ◌++◌, take}
use Rattle.std.specs.List.{flat_map}
use Rattle.agreement_report.specs.Report.{IsReady, text_of}
use Rattle.project_machine.specs.ProgressTable.{own_row}
use Rattle.project_reports.proofs.progress.write_own_rows.Given as goal

abbrev pub invariant-loop-document : goal.invariant-loop-document
invariant-loop-document l = record {
  ready : IsReady l.writer;
  written : text_of l.writer ≡ text_of l.initial.writer ++ flat_map (own_row l.rater l.who) (take l.document-index l.documents);
}
