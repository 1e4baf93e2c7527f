use Rattle.std.proofs.Common.{◌≡◌, ◌++◌, take}
use Rattle.std.specs.List.{flat_map, zip}
use Rattle.agreement_report.specs.Report.{IsReady, row, text_of}
use Rattle.project_machine.specs.ProgressTable.{progress_fields}
use Rattle.project_reports.proofs.progress.write_document.Given as goal

abbrev pub invariant-loop-rater : goal.invariant-loop-rater
invariant-loop-rater l = record {
  ready : IsReady l.writer;
  written : text_of l.writer ≡ text_of l.initial.writer ++ flat_map (λ placed. row (progress_fields l.document.name placed.0 placed.1)) (zip (take l.rater l.names) l.document.rows);
}
