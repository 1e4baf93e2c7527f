use Rattle.std.proofs.Common.{ℕ, List, refl}
use Rattle.std.specs.List.{slice_get}
use Rattle.agreement_report.specs.Report.{row, text_of}
use Rattle.project_machine.specs.ProjectState.{Row}
use Rattle.project_machine.specs.ProgressTable.{progress_fields}
use Rattle.project_reports.proofs.RowLemmas.{row_more}
use Rattle.project_reports.proofs.progress.write_document.Goals as goal

pub loop-rater-preserved : goal.loop-rater-preserved
loop-rater-preserved c =
    let of_row : List ℕ × Row → List ℕ = λ placed. row (progress_fields c.args.document.now.name placed.0 placed.1) in
    record {
      ready = c.in_ok-write_work_at.ensures.ready;
      written =
          row_more of_row c.args.names.now c.args.document.now.rows c.loop-rater.rater c.index-names-rater.result (slice_get c.args.document.now.rows c.loop-rater.rater) (text_of c.args.writer.now) (text_of c.loop-rater.writer)
          (text_of c.write_work_at.new.writer) c.loop-rater-test.true c.index-names-rater.is refl c.loop-rater.invariant.written c.in_ok-write_work_at.ensures.written;
    }
