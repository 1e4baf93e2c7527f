use Rattle.std.proofs.Common.{◌≡◌, ℕ, List, [], ◌++◌, refl, ◌∙◌, ap, subst}
use Rattle.std.specs.Prelude.{IfOk}
use Rattle.std.specs.List.{flat_map}
use Rattle.agreement_report.specs.Report.{row, text_of}
use Rattle.project_machine.specs.ProjectState.{Document, rater_of}
use Rattle.project_machine.specs.ProgressTable.{own_progress, own_row, progress_header}
use Rattle.project_reports.proofs.progress.own_progress_csv.Goals as goal

pub returns : goal.returns
returns c =
    let s = c.args.state.now.state in
    let head : List ℕ = row progress_header in
    let rows : ℕ → List Document → List ℕ = λ rater documents. flat_map (own_row rater c.args.who.now) documents in
    let start : text_of c.from_writer-writer.result ≡ [] = rw (c.from_writer-writer.ensures.wtr, c.from_writer-writer.ensures.empty, c.new.ensures.items) refl in
    let headed : text_of c.write_header.new.writer ≡ head = c.in_ok-write_header.ensures.written ∙ ap (λ t. t ++ head) start in
    let whole : text_of c.write_own_rows.new.writer ≡ own_progress s c.args.who.now =
    c.in_ok-write_own_rows.ensures.written
    ∙ (ap (λ t. t ++ rows c.rater_of.result c.document_list.result.now) headed
    ∙ (ap (λ rater. head ++ rows rater c.document_list.result.now) c.rater_of.ensures
    ∙ ap (λ ds. head ++ rows (rater_of s c.args.who.now) ds) c.document_list.ensures)) in
    subst (λ (t : List ℕ). IfOk c.finish.result (λ bytes. bytes ≡ t)) whole c.finish.ensures
