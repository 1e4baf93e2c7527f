use Rattle.std.proofs.Common.{◌≡◌, ℕ, List, [], ◌++◌, filter, map, not, refl, ◌∙◌, ap, subst}
use Rattle.std.specs.Prelude.{IfOk}
use Rattle.std.specs.List.{flat_map}
use Rattle.entry_bytes.specs.declared.person.Person.{Person}
use Rattle.agreement_report.specs.Report.{row, text_of}
use Rattle.project_machine.specs.ProjectState.{Document, annotators}
use Rattle.project_machine.specs.ProgressTable.{progress_header, progress_rows, progress_table}
use Rattle.project_reports.proofs.progress.progress_csv.Goals as goal

pub returns : goal.returns
returns c =
    let s = c.args.state.now.state in
    let head : List ℕ = row progress_header in
    let rows : List (List ℕ) → List Document → List ℕ = λ names documents. flat_map (progress_rows names) documents in
    let start : text_of c.from_writer-writer.result ≡ [] = rw (c.from_writer-writer.ensures.wtr, c.from_writer-writer.ensures.empty, c.new.ensures.items) refl in
    let headed : text_of c.write_header.new.writer ≡ head = c.in_ok-write_header.ensures.written ∙ ap (λ t. t ++ head) start in
    let names : c.deref.result.now ≡ annotators s =
    c.deref.ensures.value ∙ (c.in_ok-names.ensures ∙ ap (λ (people : List Person). map (λ (person : Person). person.name) (filter (λ (person : Person). not person.curator) people)) (c.people.ensures ∙ c.roster.ensures)) in
    let whole : text_of c.write_documents.new.writer ≡ progress_table s =
    c.in_ok-write_documents.ensures.written
    ∙ (ap (λ t. t ++ rows c.deref.result.now c.document_list.result.now) headed
    ∙ (ap (λ ns. head ++ rows ns c.document_list.result.now) names
    ∙ ap (λ ds. head ++ rows (annotators s) ds) c.document_list.ensures)) in
    subst (λ (t : List ℕ). IfOk c.finish.result (λ bytes. bytes ≡ t)) whole c.finish.ensures
