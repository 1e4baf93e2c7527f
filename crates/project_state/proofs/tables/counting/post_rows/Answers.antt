use Rattle.std.proofs.Common.{◌≡◌, ◌<◌, length, get_or, ap, arith, sym, ◌∙◌}
use Rattle.kappa_alpha.specs.Standing.{Standing}
use Rattle.project_machine.specs.ProjectState.{blank_row}
use Rattle.project_machine.specs.Tables.{labels_in}
use Rattle.project_state.specs.Tables.Counting.{labelled_upto, posted_as}
use Rattle.project_state.proofs.TablesProofs.ActTables.{got_at, some_row}
use Rattle.project_state.proofs.TablesProofs.CountingLemmas.{document_all, row_more, with_document}
use Rattle.project_state.proofs.tables.counting.post_rows.Goals as goal

pub loop-rater-preserved : goal.loop-rater-preserved
loop-rater-preserved g c =
    let s = c.args.state.now.state in
    let d = c.args.document.now in
    let k = c.loop-rater.rater in
    let here : k < length d.rows = omega (arith, c.loop-rater-test.true, c.raters-rater-end.ensures, c.requires.rows) in
    let row_is : get_or d.rows k blank_row ≡ c.in-Some.row.now = sym (some_row _ _ (c.in-Some.ensures ∙ got_at d.rows k blank_row here)) in
    let text_is : c.deref.result.now ≡ d.text = c.deref.ensures ∙ c.text.ensures in
    c.in_ok-post_row-in-Some.ensures
    ∙ (ap (λ (t : Standing). posted_as t c.args.doc k (labels_in s c.deref.result.now c.in-Some.row.now)) c.loop-rater.invariant
    ∙ (ap (λ text. posted_as (with_document c.args.tables.now c.args.doc (labelled_upto s k d)) c.args.doc k (labels_in s text c.in-Some.row.now)) text_is
    ∙ row_more s c.args.tables.now c.args.doc k d c.in-Some.row.now c.requires.doc_in here row_is))

pub returns : goal.returns
returns g c =
    let s = c.args.state.now.state in
    let d = c.args.document.now in
    c.loop-rater.invariant
    ∙ ap (λ one. with_document c.args.tables.now c.args.doc one) (document_all s d c.loop-rater.rater (omega (arith, c.loop-rater-test.false, c.loop-rater.auto.rater-end, c.raters-rater-end.ensures, c.requires.rows)))
