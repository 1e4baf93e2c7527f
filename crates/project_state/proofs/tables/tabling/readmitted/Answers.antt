use Rattle.std.proofs.Common.{◌≡◌, ◌<◌, false, ap, arith, sym, subst, ◌∙◌}
use Rattle.project_machine.specs.ProjectState.{Row, row_at}
use Rattle.project_state.specs.declared.act.Act.TheVariants as act
use Rattle.project_state.specs.Tables.Tabling.{IsTableAct, Posts}
use Rattle.project_state.proofs.TablesProofs.ActTables.{ok_more, readmit_nothing, readmit_posts, row_found, some_row}
use Rattle.project_state.proofs.tables.tabling.readmitted.Goals as goal

pub returns-then-revision-eq0 : goal.returns-then-revision-eq0
returns-then-revision-eq0 c =
    let same : c.in-Some.row.now ≡ row_at c.args.state.now.state c.args.doc c.args.rater = some_row _ _ (c.in-Some.ensures ∙ row_found c.args.state.now.state c.args.doc c.args.rater c.requires.kept c.requires.doc_in c.requires.rater_in) in
    readmit_nothing c.args.state.now.state c.args.doc c.args.rater (ap (λ (r : Row). r.revision) (sym same) ∙ (sym c.revision.ensures ∙ c.if-revision-eq0.true))

pub returns-else-revision-eq0 : goal.returns-else-revision-eq0
returns-else-revision-eq0 c =
    let same : c.in-Some.row.now ≡ row_at c.args.state.now.state c.args.doc c.args.rater = some_row _ _ (c.in-Some.ensures ∙ row_found c.args.state.now.state c.args.doc c.args.rater c.requires.kept c.requires.doc_in c.requires.rater_in) in
    let counted : c.revision.result ≡ (row_at c.args.state.now.state c.args.doc c.args.rater).revision = c.revision.ensures ∙ ap (λ (r : Row). r.revision) same in
    let some : 0 < c.revision.result = omega (arith, c.if-revision-eq0.false) in
    let layer_is : c.deref.result.now ≡ (row_at c.args.state.now.state c.args.doc c.args.rater).layer = c.deref.ensures ∙ (c.layer.ensures ∙ ap (λ (r : Row). r.layer) same) in
    ok_more (Posts c.args.state.now.state c.args.doc c.args.rater c.deref.result.now) (IsTableAct c.args.state.now.state (act.Ignore c.args.doc c.args.rater false)) c.posted.result
    (λ t posts. readmit_posts c.args.state.now.state c.args.doc c.args.rater t c.requires.doc_in c.requires.rater_in (subst (λ n. 0 < n) counted some)
    (subst (λ layer. Posts c.args.state.now.state c.args.doc c.args.rater layer t) layer_is posts))
    c.posted.ensures
