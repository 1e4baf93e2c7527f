use Rattle.std.proofs.Common.{◌≡◌, ap, sym, subst, ◌∙◌}
use Rattle.project_machine.specs.ProjectState.{Row, row_at}
use Rattle.project_state.specs.declared.act.Act.TheVariants as act
use Rattle.project_state.specs.Tables.Tabling.{IsTableAct, Posts}
use Rattle.project_state.proofs.TablesProofs.ActTables.{commit_ignored, commit_posts, ok_more, row_found, some_row}
use Rattle.project_state.proofs.tables.tabling.committed.Goals as goal

pub returns-then-is_ignored : goal.returns-then-is_ignored
returns-then-is_ignored c =
    let same : c.in-Some.row.now ≡ row_at c.args.state.now.state c.args.doc c.args.rater = some_row _ _ (c.in-Some.ensures ∙ row_found c.args.state.now.state c.args.doc c.args.rater c.requires.kept c.requires.doc_in c.requires.rater_in) in
    commit_ignored c.args.state.now.state c.args.doc c.args.rater c.args.layer.now (ap (λ (r : Row). r.ignored) (sym same) ∙ sym c.if-is_ignored.ensures)

pub returns-else-is_ignored : goal.returns-else-is_ignored
returns-else-is_ignored c =
    let same : c.in-Some.row.now ≡ row_at c.args.state.now.state c.args.doc c.args.rater = some_row _ _ (c.in-Some.ensures ∙ row_found c.args.state.now.state c.args.doc c.args.rater c.requires.kept c.requires.doc_in c.requires.rater_in) in
    ok_more (Posts c.args.state.now.state c.args.doc c.args.rater c.deref.result.now) (IsTableAct c.args.state.now.state (act.Commit c.args.doc c.args.rater c.args.layer.now)) c.posted.result
    (λ t posts. commit_posts c.args.state.now.state c.args.doc c.args.rater c.args.layer.now t c.requires.doc_in c.requires.rater_in (ap (λ (r : Row). r.ignored) (sym same) ∙ sym c.if-is_ignored.ensures)
    (subst (λ layer. Posts c.args.state.now.state c.args.doc c.args.rater layer t) c.deref.ensures posts))
    c.posted.ensures
