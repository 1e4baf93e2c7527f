use Rattle.std.proofs.Common.{◌≡◌, ◌+◌, ◌≤◌, ap, ◌∙◌, Some, None, set, length}
use Rattle.std.proofs.lemmas.List.{get_or-set_same}
use Rattle.kappa_alpha.specs.Standing.{Document, Standing, document_at, no_document, with_row}
use Rattle.kappa_alpha.specs.Steps.{standing, row_steps, raters_on}
use Rattle.kappa_alpha.proofs.RowLaws.{post_again, post_first}
use Rattle.kappa_alpha.proofs.tables.Tables.post.Goals as goal

pub returns-clause-again : goal.returns-clause-again
returns-clause-again g c =
    let after : raters_on c.replace.new.self c.args.doc ≡ standing (set (document_at c.args.self.now.documents c.args.doc).rows c.args.rater (Some c.args.row)) =
    ap (λ (s : Standing). standing (document_at s.documents c.args.doc).rows) c.replace.ensures.posted
    ∙ ap (λ (d : Document). standing d.rows) (get_or-set_same c.args.self.now.documents c.args.doc (with_row (document_at c.args.self.now.documents c.args.doc) c.args.rater (Some c.args.row)) no_document c.requires.doc_in) in
    let steps : c.replace.new.steps ≤ c.args.steps.now + row_steps (standing (set (document_at c.args.self.now.documents c.args.doc).rows c.args.rater None)) c.replace.result (Some c.args.row) (length c.args.row) = rw c.requires.long c.replace.ensures.steps in
    post_again (document_at c.args.self.now.documents c.args.doc).rows c.args.rater c.replace.result c.args.row (length c.args.row) _ _ _ c.replace.ensures.rater_in after steps

pub returns-clause-first : goal.returns-clause-first
returns-clause-first g c =
    let after : raters_on c.replace.new.self c.args.doc ≡ standing (set (document_at c.args.self.now.documents c.args.doc).rows c.args.rater (Some c.args.row)) =
    ap (λ (s : Standing). standing (document_at s.documents c.args.doc).rows) c.replace.ensures.posted
    ∙ ap (λ (d : Document). standing d.rows) (get_or-set_same c.args.self.now.documents c.args.doc (with_row (document_at c.args.self.now.documents c.args.doc) c.args.rater (Some c.args.row)) no_document c.requires.doc_in) in
    let steps : c.replace.new.steps ≤ c.args.steps.now + row_steps (standing (set (document_at c.args.self.now.documents c.args.doc).rows c.args.rater None)) c.replace.result (Some c.args.row) (length c.args.row) = rw c.requires.long c.replace.ensures.steps in
    post_first (document_at c.args.self.now.documents c.args.doc).rows c.args.rater c.replace.result c.args.row (length c.args.row) _ _ _ c.replace.ensures.rater_in after steps
