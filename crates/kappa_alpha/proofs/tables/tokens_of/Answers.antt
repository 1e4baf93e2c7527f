use Rattle.std.proofs.Common.{◌≡◌, arith, ap, sym, ◌∙◌}
use Rattle.std.proofs.lemmas.List.{get_or_default}
use Rattle.kappa_alpha.specs.Standing.{Document, document_at, no_document}
use Rattle.kappa_alpha.proofs.Totals.{tokens_none, tokens_more, tokens_more_le}
use Rattle.kappa_alpha.proofs.tables.tokens_of.Goals as goal

pub loop-document-init : goal.loop-document-init
loop-document-init c = sym tokens_none

pub overflow_add-total : goal.overflow_add-total
overflow_add-total c =
    let e : c.document.inside.tokens ≡ (document_at c.args.documents.now c.loop-document.document-index).tokens = ap (λ (d : Document). d.tokens) (c.document.view_is ∙ c.document-item.is ∙ get_or_default c.args.documents.now c.loop-document.document-index c.document-item.result no_document c.loop-document-test.true) in
    omega (arith, e, c.requires, c.loop-document.invariant, tokens_more_le c.args.documents.now c.loop-document.document-index c.loop-document-test.true)

pub loop-document-preserved : goal.loop-document-preserved
loop-document-preserved c =
    let e : c.document.inside.tokens ≡ (document_at c.args.documents.now c.loop-document.document-index).tokens = ap (λ (d : Document). d.tokens) (c.document.view_is ∙ c.document-item.is ∙ get_or_default c.args.documents.now c.loop-document.document-index c.document-item.result no_document c.loop-document-test.true) in
    omega (arith, e, c.loop-document.invariant, tokens_more c.args.documents.now c.loop-document.document-index c.loop-document-test.true)
