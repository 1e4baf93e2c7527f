use Rattle.std.proofs.Common.{◌≡◌, ◌+◌, ◌∙◌, ap, arith, sym, take}
use Rattle.kappa_alpha.specs.Standing.{document_at, tokens_in}
use Rattle.demo_project.proofs.SummaryLemmas.{tokens_more, tokens_none}
use Rattle.demo_project.proofs.summary.tokens_in.Goals as goal

pub loop-doc-init : goal.loop-doc-init
loop-doc-init c = record { within = omega arith; sum = sym (tokens_none c.args.tables.now.documents); small = omega arith }

pub loop-doc-preserved : goal.loop-doc-preserved
loop-doc-preserved c =
    let docs = c.args.tables.now.documents in
    let some = c.in-Some.ensures.some in
    record {
      within = omega (arith, some.0);
      sum =
          ap (λ n. n + c.from-tokens.result) c.loop-doc.invariant.sum
          ∙ ap (λ n. tokens_in (take c.loop-doc.doc docs) + n) (c.from-tokens.ensures ∙ some.1)
          ∙ sym (tokens_more docs c.loop-doc.doc some.0);
      small = omega (arith, c.loop-doc.invariant.small);
    }
