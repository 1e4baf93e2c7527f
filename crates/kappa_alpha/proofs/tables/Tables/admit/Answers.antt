use Rattle.std.proofs.Common.{◌≡◌, ◌≤◌, ◌+◌, arith, ap, ◌∙◌, replicate, None}
use Rattle.kappa_alpha.specs.Standing.{Document, Standing, tokens_in}
use Rattle.kappa_alpha.proofs.Totals.{tables_admitted, pool_blank, pool_taken}
use Rattle.kappa_alpha.proofs.tables.Tables.admit.Goals as goal

pub invariant_of-self : goal.invariant_of-self
invariant_of-self c =
    let blank : c.in-Some.document.rows ≡ replicate c.self.inside.raters None = pool_blank _ _ _ _ _ c.in-Some.document c.self.invariant.pool c.in-Some.ensures.items in
    let rows : c.document.inside.rows.items ≡ replicate c.self.inside.raters None = ap (λ (d : Document). d.rows) c.document.view_is ∙ blank in
    let short : tokens_in c.self.inside.documents.items + c.args.tokens ≤ 8390656 = omega (arith, c.requires.short, ap (λ (s : Standing). tokens_in s.documents) c.self.view_is) in
    record {
      tables = rw c.in-Ok.ensures.items (tables_admitted _ _ _ _ _ c.self.invariant.tables short rows);
      pool = pool_taken _ _ _ _ _ _ _ c.in-Some.document c.self.invariant.pool c.in-Some.ensures.items c.push.ensures.upper_bound c.push.ensures.capacity;
    }
