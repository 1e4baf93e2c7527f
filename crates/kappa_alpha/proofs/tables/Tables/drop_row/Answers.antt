use Rattle.kappa_alpha.specs.Standing.{document_at}
use Rattle.kappa_alpha.proofs.RowLaws.{drop_most}
use Rattle.kappa_alpha.proofs.tables.Tables.drop_row.Goals as goal

pub returns-clause-steps : goal.returns-clause-steps
returns-clause-steps g c =
    drop_most (document_at c.args.self.now.documents c.args.doc).rows c.args.rater c.replace.result (document_at c.args.self.now.documents c.args.doc).tokens _ _ c.replace.ensures.rater_in c.replace.ensures.before c.replace.ensures.steps
