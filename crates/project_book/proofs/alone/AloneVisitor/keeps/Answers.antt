use Rattle.project_book.proofs.VisitLemmas.{keeps_alone}
use Rattle.project_book.proofs.alone.AloneVisitor.keeps.Goals as goal

pub returns : goal.returns
returns g c = keeps_alone c.args.self.now.book.log c.args.self.now.began (g.K.Keeper.faults c.args.self.now.book.keeper) c.args.self.now.room c.keeps.ensures.room c.args.self.now.behind c.args.self.now.begins
