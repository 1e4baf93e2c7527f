use Rattle.project_book.proofs.OpeningLemmas.{left_alone}
use Rattle.project_book.proofs.book.Book.free.Goals as goal

pub returns-in-Err-clause-any_moment : goal.returns-in-Err-clause-any_moment
returns-in-Err-clause-any_moment g c = left_alone g.K.Keeper.kept g.K.Keeper.doubt g.K.Keeper.moment g.K.Keeper.left_since g.met.K.Keeper.left_now c.args.self.now.keeper c.requires.certain

pub returns-in_default-clause-any_moment : goal.returns-in_default-clause-any_moment
returns-in_default-clause-any_moment g c = left_alone g.K.Keeper.kept g.K.Keeper.doubt g.K.Keeper.moment g.K.Keeper.left_since g.met.K.Keeper.left_now c.args.self.now.keeper c.requires.certain
