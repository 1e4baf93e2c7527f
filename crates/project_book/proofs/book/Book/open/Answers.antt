use Rattle.std.proofs.Common.{◌∙◌, ap}
use Rattle.project_machine.specs.Opening.{with_freeing}
use Rattle.project_book.proofs.OpeningLemmas.{left_alone, only_opened}
use Rattle.project_book.proofs.book.Book.open.Goals as goal

pub returns-in-Err-clause-any_moment : goal.returns-in-Err-clause-any_moment
returns-in-Err-clause-any_moment g c = left_alone g.K.Keeper.kept g.K.Keeper.doubt g.K.Keeper.moment g.K.Keeper.left_since g.met.K.Keeper.left_now c.args.keeper c.requires.certain

pub returns-in-Ok-free-clause-only : goal.returns-in-Ok-free-clause-only
returns-in-Ok-free-clause-only g c = only_opened c.args.entries.now c.in-Ok.book.log c.free.new.self.log c.in-Ok.ensures.told (c.in-Ok-free.ensures.freed ∙ ap with_freeing c.over-book.ensures.log)
