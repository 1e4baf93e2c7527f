use Rattle.std.proofs.Common.{length, ◌∙◌, ap}
use Rattle.project_book.specs.Keeping.{BookValue}
use Rattle.project_book.proofs.book.Book.changes.Goals as goal

pub returns : goal.returns
returns g c = c.count.ensures ∙ ap (λ (b : BookValue _). length b.log) c.self.view_is
