use Rattle.std.proofs.Common.{◌∙◌, ap}
use Rattle.project_machine.specs.History.{last}
use Rattle.project_book.specs.Keeping.{BookValue}
use Rattle.project_book.proofs.BookLemmas.{stands_place}
use Rattle.project_book.proofs.book.Book.place.Goals as goal

pub returns : goal.returns
returns g c =
    c.place.ensures ∙ (stands_place c.self.inside.log c.self.inside.state.state c.self.inside.groups c.self.inside.tables _ _ c.self.invariant ∙ ap (λ (b : BookValue _). last b.log) c.self.view_is)
