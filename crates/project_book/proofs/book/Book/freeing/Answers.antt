use Rattle.std.proofs.Common.{◌∙◌, ap}
use Rattle.project_machine.specs.History.{after}
use Rattle.project_book.specs.Keeping.{BookValue}
use Rattle.project_book.proofs.ReplayLemmas.{freeing_kept, out_there}
use Rattle.project_book.proofs.book.Book.freeing.Goals as goal

pub returns : goal.returns
returns g c =
    freeing_kept c.args.self.now.log c.in_ok-freeing_kept.field-0 c.keeps.ensures.legal
    (out_there c.is_some_out.result c.args.self.now.log c.self.inside.state.state c.is_some_out.ensures (c.self.invariant.state_is ∙ ap (λ (b : BookValue _). after b.log) c.self.view_is) c.if-not-is_some_out.false)
    c.in_ok-freeing_kept.ensures.change c.in_ok-freeing_kept.ensures.entry c.in_ok-freeing_kept.ensures.act
