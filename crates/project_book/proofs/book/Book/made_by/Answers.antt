use Rattle.project_state.specs.Values.{asked_of}
use Rattle.project_state.specs.Entries.Asking.{plain_asking}
use Rattle.project_book.proofs.AskLemmas.{judged_at, made_judged}
use Rattle.project_book.proofs.book.Book.made_by.Goals as goal

pub returns : goal.returns
returns g c =
    made_judged c.args.self.now.log (plain_asking c.args.asking) c.in_ok-judged.judged c.keeps.ensures.legal (c.is_typed.ensures.typed c.if-not-is_typed.false)
    (judged_at _ c.args.self.now c.self.inside.state.state c.self.inside.groups c.self.inside.tables _ _ c.args.asking.caller (asked_of c.args.asking.request) c.in_ok-judged.judged c.self.view_is c.self.invariant c.in_ok-judged.ensures)
