use Rattle.std.proofs.Common.{sym, ◌∙◌}
use Rattle.project_book.proofs.ReplayLemmas.{freeing_is}
use Rattle.project_book.proofs.replaying.is_freeing.Goals as goal

pub returns-clause-freeing : goal.returns-clause-freeing
returns-clause-freeing c = λ is. c.are_same.ensures.same is ∙ sym freeing_is

pub returns-clause-other : goal.returns-clause-other
returns-clause-other c = λ isnt same. c.are_same.ensures.differ isnt (same ∙ freeing_is)
