use Rattle.std.proofs.Common.{rules}
use Rattle.mark_base.proofs.FailListLemmas.{faultless_no}
use Rattle.mark_base.proofs.fail_list.FailList.fails.Goals as goal

pub returns-then-contains-clause-still : goal.returns-then-contains-clause-still
returns-then-contains-clause-still c = rw (← c.self.view_is) (λ s. absurd (faultless_no _ s (search rules)))

pub returns-then-contains-clause-stays : goal.returns-then-contains-clause-stays
returns-then-contains-clause-stays c = rw (← c.self.view_is) (λ s. absurd (faultless_no _ s (search rules)))
