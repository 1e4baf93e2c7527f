use Rattle.demo_project.proofs.CountLemmas.{counted_all}
use Rattle.demo_project.proofs.counting.count_messages.Goals as goal

pub returns : goal.returns
returns c = counted_all _ _ _ _ c.in_ok-inbox.ensures.held c.new-link.ensures.left c.in_ok-count.ensures
