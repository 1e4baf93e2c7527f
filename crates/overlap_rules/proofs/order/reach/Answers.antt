use Rattle.std.proofs.Common.{◌∙◌}
use Rattle.overlap_rules.proofs.OrderLemmas.{reach_is}
use Rattle.overlap_rules.proofs.order.reach.Goals as goal

pub returns-in-Some-Some : goal.returns-in-Some-Some
returns-in-Some-Some c =
    c.saturating_sub.ensures ∙ reach_is c.args.frags.now c.in-Some-Some.first.now c.in-Some-Some.last.now c.in-Some-Some.ensures.value c.in-Some-Some.ensures'.value
