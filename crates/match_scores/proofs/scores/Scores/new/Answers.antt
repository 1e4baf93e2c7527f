use Rattle.match_scores.proofs.TotalLemmas.{totals_none}
use Rattle.match_scores.proofs.scores.Scores.new.Goals as goal

pub invariant_of-result : goal.invariant_of-result
invariant_of-result c = rw c.new.ensures.items (totals_none c.args.raters c.in_ok-totals.totals.items c.requires c.in_ok-totals.ensures.square c.in_ok-totals.ensures.empty)
