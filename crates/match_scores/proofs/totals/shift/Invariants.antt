use Rattle.std.proofs.Common.{set}
use Rattle.match_scores.specs.Shifting.{Shifting}
use Rattle.match_scores.proofs.totals.shift.Given as goal

abbrev pub invariant-loop-other : goal.invariant-loop-other
invariant-loop-other l = Shifting l.raters l.rater l.initial.totals l.totals (set l.marks l.rater l.before) (set l.marks l.rater l.after) l.other
