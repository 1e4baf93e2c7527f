use Rattle.std.proofs.Common.{arith}
use Rattle.match_scores.specs.Matches.{Both, FirstOnly, SecondOnly}
use Rattle.match_scores.proofs.tally.Tally.moved.Goals as goal

pub overflow_sub-result : goal.overflow_sub-result
overflow_sub-result c = omega (arith, c.requires.enough Both)

pub overflow_add-result : goal.overflow_add-result
overflow_add-result c = omega (arith, c.requires.enough Both, c.requires.room Both)

pub overflow_sub-result-2 : goal.overflow_sub-result-2
overflow_sub-result-2 c = omega (arith, c.requires.enough FirstOnly)

pub overflow_add-result-2 : goal.overflow_add-result-2
overflow_add-result-2 c = omega (arith, c.requires.enough FirstOnly, c.requires.room FirstOnly)

pub overflow_sub-result-3 : goal.overflow_sub-result-3
overflow_sub-result-3 c = omega (arith, c.requires.enough SecondOnly)

pub overflow_add-result-3 : goal.overflow_add-result-3
overflow_add-result-3 c = omega (arith, c.requires.enough SecondOnly, c.requires.room SecondOnly)
