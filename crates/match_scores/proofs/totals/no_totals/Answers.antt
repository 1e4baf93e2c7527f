use Rattle.match_scores.proofs.MarkLemmas.{empty_cells}
use Rattle.match_scores.proofs.totals.no_totals.Goals as goal

pub returns-clause-empty : goal.returns-clause-empty
returns-clause-empty c = empty_cells c.args.raters c.loop.counter c.loop.totals.items c.loop.invariant
