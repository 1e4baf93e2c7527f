use Rattle.std.proofs.Common.{◌≡◌, replicate}
use Rattle.match_scores.specs.Tallies.{no_tallies}
use Rattle.match_scores.proofs.totals.no_totals.Given as goal

abbrev pub invariant-loop : goal.invariant-loop
invariant-loop l = l.totals.items ≡ replicate l.counter no_tallies
