use Rattle.std.proofs.Common.{◌≡◌}
use Rattle.layer_rules.specs.LowestFlaw.{lower_flaw, lowest_of}
use Rattle.layer_rules.proofs.lowest_flaw.lowest.Given as goal

abbrev pub invariant-loop-number : goal.invariant-loop-number
invariant-loop-number g l =
    lower_flaw l.lowest (lowest_of l.kind (g.J.Judge.told l.judge) l.number-iterator) ≡ lowest_of l.kind (g.J.Judge.told l.judge) l.map.entries
