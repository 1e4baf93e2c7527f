use Rattle.std.proofs.Common.{◌≡◌}
use Rattle.layer_rules.specs.LowestFlaw.{first_among}
use Rattle.layer_rules.proofs.text_flaw.first.Given as goal

abbrev pub invariant-loop-number : goal.invariant-loop-number
invariant-loop-number g l =
    first_among l.kind (λ _ found. g.J.Judge.told l.judge found) l.number-iterator ≡ first_among l.kind (λ _ found. g.J.Judge.told l.judge found) l.map.entries
