use Rattle.std.proofs.Common.{◌≡◌, drop}
use Rattle.layer_rules.specs.MarkRules.{first_missing}
use Rattle.layer_rules.proofs.mark_rules.missing_ids.Given as goal

abbrev pub invariant-loop-id : goal.invariant-loop-id
invariant-loop-id l = first_missing l.layer (drop l.id-index l.ids) ≡ first_missing l.layer l.ids
