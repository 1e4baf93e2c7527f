use Rattle.std.proofs.Common.{◌≡◌, ◌++◌, drop, filter}
use Rattle.layer_rules.specs.LayerRules.{is_id}
use Rattle.layer_core.proofs.cascade.only.Given as goal

abbrev pub invariant-loop-id : goal.invariant-loop-id
invariant-loop-id l = l.found.items ++ filter (is_id l.gone) (drop l.id-index l.ids) ≡ filter (is_id l.gone) l.ids
