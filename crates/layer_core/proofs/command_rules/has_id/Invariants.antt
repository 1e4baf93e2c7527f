use Rattle.std.proofs.Common.{◌≡◌, drop}
use Rattle.std.specs.List.{list_any}
use Rattle.layer_rules.specs.LayerRules.{is_id}
use Rattle.layer_core.proofs.command_rules.has_id.Given as goal

abbrev pub invariant-loop-other : goal.invariant-loop-other
invariant-loop-other l = list_any (is_id l.id) (drop l.other-index l.ids) ≡ list_any (is_id l.id) l.ids
