use Rattle.std.proofs.Common.{◌≡◌, drop}
use Rattle.std.specs.List.{list_any}
use Rattle.layer_rules.specs.LayerRules.{is_arg}
use Rattle.layer_core.proofs.command_rules.has_arg.Given as goal

abbrev pub invariant-loop-arg : goal.invariant-loop-arg
invariant-loop-arg l = list_any (is_arg l.wanted) (drop l.arg-index l.args) ≡ list_any (is_arg l.wanted) l.args
