use Rattle.std.proofs.Common.{◌≡◌, ◌++◌, drop, option_map}
use Rattle.layer_core.specs.CommandRules.{args_named}
use Rattle.layer_core.proofs.command_names.args_named.Given as goal

abbrev pub invariant-loop-arg : goal.invariant-loop-arg
invariant-loop-arg l = args_named l.conf l.kind l.args ≡ option_map (λ rest. l.placed.items ++ rest) (args_named l.conf l.kind (drop l.arg-index l.args))
