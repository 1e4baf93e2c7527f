use Rattle.std.proofs.Common.{◌≡◌, drop}
use Rattle.std.specs.List.{list_any}
use Rattle.layer_core.specs.CommandRules.{role_undeclared}
use Rattle.layer_core.proofs.command_names.some_role_undeclared.Given as goal

abbrev pub invariant-loop-arg : goal.invariant-loop-arg
invariant-loop-arg l =
    list_any (role_undeclared l.conf l.kind) (drop l.arg-index l.args) ≡ list_any (role_undeclared l.conf l.kind) l.args
