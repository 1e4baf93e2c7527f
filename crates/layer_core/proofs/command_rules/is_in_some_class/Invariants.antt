use Rattle.std.proofs.Common.{◌≡◌, drop}
use Rattle.std.specs.List.{list_any}
use Rattle.layer_core.specs.CommandRules.{is_in_class}
use Rattle.layer_core.proofs.command_rules.is_in_some_class.Given as goal

abbrev pub invariant-loop-class : goal.invariant-loop-class
invariant-loop-class l =
    list_any (is_in_class l.kind.n l.id) (drop l.class-index l.classes) ≡ list_any (is_in_class l.kind.n l.id) l.classes
