use Rattle.std.proofs.Common.{take}
use Rattle.std.specs.List.{AllByRecursion}
use Rattle.command_bytes.specs.CommandValues.{IsName}
use Rattle.command_bytes.proofs.command_values.args_are.Given as goal

abbrev pub invariant-loop-arg : goal.invariant-loop-arg
invariant-loop-arg l = AllByRecursion (λ arg. IsName arg.role) (take l.arg-index l.args)
