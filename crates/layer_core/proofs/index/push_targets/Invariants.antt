use Rattle.std.proofs.Common.{◌≡◌, ◌++◌, drop, map}
use Rattle.layer_core.proofs.index.push_targets.Given as goal

abbrev pub invariant-loop-arg : goal.invariant-loop-arg
invariant-loop-arg l = l.ids.items ++ map (λ arg. arg.target) (drop l.arg-index l.args) ≡ l.initial.ids.items ++ map (λ arg. arg.target) l.args
