use Rattle.std.proofs.Common.{◌≡◌, drop, map}
use Rattle.layer_rules.specs.MarkRules.{first_missing}
use Rattle.layer_rules.proofs.mark_rules.missing_args.Given as goal

abbrev pub invariant-loop-arg : goal.invariant-loop-arg
invariant-loop-arg l = first_missing l.layer (map (λ arg. arg.target) (drop l.arg-index l.args)) ≡ first_missing l.layer (map (λ arg. arg.target) l.args)
