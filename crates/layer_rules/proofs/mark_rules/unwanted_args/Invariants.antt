use Rattle.std.proofs.Common.{◌≡◌, drop, map}
use Rattle.layer_rules.specs.MarkRules.{first_unwanted, argument}
use Rattle.layer_rules.proofs.mark_rules.unwanted_args.Given as goal

abbrev pub invariant-loop-arg : goal.invariant-loop-arg
invariant-loop-arg l = first_unwanted (map (λ arg. argument l.conf l.layer arg.target) (drop l.arg-index l.args)) ≡ first_unwanted (map (λ arg. argument l.conf l.layer arg.target) l.args)
