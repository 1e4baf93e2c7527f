use Rattle.std.proofs.Common.{◌≡◌, drop}
use Rattle.std.specs.List.{find}
use Rattle.layer_rules.specs.MarkRules.{is_refused_argument}
use Rattle.layer_rules.proofs.mark_rules.refused_in.Given as goal

abbrev pub invariant-loop-arg : goal.invariant-loop-arg
invariant-loop-arg l = find (is_refused_argument l.conf l.layer l.kind) (drop l.arg-index l.args) ≡ find (is_refused_argument l.conf l.layer l.kind) l.args
