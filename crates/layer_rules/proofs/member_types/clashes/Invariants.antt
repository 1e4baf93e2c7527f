use Rattle.std.proofs.Common.{◌≡◌, not, drop}
use Rattle.std.specs.List.{list_any}
use Rattle.layer_rules.specs.Targets.{type_of}
use Rattle.layer_rules.specs.LayerRules.{may_be_equal}
use Rattle.layer_rules.proofs.member_types.clashes.Given as goal

abbrev pub invariant-loop-other : goal.invariant-loop-other
invariant-loop-other l =
    list_any (λ other. not (may_be_equal l.conf l.kind.n (type_of l.layer l.id) (type_of l.layer other))) (drop l.other-index l.others)
    ≡ list_any (λ other. not (may_be_equal l.conf l.kind.n (type_of l.layer l.id) (type_of l.layer other))) l.others
