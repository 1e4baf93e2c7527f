use Rattle.std.proofs.Common.{◌≡◌, ◌≤◌, ◌++◌, length, map, take, drop, Some}
use Rattle.layer_rules.specs.Targets.{type_of}
use Rattle.layer_rules.specs.LayerRules.{may_be_equal}
use Rattle.layer_rules.specs.MemberTypes.{has_unfit}
use Rattle.layer_rules.proofs.member_types.have_unfit_types.Given as goal

abbrev pub invariant-loop-id : goal.invariant-loop-id
invariant-loop-id l = record {
  room : length l.kept ≡ 126;
  within : l.count ≤ 126;
  so_far : has_unfit (may_be_equal l.conf l.kind.n) (map Some (take l.count l.kept) ++ map (type_of l.layer) (drop l.id-index l.ids)) ≡ has_unfit (may_be_equal l.conf l.kind.n) (map (type_of l.layer) l.ids);
}
