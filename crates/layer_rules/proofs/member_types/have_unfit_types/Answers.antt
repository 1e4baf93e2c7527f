use Rattle.std.proofs.Common.{◌≡◌, ◌<◌, ◌≤◌, ◌+◌, ◌++◌, length, map, take, drop, set, Some, Bool, true, sym, ◌∙◌, ap, append-nil, length-set, arith}
use Rattle.std.proofs.lemmas.List.{at_drop_all}
use Rattle.mark_base.specs.declared.table_places.TypeId.{TypeId}
use Rattle.layer_rules.specs.Targets.{type_of}
use Rattle.layer_rules.specs.LayerRules.{may_be_equal}
use Rattle.layer_rules.specs.MemberTypes.{has_unfit, stands_twice}
use Rattle.layer_rules.proofs.MemberLemmas.{passed_typeless, passed_third, put_by, unfit_map}
use Rattle.layer_rules.proofs.member_types.have_unfit_types.Goals as goal
use Rattle.layer_rules.proofs.member_types.have_unfit_types.Goals.{in-Some+then-not-stands_twice+else-count-eq-MOST_KEPT, in-Some+else-not-stands_twice, in_default}

pub loop-id-preserved : goal.loop-id-preserved
loop-id-preserved c = record {
  room = elim c.match-type_of.branch [
    | in-Some+then-not-stands_twice+else-count-eq-MOST_KEPT w ↦ ap length w.kept-is ∙ length-set c.loop-id.kept c.loop-id.count w.in-Some.of ∙ c.loop-id.invariant.room
    | in-Some+else-not-stands_twice w ↦ ap length w.kept-is ∙ c.loop-id.invariant.room
    | in_default w ↦ ap length w.kept-is ∙ c.loop-id.invariant.room
  ];
  within = elim c.match-type_of.branch [
    | in-Some+then-not-stands_twice+else-count-eq-MOST_KEPT w ↦ omega arith
    | in-Some+else-not-stands_twice w ↦ omega arith
    | in_default w ↦ omega arith
  ];
  so_far = elim c.match-type_of.branch [
    | in-Some+then-not-stands_twice+else-count-eq-MOST_KEPT w ↦
        let step = put_by c.args.conf.now c.args.layer.now c.args.kind.n c.loop-id.kept c.loop-id.count c.args.ids.now c.loop-id.id-index c.id-item.result w.in-Some.of (omega arith) (omega arith) c.id-item.is (sym c.type_of.ensures ∙ w.in-Some.is) in
        let whole = step ∙ c.loop-id.invariant.so_far in
        cc
    | in-Some+else-not-stands_twice w ↦
        let twice : stands_twice w.in-Some.of (take c.loop-id.count c.loop-id.kept) ≡ true = sym w.stands_twice.ensures ∙ w.if-not-stands_twice.false in
        let step = passed_third c.args.conf.now c.args.layer.now c.args.kind.n (take c.loop-id.count c.loop-id.kept) c.args.ids.now c.loop-id.id-index c.id-item.result w.in-Some.of (omega arith) c.id-item.is (sym c.type_of.ensures ∙ w.in-Some.is) twice in
        let whole = step ∙ c.loop-id.invariant.so_far in
        cc
    | in_default w ↦
        let step = passed_typeless c.args.conf.now c.args.layer.now c.args.kind.n (take c.loop-id.count c.loop-id.kept) c.args.ids.now c.loop-id.id-index c.id-item.result (omega arith) c.id-item.is (sym c.type_of.ensures ∙ w.in_default.is) in
        let whole = step ∙ c.loop-id.invariant.so_far in
        cc
  ];
}

pub returns : goal.returns
returns c =
    let conf = c.args.conf.now in
    let layer = c.args.layer.now in
    let kept = take c.loop-id.count c.loop-id.kept in
    c.are_unfit.ensures ∙ sym (unfit_map (may_be_equal conf c.args.kind.n) Some kept)
    ∙ ap (has_unfit (may_be_equal conf c.args.kind.n)) (sym (append-nil (map Some kept)))
    ∙ sym (at_drop_all (λ ids. has_unfit (may_be_equal conf c.args.kind.n) (map Some kept ++ map (type_of layer) ids)) c.args.ids.now c.loop-id.id-index (omega arith))
    ∙ c.loop-id.invariant.so_far ∙ unfit_map (may_be_equal conf c.args.kind.n) (type_of layer) c.args.ids.now
