use Rattle.std.proofs.Common.{◌≡◌, ◌+◌, suc, filter, length, sym, ◌∙◌, ap, arith}
use Rattle.layer_core.specs.MadeLayers.{falls_by}
use Rattle.layer_core.specs.Cascade.{falls_next}
use Rattle.layer_model.specs.LayerIds.{ids_of}
use Rattle.layer_rules.specs.LayerRules.{is_id}
use Rattle.layer_core.proofs.FallLemmas.{first_round, one_list, one_more, settled}
use Rattle.layer_core.proofs.cascade.falling.Goals as goal

pub loop-round-init : goal.loop-round-init
loop-round-init c = c.in_ok-fallen.ensures ∙ ap (filter (is_id c.args.gone)) (c.deref.ensures.value ∙ c.in_ok-ids.ensures) ∙ first_round c.args.layer.now c.args.gone

pub returns-then-are_same : goal.returns-then-are_same
returns-then-are_same c =
    let next : c.in_ok-next.next.items ≡ filter (falls_next c.args.layer.now c.args.gone c.loop-round.fallen.items) c.in_ok-ids.ids.items =
    c.in_ok-next.ensures ∙ ap (filter (falls_next c.args.layer.now c.args.gone c.deref-in-loop-round-2.result.now)) c.deref-in-loop-round.ensures.value
    ∙ ap (λ fallen. filter (falls_next c.args.layer.now c.args.gone fallen) c.in_ok-ids.ids.items) c.deref-in-loop-round-2.ensures.value in
    let same : c.in_ok-next.next.items ≡ c.loop-round.fallen.items =
    sym c.deref-in-loop-round-3.ensures.value ∙ one_list c.deref-in-loop-round-3.result.now c.deref-in-loop-round-4.result.now (sym c.are_same.ensures ∙ c.if-are_same.true)
    ∙ c.deref-in-loop-round-4.ensures.value in
    settled c.loop-round.round c.args.layer.now c.args.gone c.in_ok-ids.ids.items c.loop-round.fallen.items c.in_ok-next.next.items
    c.in_ok-ids.ensures (omega (arith, c.len-round-end.ensures)) c.loop-round.invariant next same

pub loop-round-preserved : goal.loop-round-preserved
loop-round-preserved c =
    let next : c.in_ok-next.next.items ≡ filter (falls_next c.args.layer.now c.args.gone c.loop-round.fallen.items) c.in_ok-ids.ids.items =
    c.in_ok-next.ensures ∙ ap (filter (falls_next c.args.layer.now c.args.gone c.deref-in-loop-round-2.result.now)) c.deref-in-loop-round.ensures.value
    ∙ ap (λ fallen. filter (falls_next c.args.layer.now c.args.gone fallen) c.in_ok-ids.ids.items) c.deref-in-loop-round-2.ensures.value in
    let after : suc c.loop-round.round ≡ c.loop-round.round + 1 = omega arith in
    one_more c.loop-round.round c.args.layer.now c.args.gone c.in_ok-ids.ids.items c.loop-round.fallen.items c.in_ok-next.next.items
    c.in_ok-ids.ensures c.loop-round.invariant next
    ∙ ap (λ n. filter (falls_by n c.args.layer.now c.args.gone) (ids_of c.args.layer.now)) after

pub returns : goal.returns
returns c =
    let end : c.loop-round.round ≡ length (ids_of c.args.layer.now) = let e = ap length c.in_ok-ids.ensures in omega arith in
    c.loop-round.invariant ∙ ap (λ n. filter (falls_by n c.args.layer.now c.args.gone) (ids_of c.args.layer.now)) end
