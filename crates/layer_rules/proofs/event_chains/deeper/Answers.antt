use Rattle.std.proofs.Common.{◌≡◌, sym, ◌∙◌, ap, true, false, ◌&&◌}
use Rattle.std.specs.List.{list_any}
use Rattle.layer_rules.specs.LayerRules.{is_event_id}
use Rattle.layer_rules.specs.EventChains.{is_held}
use Rattle.layer_rules.proofs.ChainLemmas.{leads, leads_is, round_begins, round_on, round_past, round_ends}
use Rattle.layer_rules.proofs.event_chains.deeper.Goals as goal

pub loop-number-init : goal.loop-number-init
loop-number-init g c =
    round_begins c.args.layer.now c.args.events c.new-held.result.entries c.into_iter-number-iterator.result c.events-number-items.result.now.entries c.events-number-items.ensures
    c.into_iter-number-iterator.ensures.into_iter_gives.0 c.into_iter-number-iterator.ensures.into_iter_gives.5 c.new-held.ensures.empty

pub loop-number-preserved-in_ok-insert : goal.loop-number-preserved-in_ok-insert
loop-number-preserved-in_ok-insert g c =
    let led : leads c.args.layer.now c.args.events c.in-Some.event.now ≡ true =
    sym (leads_is c.args.layer.now c.args.events c.args.before.now.entries c.in-Some.event.now.args c.requires) ∙ sym (c.leads_on.ensures ∙ ap (λ args. list_any (λ arg. is_event_id arg.target && is_held c.args.before.now.entries arg.target.number) args) c.items.ensures) ∙ c.if-leads_on.true in
    round_on c.args.layer.now c.args.events c.loop-number.held.entries c.insert.new.self.entries c.loop-number.number-iterator c.next.new.self c.in-Some.number.now c.in-Some.event.now tt
    c.in-Some.ensures.steps led c.in_ok-insert.ensures.updates.0 c.loop-number.invariant

pub loop-number-preserved : goal.loop-number-preserved
loop-number-preserved g c =
    let led : leads c.args.layer.now c.args.events c.in-Some.event.now ≡ false =
    sym (leads_is c.args.layer.now c.args.events c.args.before.now.entries c.in-Some.event.now.args c.requires) ∙ sym (c.leads_on.ensures ∙ ap (λ args. list_any (λ arg. is_event_id arg.target && is_held c.args.before.now.entries arg.target.number) args) c.items.ensures) ∙ c.if-leads_on.false in
    round_past c.args.layer.now c.args.events c.loop-number.held.entries c.loop-number.number-iterator c.next.new.self c.in-Some.number.now c.in-Some.event.now
    c.in-Some.ensures.steps led c.loop-number.invariant

pub returns : goal.returns
returns g c = round_ends c.args.layer.now c.args.events c.loop-number.held.entries c.loop-number.number-iterator c.in-None.ensures.steps.0 c.loop-number.invariant
