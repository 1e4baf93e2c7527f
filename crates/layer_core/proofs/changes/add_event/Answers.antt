use Rattle.std.proofs.Common.{◌≡◌, true, Some, option_map, sym, ◌∙◌, ap, rules}
use Rattle.layer_core.specs.CommandRules.{args_named, event_named, is_span_letter}
use Rattle.layer_core.proofs.DeskLemmas.{one_event}
use Rattle.layer_core.proofs.changes.add_event.Goals as goal

pub returns-clause-made : goal.returns-clause-made
returns-clause-made c =
    let letter : is_span_letter c.args.trigger.kind ≡ true = sym c.is_span_letter.ensures ∙ (search rules) in
    let named : event_named c.args.conf.now c.args.kind.now ≡ Some c.in-Some.kind = sym c.in-Some.ensures in
    let placed : args_named c.args.conf.now c.in-Some.kind c.args.args.now ≡ Some c.in-Some-2.placed.items = sym c.in_ok-placed.ensures ∙ ap (option_map (λ found. found.items)) c.in-Some-2.is in
    rw (letter, named, placed, c.put_new-made.ensures.made, c.from_vec.ensures) (one_event c.args.layer.now c.in-Some.kind c.args.trigger.number c.in-Some-2.placed.items _ c.args.trigger.within)
