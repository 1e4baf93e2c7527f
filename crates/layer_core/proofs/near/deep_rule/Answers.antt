use Rattle.std.proofs.Common.{sym, ◌∙◌}
use Rattle.layer_core.proofs.NearLemmas.{none_deeper}
use Rattle.layer_core.proofs.near.deep_rule.Goals as goal

pub returns-then-not-leads_to_event : goal.returns-then-not-leads_to_event
returns-then-not-leads_to_event c =
    let was = c.requires.2 in
    sym (none_deeper c.requires.0 c.requires.1 c.args.layer.now was.0 c.args.id was.1.0 was.1.1 (sym c.leads_to_event.ensures ∙ c.if-not-leads_to_event.true))
