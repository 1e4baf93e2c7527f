use Rattle.std.proofs.Common.{sym, ◌∙◌, ap, is_some}
use Rattle.layer_model.proofs.Maps.{looked_up}
use Rattle.layer_rules.proofs.event_chains.holds.Goals as goal

pub returns : goal.returns
returns g c = c.contains_key.ensures ∙ ap is_some (sym (looked_up c.args.number c.args.held.now.entries))
