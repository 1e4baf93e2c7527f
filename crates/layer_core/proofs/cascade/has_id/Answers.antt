use Rattle.std.proofs.Common.{◌∙◌}
use Rattle.layer_core.proofs.FallLemmas.{among_ids}
use Rattle.layer_core.proofs.cascade.has_id.Goals as goal

pub returns : goal.returns
returns c = c.has.ensures ∙ among_ids c.args.id c.args.ids.now
