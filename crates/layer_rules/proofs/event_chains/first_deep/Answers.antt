use Rattle.std.proofs.Common.{ap}
use Rattle.mark_base.specs.declared.ann_id.Kind.TheVariants as letter
use Rattle.layer_model.specs.declared.mark.Mark.TheVariants as marked
use Rattle.mark_base.specs.ReadIds.{id_at}
use Rattle.layer_rules.specs.LayerRules.{too_deep}
use Rattle.layer_rules.specs.LowestFlaw.{first_among}
use Rattle.layer_rules.proofs.PlaceLemmas.{all_entries}
use Rattle.layer_rules.proofs.event_chains.first_deep.Goals as goal

pub loop-number-init : goal.loop-number-init
loop-number-init c =
    ap (first_among letter.Event (λ n v. too_deep c.args.layer.now (id_at letter.Event n) (marked.Event v)))
    (all_entries c.args.layer.now.events c.into_iter-number-iterator.result c.events-number-items.result.now.entries c.events-number-items.ensures
    c.into_iter-number-iterator.ensures.into_iter_gives.0 c.into_iter-number-iterator.ensures.into_iter_gives.5)
