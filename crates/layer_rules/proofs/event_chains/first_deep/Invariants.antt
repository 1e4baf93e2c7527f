use Rattle.std.proofs.Common.{◌≡◌}
use Rattle.std.specs.FinMap as finite
use Rattle.mark_base.specs.declared.ann_id.Kind.TheVariants as letter
use Rattle.layer_model.specs.declared.mark.Mark.TheVariants as marked
use Rattle.mark_base.specs.ReadIds.{id_at}
use Rattle.layer_rules.specs.LayerRules.{too_deep}
use Rattle.layer_rules.specs.LowestFlaw.{first_among}
use Rattle.layer_rules.proofs.event_chains.first_deep.Given as goal

abbrev pub invariant-loop-number : goal.invariant-loop-number
invariant-loop-number l =
    first_among letter.Event (λ n v. too_deep l.layer (id_at letter.Event n) (marked.Event v)) l.number-iterator
    ≡ first_among letter.Event (λ n v. too_deep l.layer (id_at letter.Event n) (marked.Event v)) (finite.entries l.layer.events)
