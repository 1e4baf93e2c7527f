use Rattle.std.proofs.Common.{◌≡◌}
use Rattle.std.specs.FinMap as finite
use Rattle.mark_base.specs.declared.ann_id.Kind.TheVariants as letter
use Rattle.layer_rules.proofs.OverlapLemmas.{Seen, told}
use Rattle.layer_rules.proofs.PairLemmas.{first_item, items}
use Rattle.layer_rules.proofs.overlaps.overlap_flaw.Given as goal

abbrev pub invariant-loop-number : goal.invariant-loop-number
invariant-loop-number l =
    Seen l.layer l.number-iterator l.index
    × (first_item (told l.conf l.layer) (items letter.Text l.number-iterator) ≡ first_item (told l.conf l.layer) (items letter.Text (finite.entries l.layer.spans)))
