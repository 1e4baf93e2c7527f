use Rattle.std.proofs.Common.{◌∙◌, not, count_by}
use Rattle.match_scores.specs.Places.{is_here}
use Rattle.match_scores.proofs.MarkLemmas.{tally_read}
use Rattle.match_scores.proofs.places.Places.tally.Goals as goal

pub returns : goal.returns
returns c =
    tally_read c.args.self.now c.args.others.now c.shared.result c.alone.result c.alone-2.result
    (c.shared.ensures ∙ (λ i. count_by (λ place. is_here (c.as_slice-2.ensures.value i) place) (c.as_slice.ensures.value i)))
    (c.alone.ensures ∙ (λ i. count_by (λ place. not (is_here (c.as_slice-4.ensures.value i) place)) (c.as_slice-3.ensures.value i)))
    (c.alone-2.ensures ∙ (λ i. count_by (λ place. not (is_here (c.as_slice-6.ensures.value i) place)) (c.as_slice-5.ensures.value i)))
