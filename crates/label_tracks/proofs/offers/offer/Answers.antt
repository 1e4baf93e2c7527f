use Rattle.std.proofs.Common.{arith}
use Rattle.std.proofs.lemmas.List.{get_or_default}
use Rattle.label_tracks.proofs.OfferLemmas.{next_fragment}
use Rattle.label_tracks.proofs.offers.offer.Goals as goal

pub loop-frag-preserved : goal.loop-frag-preserved
loop-frag-preserved c = (
  (let kept = c.offer_within.auto.found in let before = c.loop-frag.invariant.0 in omega arith),
  next_fragment c.args.tokens.now c.args.frags.now c.loop-frag.frag-index _ c.args.candidate c.args.found.now c.loop-frag.found c.offer_within.new.found c.loop-frag-test.true
      (get_or_default c.args.frags.now c.loop-frag.frag-index (record { start = 0; end = 0 }) _ c.loop-frag-test.true) c.loop-frag.invariant.1 c.offer_within.ensures,
)
