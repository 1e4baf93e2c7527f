use Rattle.std.proofs.Common.{◌≡◌, length}
use Rattle.label_tracks.proofs.OfferLemmas.{BetweenOffered}
use Rattle.label_tracks.proofs.offers.offer_within.Given as goal

abbrev pub invariant-loop-i : goal.invariant-loop-i
invariant-loop-i l = (length l.found ≡ length l.tokens) × BetweenOffered (length l.tokens) l.from l.i l.candidate l.initial.found l.found
