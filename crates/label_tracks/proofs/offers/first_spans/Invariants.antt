use Rattle.std.proofs.Common.{◌≡◌, length}
use Rattle.std.specs.FinMap as finite
use Rattle.label_tracks.proofs.OfferLemmas.{LeftGives}
use Rattle.label_tracks.proofs.offers.first_spans.Given as goal

abbrev pub invariant-loop-number : goal.invariant-loop-number
invariant-loop-number l = (length l.found.items ≡ length l.tokens) × LeftGives l.tokens (finite.entries l.layer.spans) l.number-iterator l.found.items
