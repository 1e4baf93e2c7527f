use Rattle.std.proofs.Common.{◌≡◌, length, take}
use Rattle.overlap_rules.specs.Overlaps.{covers}
use Rattle.label_tracks.specs.Offers.{AreOffered}
use Rattle.label_tracks.proofs.offers.offer.Given as goal

abbrev pub invariant-loop-frag : goal.invariant-loop-frag
invariant-loop-frag l = (length l.found ≡ length l.tokens) × AreOffered (covers (take l.frag-index l.frags)) l.tokens l.candidate l.initial.found l.found
