use Rattle.ann_reader.proofs.SmallestLemmas.{classes_linked, lines_within}
use Rattle.ann_reader.proofs.laws.classes_are_smallest.Goals as goal

pub returns : goal.returns
returns c = record { within = lines_within; linked = classes_linked }
