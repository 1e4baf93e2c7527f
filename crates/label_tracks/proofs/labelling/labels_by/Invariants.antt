use Rattle.std.proofs.Common.{◌≡◌, map, take}
use Rattle.label_tracks.specs.Offers.{label_of}
use Rattle.label_tracks.proofs.labelling.labels_by.Given as goal

abbrev pub invariant-loop-first : goal.invariant-loop-first
invariant-loop-first l = l.labels.items ≡ map (label_of l.groups.groups) (take l.first-index l.found)
