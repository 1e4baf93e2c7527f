use Rattle.label_tracks.proofs.levels.+ancestor.Given as goal

abbrev pub decreases-ancestor : goal.decreases-ancestor
decreases-ancestor l = l.steps
