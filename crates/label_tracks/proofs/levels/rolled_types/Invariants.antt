use Rattle.label_tracks.proofs.LevelLemmas.{RolledSoFar}
use Rattle.label_tracks.proofs.levels.rolled_types.Given as goal

abbrev pub invariant-loop-place : goal.invariant-loop-place
invariant-loop-place l = RolledSoFar l.types l.level l.place l.all.items
