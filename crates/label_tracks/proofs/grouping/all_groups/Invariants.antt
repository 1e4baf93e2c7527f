use Rattle.std.proofs.Common.{◌≡◌, map}
use Rattle.std.specs.List.{range_with_len}
use Rattle.label_tracks.specs.Levels.{group_at}
use Rattle.label_tracks.proofs.grouping.all_groups.Given as goal

abbrev pub invariant-loop-place : goal.invariant-loop-place
invariant-loop-place l = l.groups.items ≡ map (group_at l.types l.level) (range_with_len 0 l.place)
