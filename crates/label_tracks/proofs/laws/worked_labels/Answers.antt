use Rattle.std.proofs.Common.{refl}
use Rattle.type_hierarchy.specs.TypeTrees.{depth_of}
use Rattle.label_tracks.specs.Levels.{group_at, grouping_of, heads, rolled}
use Rattle.label_tracks.proofs.laws.worked_labels.Goals as goal

pub returns-clause-groups : goal.returns-clause-groups
unfolding depth_of rolled heads group_at grouping_of
returns-clause-groups c = refl

pub returns-clause-topmost_groups : goal.returns-clause-topmost_groups
unfolding depth_of rolled heads group_at grouping_of
returns-clause-topmost_groups c = refl

pub returns-clause-labels : goal.returns-clause-labels
unfolding depth_of rolled heads group_at
returns-clause-labels c = refl

pub returns-clause-topmost_labels : goal.returns-clause-topmost_labels
unfolding depth_of rolled heads group_at
returns-clause-topmost_labels c = refl
