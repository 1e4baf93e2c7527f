use Rattle.type_hierarchy.proofs.tree.+climbs.Given as goal

abbrev pub decreases-climbs : goal.decreases-climbs
decreases-climbs l = l.low
