use Rattle.type_hierarchy.proofs.tree.+ancestors.Given as goal

abbrev pub decreases-ancestors : goal.decreases-ancestors
decreases-ancestors l = l.place
