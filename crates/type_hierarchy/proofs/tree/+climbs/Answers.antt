use Rattle.std.proofs.Common.{◌≡◌, ◌<◌, arith, Some, None}
use Rattle.type_hierarchy.specs.TypeTrees.{parent_of}
use Rattle.type_hierarchy.proofs.ClimbLemmas.{parent_is, climb_up, climb_ends}
use Rattle.type_hierarchy.proofs.tree.+climbs.Goals as goal

pub climbs-requires : goal.climbs-requires
climbs-requires t c =
    let up : parent_of c.args.rows.now c.args.low ≡ Some c.in-Some.parent = parent_is c.args.rows.now c.from.result c.args.low _ (Some c.in-Some.parent) c.requires.within c.from.ensures c.in-Some.is in
    let below : c.in-Some.parent.n < c.args.low = c.requires.parents c.args.low c.in-Some.parent up in
    (omega (arith, below, c.decreases), (c.requires.parents, omega (arith, below, c.requires.within)))

pub returns-in-Some : goal.returns-in-Some
returns-in-Some t c =
    let up : parent_of c.args.rows.now c.args.low ≡ Some c.in-Some.parent = parent_is c.args.rows.now c.from.result c.args.low _ (Some c.in-Some.parent) c.requires.within c.from.ensures c.in-Some.is in
    rw c.climbs.ensures (climb_up c.args.rows.now c.requires.parents c.args.low c.args.high c.in-Some.parent c.if-low-high.false up)

pub returns-in-None : goal.returns-in-None
returns-in-None t c =
    climb_ends c.args.rows.now c.args.low c.args.high c.if-low-high.false (parent_is c.args.rows.now c.from.result c.args.low _ None c.requires.within c.from.ensures c.in-None.is)
