use Rattle.std.proofs.Common.{◌≡◌, ◌+◌, ◌<◌, ◌≤◌, ◌∙◌, ap, arith, Some, None}
use Rattle.type_hierarchy.specs.TypeTrees.{parent_of}
use Rattle.type_hierarchy.proofs.ClimbLemmas.{parent_is}
use Rattle.type_hierarchy.proofs.DepthLemmas.{depth_below, depth_at_root}
use Rattle.type_hierarchy.proofs.tree.+ancestors.Goals as goal

pub ancestors-requires : goal.ancestors-requires
ancestors-requires t c =
    let up : parent_of c.args.rows.now c.args.place ≡ Some c.in-Some.parent = parent_is c.args.rows.now c.from.result c.args.place _ (Some c.in-Some.parent) c.requires.within c.from.ensures c.in-Some.is in
    let below : c.in-Some.parent.n < c.args.place = c.requires.parents c.args.place c.in-Some.parent up in
    (omega (arith, below, c.decreases), (c.requires.parents, omega (arith, below, c.requires.within)))

pub overflow_add-result : goal.overflow_add-result
overflow_add-result t c =
    let up : parent_of c.args.rows.now c.args.place ≡ Some c.in-Some.parent = parent_is c.args.rows.now c.from.result c.args.place _ (Some c.in-Some.parent) c.requires.within c.from.ensures c.in-Some.is in
    let below : c.in-Some.parent.n < c.args.place = c.requires.parents c.args.place c.in-Some.parent up in
    let few : c.ancestors.result ≤ c.in-Some.parent.n = c.ancestors.ensures.few in
    let fits = c.ranges.place.fits in
    omega (arith, few, below, fits)

pub returns-in-Some-clause-value : goal.returns-in-Some-clause-value
returns-in-Some-clause-value t c =
    let up : parent_of c.args.rows.now c.args.place ≡ Some c.in-Some.parent = parent_is c.args.rows.now c.from.result c.args.place _ (Some c.in-Some.parent) c.requires.within c.from.ensures c.in-Some.is in
    ap (λ k. k + 1) c.ancestors.ensures.value ∙ depth_below c.args.rows.now c.requires.parents c.args.place c.in-Some.parent up

pub returns-in-Some-clause-few : goal.returns-in-Some-clause-few
returns-in-Some-clause-few t c =
    let up : parent_of c.args.rows.now c.args.place ≡ Some c.in-Some.parent = parent_is c.args.rows.now c.from.result c.args.place _ (Some c.in-Some.parent) c.requires.within c.from.ensures c.in-Some.is in
    let below : c.in-Some.parent.n < c.args.place = c.requires.parents c.args.place c.in-Some.parent up in
    omega (arith, c.ancestors.ensures.few, below)

pub returns-in-None-clause-value : goal.returns-in-None-clause-value
returns-in-None-clause-value t c =
    depth_at_root c.args.rows.now c.args.place (parent_is c.args.rows.now c.from.result c.args.place _ None c.requires.within c.from.ensures c.in-None.is)
