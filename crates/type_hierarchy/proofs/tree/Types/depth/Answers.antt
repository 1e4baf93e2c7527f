use Rattle.std.proofs.Common.{◌∙◌, ap, sym, arith, subst, List, Some}
use Rattle.type_hierarchy.specs.declared.type_row.TypeRow.{TypeRow}
use Rattle.type_hierarchy.specs.TypeTrees.{depth_of}
use Rattle.type_hierarchy.specs.Indexed.{ParentsBefore}
use Rattle.type_hierarchy.proofs.DepthLemmas.{depth_within, depth_outside}
use Rattle.type_hierarchy.proofs.tree.Types.depth.Goals as goal

pub returns-then-from-rows : goal.returns-then-from-rows
returns-then-from-rows c =
    let before : ParentsBefore c.as_slice-rows.result.now = (let P : List TypeRow → Type 0 = ParentsBefore in subst P (sym c.as_slice-rows.ensures.value) c.self.invariant.parents) in
    ap Some c.ancestors.ensures.value
    ∙ depth_within c.as_slice-rows.result.now before c.args.id (omega arith)
    ∙ ap (λ rows. depth_of rows c.args.id) (c.as_slice-rows.ensures.value ∙ c.self.view_is)

pub returns-else-from-rows : goal.returns-else-from-rows
returns-else-from-rows c =
    depth_outside c.as_slice-rows.result.now c.args.id (omega arith)
    ∙ ap (λ rows. depth_of rows c.args.id) (c.as_slice-rows.ensures.value ∙ c.self.view_is)
