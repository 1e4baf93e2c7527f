use Rattle.std.proofs.Common.{◌∙◌, ap, sym, arith, length, subst, List}
use Rattle.std.proofs.lemmas.Bool.{le-ltb}
use Rattle.type_hierarchy.specs.declared.type_row.TypeRow.{TypeRow}
use Rattle.type_hierarchy.specs.TypeTrees.{is_under}
use Rattle.type_hierarchy.specs.Indexed.{ParentsBefore}
use Rattle.type_hierarchy.proofs.ClimbLemmas.{under_within, under_outside}
use Rattle.type_hierarchy.proofs.tree.Types.under.Goals as goal

pub returns-then-from-rows : goal.returns-then-from-rows
returns-then-from-rows c =
    let before : ParentsBefore c.as_slice-rows.result.now = (let P : List TypeRow → Type 0 = ParentsBefore in subst P (sym c.as_slice-rows.ensures.value) c.self.invariant.parents) in
    c.climbs.ensures
    ∙ under_within c.as_slice-rows.result.now before c.args.low c.args.high (omega arith)
    ∙ ap (λ rows. is_under rows c.args.low c.args.high) (c.as_slice-rows.ensures.value ∙ c.self.view_is)

pub returns-else-from-rows : goal.returns-else-from-rows
returns-else-from-rows c =
    le-ltb c.from.result (length c.as_slice-rows.result.now) c.if-from-rows.false
    ∙ under_outside c.as_slice-rows.result.now c.args.low c.args.high (omega arith)
    ∙ ap (λ rows. is_under rows c.args.low c.args.high) (c.as_slice-rows.ensures.value ∙ c.self.view_is)
