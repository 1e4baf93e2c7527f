use Rattle.std.proofs.Common.{◌∙◌, sym, length}
use Rattle.annotation_conf.proofs.BuildHeld.{held_built, held_found, held_later, held_no}
use Rattle.annotation_conf.proofs.build_places.macro_places.Goals as goal

pub returns-then-is_some : goal.returns-then-is_some
returns-then-is_some c =
    held_built c.args.known.now c.args.table (length c.args.lists.now) c.args.name.now c.built_in.result c.built_in.ensures (sym c.is_some.ensures ∙ c.if-is_some.true)

pub returns-then-place-lists : goal.returns-then-place-lists
returns-then-place-lists c =
    c.items.ensures ∙ c.index-lists-place.is
    ∙ held_found c.args.known.now c.args.table c.args.lists.now c.args.name.now c.built_in.result c.in-Some.place c.index-lists-place.result c.built_in.ensures (sym c.is_some.ensures ∙ c.if-is_some.false)
    c.requires (sym c.first_macro.ensures ∙ c.in-Some.is) c.if-place-lists.true

pub returns-else-place-lists : goal.returns-else-place-lists
returns-else-place-lists c =
    held_later c.args.known.now c.args.table (length c.args.lists.now) c.args.name.now c.built_in.result c.in-Some.place c.built_in.ensures (sym c.is_some.ensures ∙ c.if-is_some.false)
    (sym c.first_macro.ensures ∙ c.in-Some.is) c.if-place-lists.false

pub returns-in-None : goal.returns-in-None
returns-in-None c =
    held_no c.args.known.now c.args.table (length c.args.lists.now) c.args.name.now c.built_in.result c.built_in.ensures (sym c.is_some.ensures ∙ c.if-is_some.false)
    (sym c.first_macro.ensures ∙ c.in-None.is)
