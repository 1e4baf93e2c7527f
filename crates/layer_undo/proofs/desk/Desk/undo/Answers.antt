use Rattle.std.proofs.Common.{◌<◌, [], ◌∷◌, ◌++◌, length, sym, ◌∙◌, ap, arith}
use Rattle.std.specs.Prelude.{option_map}
use Rattle.std.specs.Arc.{arc_value}
use Rattle.layer_undo.specs.Desks.{DeskState, last_of}
use Rattle.layer_undo.proofs.KeptLemmas.{back_fits, back_well, not_empty, some_backs, undo_kept}
use Rattle.layer_undo.proofs.desk.Desk.undo.Goals as goal

pub revert_last-requires-clause-some : goal.revert_last-requires-clause-some
revert_last-requires-clause-some c =
    let before = c.self.inside in
    let desk : DeskState = record { conf = arc_value before.conf; text = arc_value before.doc; base = arc_value before.base; done = before.done.items; undone = before.undone.items } in
    omega (arith, some_backs desk before.work before.backs.items c.self.invariant, before.backs.ok.0, before.done.ok.0, not_empty _ c.is_empty.result c.is_empty.ensures c.if-is_empty.false)

pub revert_last-requires-clause-fits : goal.revert_last-requires-clause-fits
revert_last-requires-clause-fits c =
    let before = c.self.inside in
    let desk : DeskState = record { conf = arc_value before.conf; text = arc_value before.doc; base = arc_value before.base; done = before.done.items; undone = before.undone.items } in
    let some : 0 < length before.done.items = omega (arith, before.done.ok.0, not_empty _ c.is_empty.result c.is_empty.ensures c.if-is_empty.false) in
    λ fewer back last. back_fits desk before.work before.backs.items fewer back c.self.invariant some last

pub revert_last-requires-clause-well_formed : goal.revert_last-requires-clause-well_formed
revert_last-requires-clause-well_formed c =
    let before = c.self.inside in
    let desk : DeskState = record { conf = arc_value before.conf; text = arc_value before.doc; base = arc_value before.base; done = before.done.items; undone = before.undone.items } in
    let some : 0 < length before.done.items = omega (arith, before.done.ok.0, not_empty _ c.is_empty.result c.is_empty.ensures c.if-is_empty.false) in
    λ fewer back last. back_well c.commands_keep_layers.ensures desk before.work before.backs.items fewer back c.self.invariant some last

pub invariant_of-self-2 : goal.invariant_of-self-2
invariant_of-self-2 c =
    let before = c.self.inside in
    let desk : DeskState = record { conf = arc_value before.conf; text = arc_value before.doc; base = arc_value before.base; done = before.done.items; undone = before.undone.items } in
    let some : 0 < length before.done.items = omega (arith, before.done.ok.0, not_empty _ c.is_empty.result c.is_empty.ensures c.if-is_empty.false) in
    undo_kept desk before.work c.revert_last.new.work before.backs.items c.revert_last.new.backs.items c.move_last.new.from.items c.move_last.new.to.items c.self.invariant some
    c.in_ok-revert_last.ensures.done c.move_last.ensures.from
    (ap (λ ys. option_map (λ command. ys ++ command ∷ []) (last_of before.done.items)) (sym c.make_room.ensures.same) ∙ c.move_last.ensures.to)
