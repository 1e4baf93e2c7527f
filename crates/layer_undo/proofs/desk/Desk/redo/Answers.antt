use Rattle.std.proofs.Common.{◌≡◌, [], ◌∷◌, ◌++◌, length, sym, ◌∙◌, ap, arith}
use Rattle.std.specs.Prelude.{option_map}
use Rattle.std.specs.Arc.{arc_value}
use Rattle.layer_undo.specs.Desks.{DeskState, last_of}
use Rattle.layer_undo.proofs.DeskLemmas.{last_works}
use Rattle.layer_undo.proofs.KeptLemmas.{redo_kept}
use Rattle.layer_undo.proofs.desk.Desk.redo.Goals as goal

pub repeat_last-requires-clause-accepted : goal.repeat_last-requires-clause-accepted
repeat_last-requires-clause-accepted c =
    let before = c.self.inside in
    let desk : DeskState = record { conf = arc_value before.conf; text = arc_value before.doc; base = arc_value before.base; done = before.done.items; undone = before.undone.items } in
    let place : c.len-at.result ≡ length before.done.items = omega (arith, c.make_room.new.commands.ok.0, ap length c.make_room.ensures.same) in
    last_works desk before.work c.len-at.result c.deref.result.now c.self.invariant.is_work place c.deref.ensures.value

pub invariant_of-self-2 : goal.invariant_of-self-2
invariant_of-self-2 c =
    let before = c.self.inside in
    let desk : DeskState = record { conf = arc_value before.conf; text = arc_value before.doc; base = arc_value before.base; done = before.done.items; undone = before.undone.items } in
    let place : c.len-at.result ≡ length before.done.items = omega (arith, c.make_room.new.commands.ok.0, ap length c.make_room.ensures.same) in
    redo_kept desk before.work c.repeat_last.new.work before.backs.items c.push_reserved.new.self.items c.in_ok-back.back c.len-at.result c.move_last.new.to.items c.move_last.new.from.items c.self.invariant place c.move_last.ensures.from
    (ap (λ ys. option_map (λ command. ys ++ command ∷ []) (last_of before.undone.items)) (sym c.make_room.ensures.same) ∙ c.move_last.ensures.to)
    (λ command last. c.in_ok-back.ensures.done command (ap last_of c.deref.ensures.value ∙ last))
    (λ command last. c.in_ok-back.ensures.trail command (ap last_of c.deref.ensures.value ∙ last))
    c.repeat_last.ensures.conf c.repeat_last.ensures.text
    (c.push_reserved.ensures.items ∙ ap (λ xs. xs ++ c.in_ok-back.back ∷ []) c.make_way.ensures.same)
