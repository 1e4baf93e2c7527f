use Rattle.std.proofs.Common.{◌<◌, [], ◌∷◌, ◌++◌, length, ◌∙◌, ap, arith}
use Rattle.std.specs.Arc.{arc_value}
use Rattle.layer_undo.specs.Desks.{DeskState}
use Rattle.layer_undo.proofs.KeptLemmas.{perform_kept}
use Rattle.layer_undo.proofs.desk.Desk.perform.Goals as goal

pub invariant_of-self-2 : goal.invariant_of-self-2
invariant_of-self-2 c =
    let before = c.self.inside in
    let desk : DeskState = record { conf = arc_value before.conf; text = arc_value before.doc; base = arc_value before.base; done = before.done.items; undone = before.undone.items } in
    let few : length before.done.items < 4096 = omega (arith, before.done.ok.0) in
    let way = c.in_ok-done.ensures.back in
    perform_kept desk before.work c.carry_on.new.work before.backs.items c.carry_on.new.backs.items way.back c.args.command c.in_ok-done.done.made c.push_reserved.new.self.items c.clear.new.self.items c.self.invariant few
    c.in_ok-done.ensures.done way.way c.carry_on.ensures.conf c.carry_on.ensures.text
    (c.push_reserved.ensures.items ∙ ap (λ xs. xs ++ c.args.command ∷ []) c.make_room.ensures.same)
    c.clear.ensures.items
    way.last
