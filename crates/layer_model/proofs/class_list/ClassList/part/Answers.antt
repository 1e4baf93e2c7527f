use Rattle.std.proofs.Common.{rules, ◌≡◌, sym}
use Rattle.layer_model.specs.Classes.{parted}
use Rattle.layer_model.proofs.ClassPart.{found_any, part_drop, part_found, part_none, part_put, parted_kept}
use Rattle.layer_model.proofs.class_list.ClassList.part.Goals as goal

pub returns-in_default-clause-rest : goal.returns-in_default-clause-rest
returns-in_default-clause-rest c = rw (← c.self.view_is) (part_none c.args.kind.n c.args.id c.self.inside.classes.items (search rules))

pub returns-in_default-clause-found : goal.returns-in_default-clause-found
returns-in_default-clause-found c = rw (← c.self.view_is) (sym (found_any c.args.kind.n c.args.id c.self.inside.classes.items (search rules)))

pub invariant_of-self : goal.invariant_of-self
invariant_of-self c =
    let made : c.put_class.new.classes.items ≡ parted c.args.kind.n c.args.id c.self.inside.classes.items =
    part_put c.args.kind.n c.args.id c.self.inside.classes.items c.remove.result c.without_member-class.result c.in-Some.place c.remove.new.self.items _ (search rules) c.remove.ensures.value (search rules) (search rules) c.remove.ensures.items c.without_member-class.ensures (search rules) c.put_class.ensures in
    rw made (parted_kept c.args.kind.n c.args.id c.self.inside.classes.items c.self.invariant)

pub invariant_of-self-else-items-ge2 : goal.invariant_of-self-else-items-ge2
invariant_of-self-else-items-ge2 c =
    let made : c.remove.new.self.items ≡ parted c.args.kind.n c.args.id c.self.inside.classes.items =
    part_drop c.args.kind.n c.args.id c.self.inside.classes.items c.remove.result c.without_member-class.result c.in-Some.place c.remove.new.self.items (search rules) c.remove.ensures.value (search rules) (search rules) c.remove.ensures.items c.without_member-class.ensures (search rules) in
    rw made (parted_kept c.args.kind.n c.args.id c.self.inside.classes.items c.self.invariant)

pub returns-then-items-ge2-clause-rest : goal.returns-then-items-ge2-clause-rest
returns-then-items-ge2-clause-rest c =
    rw (← c.self.view_is) (part_put c.args.kind.n c.args.id c.self.inside.classes.items c.remove.result c.without_member-class.result c.in-Some.place c.remove.new.self.items _ (search rules) c.remove.ensures.value (search rules) (search rules) c.remove.ensures.items c.without_member-class.ensures (search rules) c.put_class.ensures)

pub returns-then-items-ge2-clause-found : goal.returns-then-items-ge2-clause-found
returns-then-items-ge2-clause-found c =
    rw (← c.self.view_is) (part_found c.args.kind.n c.args.id c.self.inside.classes.items c.remove.result c.in-Some.place (search rules) c.remove.ensures.value (search rules))

pub returns-else-items-ge2-clause-rest : goal.returns-else-items-ge2-clause-rest
returns-else-items-ge2-clause-rest c =
    rw (← c.self.view_is) (part_drop c.args.kind.n c.args.id c.self.inside.classes.items c.remove.result c.without_member-class.result c.in-Some.place c.remove.new.self.items (search rules) c.remove.ensures.value (search rules) (search rules) c.remove.ensures.items c.without_member-class.ensures (search rules))

pub returns-else-items-ge2-clause-found : goal.returns-else-items-ge2-clause-found
returns-else-items-ge2-clause-found c =
    rw (← c.self.view_is) (part_found c.args.kind.n c.args.id c.self.inside.classes.items c.remove.result c.in-Some.place (search rules) c.remove.ensures.value (search rules))
