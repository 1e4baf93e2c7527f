use Rattle.std.proofs.Common.{rules, ◌≡◌, ◌<◌, length}
use Rattle.layer_model.specs.Classes.{joined}
use Rattle.layer_model.proofs.ClassJoin.{joined_by, joined_kept}
use Rattle.layer_model.proofs.class_list.ClassList.join.Goals as goal

pub invariant_of-self-2 : goal.invariant_of-self-2
invariant_of-self-2 c =
    let made : c.put_class.new.classes.items ≡ joined c.args.kind c.args.members.now c.self.inside.classes.items =
    joined_by c.args.kind c.args.members.now c.in_ok-sought.sought c.self.inside.classes.items c.keep_apart.new.classes.items _ c.in_ok-class.class (search rules) (search rules) (search rules) (search rules) in
    let few : length c.self.inside.classes.items < 4294967295 = search rules in
    rw made (joined_kept c.args.kind c.args.members.now c.self.inside.classes.items c.requires.some few c.self.invariant)

pub returns-clause-ok : goal.returns-clause-ok
returns-clause-ok c =
    rw (← c.self.view_is) (joined_by c.args.kind c.args.members.now c.in_ok-sought.sought c.self.inside.classes.items c.keep_apart.new.classes.items _ c.in_ok-class.class (search rules) (search rules) (search rules) (search rules))
