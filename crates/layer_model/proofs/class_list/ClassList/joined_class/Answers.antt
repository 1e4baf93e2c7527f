use Rattle.std.proofs.Common.{rules}
use Rattle.layer_model.proofs.ClassJoin.{class_by}
use Rattle.layer_model.proofs.class_list.ClassList.joined_class.Goals as goal

pub returns : goal.returns
returns c =
    rw (← c.self.view_is) (class_by c.args.kind c.args.members.now c.args.sought.now c.self.inside.classes.items c.in_ok-all.all.items c.from_vec.result c.requires (search rules) (search rules))
