use Rattle.std.proofs.Common.{rules}
use Rattle.layer_model.proofs.ClassPart.{found_at}
use Rattle.layer_model.proofs.class_list.place_with.Goals as goal

pub returns-then-has_member-clause-class : goal.returns-then-has_member-clause-class
returns-then-has_member-clause-class c =
    found_at c.args.kind.n c.args.id c.args.classes.now c.index-classes-i.result c.loop-i.i (search rules) (search rules) (search rules) c.loop-i.invariant.found
