use Rattle.std.proofs.Common.{◌≡◌, ◌++◌, take, drop}
use Rattle.layer_model.specs.Classes.{insert_class}
use Rattle.layer_model.proofs.class_list.place_of.Given as goal

abbrev pub invariant-loop-i : goal.invariant-loop-i
invariant-loop-i l = insert_class l.class l.classes ≡ take l.i l.classes ++ insert_class l.class (drop l.i l.classes)
