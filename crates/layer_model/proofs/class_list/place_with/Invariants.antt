use Rattle.std.proofs.Common.{◌≡◌, ◌++◌, take, drop}
use Rattle.layer_model.specs.Classes.{class_with, other_classes}
use Rattle.layer_model.proofs.class_list.place_with.Given as goal

abbrev pub invariant-loop-i : goal.invariant-loop-i
invariant-loop-i l = record {
  found : class_with l.kind.n l.id l.classes ≡ class_with l.kind.n l.id (drop l.i l.classes);
  others : other_classes l.kind.n l.id l.classes ≡ take l.i l.classes ++ other_classes l.kind.n l.id (drop l.i l.classes);
}
