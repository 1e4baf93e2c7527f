use Rattle.std.proofs.Common.{◌≡◌, take}
use Rattle.layer_model.specs.Classes.{sharing}
use Rattle.layer_model.proofs.class_list.with_sharing.Given as goal

abbrev pub invariant-loop-class : goal.invariant-loop-class
invariant-loop-class l = l.all.items ≡ sharing l.kind.n l.sought (take l.class-index l.classes)
