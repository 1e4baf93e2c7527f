use Rattle.std.proofs.Common.{◌≡◌, ◌++◌, drop, filter}
use Rattle.layer_model.specs.Classes.{shares}
use Rattle.layer_core.proofs.joined_classes.sharing_with.Given as goal

abbrev pub invariant-loop-class : goal.invariant-loop-class
invariant-loop-class l = l.found.items ++ filter (shares l.kind.n l.sought) (drop l.class-index l.classes) ≡ filter (shares l.kind.n l.sought) l.classes
