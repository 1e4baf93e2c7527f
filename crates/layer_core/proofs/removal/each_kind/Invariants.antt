use Rattle.std.proofs.Common.{◌≡◌, ◌++◌, drop, map}
use Rattle.layer_core.proofs.removal.each_kind.Given as goal

abbrev pub invariant-loop-class : goal.invariant-loop-class
invariant-loop-class l = l.kinds.items ++ map (λ class. class.kind.n) (drop l.class-index l.classes) ≡ map (λ class. class.kind.n) l.classes
