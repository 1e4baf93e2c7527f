use Rattle.std.specs.FinMap as finite
use Rattle.std.specs.List.{AllByRecursion}
use Rattle.ann_writer.specs.Writable.{NormalTexts}
use Rattle.command_bytes.proofs.command_values.normals_are.Given as goal

abbrev pub invariant-loop-number : goal.invariant-loop-number
invariant-loop-number l = AllByRecursion (λ entry. NormalTexts entry.1) l.number-iterator → AllByRecursion (λ entry. NormalTexts entry.1) (finite.entries l.layer.normals)
