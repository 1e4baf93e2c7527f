use Rattle.std.specs.FinMap as finite
use Rattle.std.specs.List.{AllByRecursion}
use Rattle.ann_writer.specs.Writable.{NoteTexts}
use Rattle.command_bytes.proofs.command_values.notes_are.Given as goal

abbrev pub invariant-loop-number : goal.invariant-loop-number
invariant-loop-number l = AllByRecursion (λ entry. NoteTexts entry.1) l.number-iterator → AllByRecursion (λ entry. NoteTexts entry.1) (finite.entries l.layer.notes)
