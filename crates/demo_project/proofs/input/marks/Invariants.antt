use Rattle.std.proofs.Common.{◌≡◌, ◌++◌}
use Rattle.demo_project.specs.Joined.{joined}
use Rattle.demo_project.specs.Requests.{bytes_of, mark}
use Rattle.demo_project.proofs.input.marks.Given as goal

abbrev pub invariant-loop-word : goal.invariant-loop-word
invariant-loop-word l = l.input.items ≡ l.initial.input.items ++ bytes_of (joined (mark l.number l.rater) l.word)
