use Rattle.std.proofs.Common.{◌≡◌, ◌++◌}
use Rattle.demo_project.specs.Joined.{joined}
use Rattle.demo_project.specs.Requests.{bytes_of, works}
use Rattle.demo_project.proofs.input.all_work.Given as goal

abbrev pub invariant-loop-rater : goal.invariant-loop-rater
invariant-loop-rater l = l.input.items ≡ l.initial.input.items ++ bytes_of (joined (works l.number l.doc) l.rater)
