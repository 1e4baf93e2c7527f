use Rattle.std.proofs.Common.{◌≡◌, ◌++◌}
use Rattle.demo_project.specs.Joined.{joined}
use Rattle.demo_project.specs.Requests.{bytes_of, on_doc}
use Rattle.demo_project.proofs.input.all_docs.Given as goal

abbrev pub invariant-loop-doc : goal.invariant-loop-doc
invariant-loop-doc l = l.input.items ≡ l.initial.input.items ++ bytes_of (joined (on_doc l.number) l.doc)
