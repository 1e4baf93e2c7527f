use Rattle.std.proofs.Common.{ℕ, ◌<◌, get_or}
use Rattle.entry_bytes.specs.declared.person.Person.{Person}
use Rattle.entry_bytes.specs.Fields.{IsSlug}
use Rattle.project_state.proofs.entries.founding.names_are_spelt.Given as goal

abbrev pub invariant-loop-person : goal.invariant-loop-person
invariant-loop-person l = (k : ℕ) (d : Person) → k < l.person-index → IsSlug (get_or l.people k d).name
