use Rattle.std.proofs.Common.{arith}
use Rattle.std.proofs.lemmas.List.Elements.{recursion_from_All}
use Rattle.entry_bytes.specs.declared.person.Person.{Person}
use Rattle.entry_bytes.specs.Fields.{IsSlug}
use Rattle.project_state.proofs.entries.founding.names_are_spelt.Goals as goal

pub returns : goal.returns
returns c = recursion_from_All (λ (person : Person). IsSlug person.name) c.args.people.now (λ k d lt. c.loop-person.invariant k d (omega arith))
