use Rattle.std.proofs.Common.{List, subst, arith}
use Rattle.std.specs.List.{AllByRecursion}
use Rattle.std.proofs.lemmas.List.Elements.{recursion_from_All}
use Rattle.entry_bytes.specs.declared.person.Person.{Person}
use Rattle.entry_bytes.specs.Fields.{IsSlug}
use Rattle.entry_bytes.proofs.write_fields.put_people.Goals as goal

pub returns-clause-are : goal.returns-clause-are
returns-clause-are c =
    let each = recursion_from_All (λ (person : Person). IsSlug person.name) c.items-persons.result.now (λ k d lt. c.loop-person.invariant.named k d (omega arith)) in
    record {
      count = c.requires;
      names = subst (λ (people : List Person). AllByRecursion (λ (person : Person). IsSlug person.name) people) c.items-persons.ensures each;
    }
