use Rattle.std.proofs.Common.{◌≡◌, ◌++◌, ◌∷◌, ℕ, ◌<◌, length, take, get_or}
use Rattle.std.specs.List.{flat_map}
use Rattle.entry_bytes.specs.declared.person.Person.{Person}
use Rattle.entry_bytes.specs.Fields.{person_bytes, IsSlug}
use Rattle.entry_bytes.proofs.write_fields.put_people.Given as goal

abbrev pub invariant-loop-person : goal.invariant-loop-person
invariant-loop-person l = record {
  bytes : l.out.items ≡ l.fn.out.items ++ (length l.persons ∷ flat_map person_bytes (take l.person-index l.persons));
  named : (k : ℕ) (d : Person) → k < l.person-index → IsSlug (get_or l.persons k d).name;
}
