-- How many annotators a project has.
use Rattle.std.proofs.Common.{◌≡◌, ℕ, ◌≤◌, List, length, map, not, arith}
use Rattle.std.specs.List.{filter}
use Rattle.std.specs.Prelude.{count_by}
use Rattle.std.proofs.lemmas.List.{length-map}
use Rattle.std.proofs.lemmas.List.Sums.{length-filter}
use Rattle.entry_bytes.specs.declared.person.Person.{Person}
use Rattle.project_machine.specs.ProjectState.{ProjectState, annotators}
use Rattle.project_machine.specs.Legal.{IsKept}

pub annotators_few : (s : ProjectState) → IsKept s → length (annotators s) ≤ 16
annotators_few s k =
    let few : count_by (λ (person : Person). not person.curator) s.people ≤ 16 = k.founding.roster.sorts.few_annotators in
    let size : length (annotators s) ≡ length (filter (λ (person : Person). not person.curator) s.people) = length-map (filter (λ (person : Person). not person.curator) s.people) (λ (person : Person). person.name) in
    let count : length (filter (λ (person : Person). not person.curator) s.people) ≡ count_by (λ (person : Person). not person.curator) s.people = length-filter (λ (person : Person). not person.curator) s.people in
    omega arith
