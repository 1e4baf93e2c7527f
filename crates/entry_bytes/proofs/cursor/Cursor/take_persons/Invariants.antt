use Rattle.std.proofs.Common.{◌≡◌, ◌-◌}
use Rattle.entry_bytes.specs.Reading.{people_on}
use Rattle.entry_bytes.proofs.PeopleLoop.{with_front}
use Rattle.entry_bytes.proofs.cursor.Cursor.take_persons.Given as goal

abbrev pub invariant-loop : goal.invariant-loop
invariant-loop l = with_front l.people.items (people_on (l.count - l.counter) l.self) ≡ people_on l.count l.initial.self
