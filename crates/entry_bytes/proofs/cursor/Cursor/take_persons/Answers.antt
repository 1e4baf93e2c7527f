use Rattle.std.proofs.Common.{◌≡◌, ◌++◌, ◌∷◌, [], Some, None}
use Rattle.entry_bytes.specs.Reading.{person_at, people_on}
use Rattle.entry_bytes.proofs.PeopleLoop.{goes_on, ends, is_done}
use Rattle.entry_bytes.proofs.cursor.Cursor.take_persons.Goals as goal

pub returns-in-None : goal.returns-in-None
returns-in-None c =
    let none : person_at c.loop.self ≡ None = rw c.in-None.is at c.in_ok-person.ensures in
    ends c.loop.people.items c.args.count c.loop.counter c.loop.self (people_on c.args.count c.args.self.now) c.loop-test.true none c.loop.invariant

pub loop-preserved : goal.loop-preserved
loop-preserved c =
    let p = c.in-Some.person in
    let some : person_at c.loop.self ≡ Some (p, c.take_person.new.self) = rw c.in-Some.is at c.in_ok-person.ensures in
    let e : c.push.new.self.items ≡ c.loop.people.items ++ p ∷ [] = c.in_ok-push-in-Some.ensures.items in
    rw e (goes_on c.loop.people.items c.args.count c.loop.counter c.loop.self p c.take_person.new.self (people_on c.args.count c.args.self.now) c.loop-test.true some c.loop.invariant)

pub returns : goal.returns
returns c = is_done c.loop.people.items c.args.count c.loop.counter c.loop.self (people_on c.args.count c.args.self.now) c.loop-test.false c.loop.invariant
