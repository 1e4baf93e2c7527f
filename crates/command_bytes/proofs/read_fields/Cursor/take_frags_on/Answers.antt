use Rattle.std.proofs.Common.{◌≡◌, ◌++◌, ◌∷◌, [], Some, None}
use Rattle.command_bytes.specs.CommandReading.{frag_at, list_on}
use Rattle.command_bytes.proofs.ListLemmas.{goes_on, ends, is_done}
use Rattle.command_bytes.proofs.read_fields.Cursor.take_frags_on.Goals as goal

pub returns-in-None : goal.returns-in-None
returns-in-None c =
    let none : frag_at c.loop.self ≡ None = rw c.in-None.is at c.take_frag.ensures in
    ends frag_at c.loop.frags.items c.args.count c.loop.counter c.loop.self (list_on frag_at c.args.count c.args.self.now) c.loop-test.true none c.loop.invariant

pub loop-preserved : goal.loop-preserved
loop-preserved c =
    let p = c.in-Some.frag in
    let some : frag_at c.loop.self ≡ Some (p, c.take_frag.new.self) = rw c.in-Some.is at c.take_frag.ensures in
    let e : c.push.new.self.items ≡ c.loop.frags.items ++ p ∷ [] = c.in_ok-push-in-Some.ensures.items in
    rw e (goes_on frag_at c.loop.frags.items c.args.count c.loop.counter c.loop.self p c.take_frag.new.self (list_on frag_at c.args.count c.args.self.now) c.loop-test.true some c.loop.invariant)

pub returns : goal.returns
returns c = is_done frag_at c.loop.frags.items c.args.count c.loop.counter c.loop.self (list_on frag_at c.args.count c.args.self.now) c.loop-test.false c.loop.invariant
