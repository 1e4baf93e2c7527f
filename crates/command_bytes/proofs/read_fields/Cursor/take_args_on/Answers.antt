use Rattle.std.proofs.Common.{◌≡◌, ◌++◌, ◌∷◌, [], Some, None}
use Rattle.command_bytes.specs.CommandReading.{arg_at, list_on}
use Rattle.command_bytes.proofs.ListLemmas.{goes_on, ends, is_done}
use Rattle.command_bytes.proofs.read_fields.Cursor.take_args_on.Goals as goal

pub returns-in-None : goal.returns-in-None
returns-in-None c =
    let none : arg_at c.loop.self ≡ None = rw c.in-None.is at c.in_ok-arg.ensures in
    ends arg_at c.loop.args.items c.args.count c.loop.counter c.loop.self (list_on arg_at c.args.count c.args.self.now) c.loop-test.true none c.loop.invariant

pub loop-preserved : goal.loop-preserved
loop-preserved c =
    let p = c.in-Some.arg in
    let some : arg_at c.loop.self ≡ Some (p, c.take_arg.new.self) = rw c.in-Some.is at c.in_ok-arg.ensures in
    let e : c.push.new.self.items ≡ c.loop.args.items ++ p ∷ [] = c.in_ok-push-in-Some.ensures.items in
    rw e (goes_on arg_at c.loop.args.items c.args.count c.loop.counter c.loop.self p c.take_arg.new.self (list_on arg_at c.args.count c.args.self.now) c.loop-test.true some c.loop.invariant)

pub returns : goal.returns
returns c = is_done arg_at c.loop.args.items c.args.count c.loop.counter c.loop.self (list_on arg_at c.args.count c.args.self.now) c.loop-test.false c.loop.invariant
