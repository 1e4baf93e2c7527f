use Rattle.std.proofs.Common.{◌≡◌, ◌++◌, ◌∷◌, [], Some, None}
use Rattle.command_bytes.specs.CommandReading.{command_at, list_on}
use Rattle.command_bytes.proofs.ListLemmas.{goes_on, ends, is_done}
use Rattle.command_bytes.proofs.script_reading.take_commands.Goals as goal

pub returns-in-None : goal.returns-in-None
returns-in-None c =
    let each = command_at c.args.conf.now c.args.doc.now in
    let none : each c.loop.cursor ≡ None = rw c.in-None.is at c.in_ok-command.ensures in
    ends each c.loop.commands.items c.args.count c.loop.counter c.loop.cursor (list_on each c.args.count c.args.cursor.now) c.loop-test.true none c.loop.invariant

pub loop-preserved : goal.loop-preserved
loop-preserved c =
    let each = command_at c.args.conf.now c.args.doc.now in
    let p = c.in-Some.command in
    let some : each c.loop.cursor ≡ Some (p, c.take_command.new.cursor) = rw c.in-Some.is at c.in_ok-command.ensures in
    let e : c.push.new.self.items ≡ c.loop.commands.items ++ p ∷ [] = c.in_ok-push-in-Some.ensures.items in
    rw e (goes_on each c.loop.commands.items c.args.count c.loop.counter c.loop.cursor p c.take_command.new.cursor (list_on each c.args.count c.args.cursor.now) c.loop-test.true some c.loop.invariant)

pub returns : goal.returns
returns c =
    let each = command_at c.args.conf.now c.args.doc.now in
    is_done each c.loop.commands.items c.args.count c.loop.counter c.loop.cursor (list_on each c.args.count c.args.cursor.now) c.loop-test.false c.loop.invariant
