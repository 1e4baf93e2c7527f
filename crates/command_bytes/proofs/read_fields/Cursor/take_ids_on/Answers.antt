use Rattle.std.proofs.Common.{◌≡◌, ◌++◌, ◌∷◌, [], Some, None}
use Rattle.command_bytes.specs.CommandReading.{ann_id_at, list_on}
use Rattle.command_bytes.proofs.ListLemmas.{goes_on, ends, is_done}
use Rattle.command_bytes.proofs.read_fields.Cursor.take_ids_on.Goals as goal

pub returns-in-None : goal.returns-in-None
returns-in-None c =
    let none : ann_id_at c.loop.self ≡ None = rw c.in-None.is at c.take_id.ensures in
    ends ann_id_at c.loop.ids.items c.args.count c.loop.counter c.loop.self (list_on ann_id_at c.args.count c.args.self.now) c.loop-test.true none c.loop.invariant

pub loop-preserved : goal.loop-preserved
loop-preserved c =
    let p = c.in-Some.id in
    let some : ann_id_at c.loop.self ≡ Some (p, c.take_id.new.self) = rw c.in-Some.is at c.take_id.ensures in
    let e : c.push.new.self.items ≡ c.loop.ids.items ++ p ∷ [] = c.in_ok-push-in-Some.ensures.items in
    rw e (goes_on ann_id_at c.loop.ids.items c.args.count c.loop.counter c.loop.self p c.take_id.new.self (list_on ann_id_at c.args.count c.args.self.now) c.loop-test.true some c.loop.invariant)

pub returns : goal.returns
returns c = is_done ann_id_at c.loop.ids.items c.args.count c.loop.counter c.loop.self (list_on ann_id_at c.args.count c.args.self.now) c.loop-test.false c.loop.invariant
