use Rattle.project_book.proofs.FaultLemmas.{fault_behind}
use Rattle.project_book.proofs.ReplayLemmas.{bad_taken, replay_taken}
use Rattle.project_book.proofs.replaying.replay_rest.Goals as goal

pub returns-then-not-branch-clause-refused : goal.returns-then-not-branch-clause-refused
returns-then-not-branch-clause-refused g c =
    fault_behind c.args.entries.now c.loop-place.place c.loop-place.book.log c.loop-place.invariant
    (bad_taken c.args.entries.now c.loop-place.place c.loop-place.book.log c.take_up.new.self.log c.index-entries-place.result c.in_ok-take_up.field-0 c.loop-place-test.true c.index-entries-place.is c.loop-place.invariant c.in_ok-take_up.ensures c.if-not-branch.true)

pub loop-place-preserved : goal.loop-place-preserved
loop-place-preserved g c =
    replay_taken c.args.entries.now c.loop-place.place c.loop-place.book.log c.take_up.new.self.log c.index-entries-place.result c.in_ok-take_up.field-0 c.loop-place-test.true c.index-entries-place.is c.loop-place.invariant c.in_ok-take_up.ensures c.if-not-branch.false
