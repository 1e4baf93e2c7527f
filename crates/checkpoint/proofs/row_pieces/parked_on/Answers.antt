use Rattle.std.specs.Arc.{arc_value}
use Rattle.checkpoint.specs.Reading.{AreParked}
use Rattle.checkpoint.proofs.ParkedLemmas.{parked_again}
use Rattle.checkpoint.proofs.row_pieces.parked_on.Goals as goal

pub returns-then-not-are_some-clause-none : goal.returns-then-not-are_some-clause-none
returns-then-not-are_some-clause-none c = λ done undone p.
    let q : AreParked (arc_value c.args.conf.now) (arc_value c.args.text.now) c.args.layer.now c.args.commands.now c.in-Some.scripts.done c.in-Some.scripts.undone =
    parked_again c.accepted_scripts_can_be_written.ensures (arc_value c.args.conf.now) c.deref-2.result.now (arc_value c.args.text.now) c.deref.result.now c.args.layer.now c.args.commands.now c.in_ok-scripts.field-0 c.in-Some.scripts c.deref-2.ensures c.deref.ensures c.in-Some.is c.requires c.in_ok-scripts.ensures.told done undone p in
    c.are_some.ensures.other c.if-not-are_some.true q.some q.typed

pub returns-else-branch-clause-none : goal.returns-else-branch-clause-none
returns-else-branch-clause-none c = λ done undone p.
    let q : AreParked (arc_value c.args.conf.now) (arc_value c.args.text.now) c.args.layer.now c.args.commands.now c.in-Some.scripts.done c.in-Some.scripts.undone =
    parked_again c.accepted_scripts_can_be_written.ensures (arc_value c.args.conf.now) c.deref-2.result.now (arc_value c.args.text.now) c.deref.result.now c.args.layer.now c.args.commands.now c.in_ok-scripts.field-0 c.in-Some.scripts c.deref-2.ensures c.deref.ensures c.in-Some.is c.requires c.in_ok-scripts.ensures.told done undone p in
    c.in_ok-are_accepted.ensures.refused c.if-branch.false q.based q.accepted
