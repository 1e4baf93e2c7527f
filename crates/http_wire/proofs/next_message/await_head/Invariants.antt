use Rattle.std.proofs.Common.{◌≡◌, ◌-◌, ◌≤◌, length}
use Rattle.std.specs.Io.KnownBytes.{Keeps, prepend_known}
use Rattle.mark_base.specs.Streams.{OnlyReads}
use Rattle.http_wire.specs.NextMessage.{HoldsHead, ReadsNothing}
use Rattle.http_wire.proofs.next_message.await_head.Given as goal

abbrev pub invariant-loop-head : goal.invariant-loop-head
invariant-loop-head g l = record {
  same : Keeps (prepend_known l.fn.held.items (g.L.Source.left l.fn.link)) (prepend_known l.held.items (g.L.Source.left l.link));
  bound : length l.held.items ≤ 4214784;
  reads : g.L.Source.read_faults l.link ≡ g.L.Source.read_faults l.fn.link;
  first : HoldsHead l.fn.held.items → ReadsNothing l.fn.link l.link l.fn.held.items l.held.items;
  apart : OnlyReads g.L.Sink.held g.L.Sink.write_faults g.L.Source.read_faults l.fn.link l.link;
}

abbrev pub decreases-loop-head : goal.decreases-loop-head
decreases-loop-head g l = 16384 - length l.held.items
