use Rattle.std.proofs.Common.{◌≡◌, ◌-◌, ◌≤◌, length}
use Rattle.std.specs.Io.KnownBytes.{Keeps, prepend_known}
use Rattle.mark_base.specs.Streams.{OnlyReads}
use Rattle.http_wire.specs.NextMessage.{IsFrontOf}
use Rattle.http_wire.proofs.next_message.await_bytes.Given as goal

abbrev pub invariant-loop-held : goal.invariant-loop-held
invariant-loop-held g l = record {
  same : Keeps (prepend_known l.fn.held.items (g.L.Source.left l.fn.link)) (prepend_known l.held.items (g.L.Source.left l.link));
  bound : length l.held.items ≤ 4214784;
  front : IsFrontOf l.fn.held.items l.held.items;
  reads : g.L.Source.read_faults l.link ≡ g.L.Source.read_faults l.fn.link;
  apart : OnlyReads g.L.Sink.held g.L.Sink.write_faults g.L.Source.read_faults l.fn.link l.link;
}

abbrev pub decreases-loop-held : goal.decreases-loop-held
decreases-loop-held g l = l.count - length l.held.items
