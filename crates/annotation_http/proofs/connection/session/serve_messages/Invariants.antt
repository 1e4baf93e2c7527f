use Rattle.std.proofs.Common.{◌≡◌, ◌≤◌, ◌+◌, false}
use Rattle.std.specs.Io.KnownBytes.{prepend_known}
use Rattle.project_machine.specs.Legal.{IsLegal}
use Rattle.annotation_http.specs.Exchanges.Connections.{connection_of}
use Rattle.annotation_http.specs.Connection.Steps.{serving}
use Rattle.annotation_http.specs.Connection.Session.{Served}
use Rattle.annotation_http.proofs.connection.session.serve_messages.Given as goal

abbrev pub invariant-loop-count : goal.invariant-loop-count
invariant-loop-count g l = record {
  served : Served (g.V.Visitor.faultless l.fn.visitor) (serving (connection_of l.fn.connection) (g.V.Visitor.visiting l.fn.visitor)) (serving (connection_of l.connection) (g.V.Visitor.visiting l.visitor)) (g.L.Source.left l.fn.link) (prepend_known l.inbox.held (g.L.Source.left l.link)) (g.L.Sink.held l.fn.link) (g.L.Sink.held l.link) l.count;
  going : l.inbox.stopped ≡ false;
  reads : g.L.Source.read_faults l.link ≡ g.L.Source.read_faults l.fn.link;
  writes : g.L.Sink.write_faults l.link ≡ g.L.Sink.write_faults l.fn.link;
  legal : IsLegal (g.V.Visitor.visiting l.visitor).seen;
  room : (g.V.Visitor.visiting l.fn.visitor).room ≤ (g.V.Visitor.visiting l.visitor).room + l.count;
  badge : (g.V.Visitor.visiting l.visitor).badge ≡ (g.V.Visitor.visiting l.fn.visitor).badge;
  stays : g.V.Visitor.faultless l.fn.visitor → g.V.Visitor.faultless l.visitor;
}
