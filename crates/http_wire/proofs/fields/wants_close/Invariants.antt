use Rattle.std.proofs.Common.{◌≡◌, drop, map}
use Rattle.httparse.specs.Spans.{header_bytes}
use Rattle.http_wire.specs.Fields.{asks_to_close}
use Rattle.http_wire.proofs.fields.wants_close.Given as goal

abbrev pub invariant-loop-field : goal.invariant-loop-field
invariant-loop-field l = asks_to_close (map (header_bytes l.buf) (drop l.field-index l.fields)) ≡ asks_to_close (map (header_bytes l.buf) l.fields)
