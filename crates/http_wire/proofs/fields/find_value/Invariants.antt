use Rattle.std.proofs.Common.{◌≡◌, drop, map}
use Rattle.httparse.specs.Spans.{header_bytes}
use Rattle.http_wire.specs.Fields.{first_value}
use Rattle.http_wire.proofs.fields.find_value.Given as goal

abbrev pub invariant-loop-field : goal.invariant-loop-field
invariant-loop-field l = first_value l.name (map (header_bytes l.buf) (drop l.field-index l.fields)) ≡ first_value l.name (map (header_bytes l.buf) l.fields)
