use Rattle.std.proofs.Common.{◌≡◌, drop, map}
use Rattle.std.specs.List.{list_any}
use Rattle.httparse.specs.Spans.{header_bytes}
use Rattle.http_wire.specs.Fields.{is_other_length}
use Rattle.http_wire.proofs.fields.any_other.Given as goal

abbrev pub invariant-loop-field : goal.invariant-loop-field
invariant-loop-field l = list_any (is_other_length l.number) (map (header_bytes l.buf) (drop l.field-index l.fields)) ≡ list_any (is_other_length l.number) (map (header_bytes l.buf) l.fields)
