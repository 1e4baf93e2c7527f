use Rattle.std.proofs.Common.{◌≡◌, drop, false}
use Rattle.http_wire.specs.NextMessage.{empty_lines_after}
use Rattle.http_wire.proofs.empty_lines.is_empty_lines.Given as goal

abbrev pub invariant-loop-byte : goal.invariant-loop-byte
invariant-loop-byte l = empty_lines_after l.after_return (drop l.byte-index l.bytes) ≡ empty_lines_after false l.bytes
