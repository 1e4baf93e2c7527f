use Rattle.std.proofs.Common.{◌≡◌, bytes_eq, drop}
use Rattle.annotation_conf.proofs.line_parts.spells.Given as goal

abbrev pub invariant-loop-place : goal.invariant-loop-place
invariant-loop-place l = bytes_eq l.characters l.bytes ≡ bytes_eq (drop l.place l.characters) (drop l.place l.bytes)
