use Rattle.std.proofs.Common.{◌≡◌, ◌==◌, drop, find, not}
use Rattle.token_columns.proofs.write_faults.fragmented.Given as goal

abbrev pub invariant-loop-span : goal.invariant-loop-span
invariant-loop-span l = find (λ span. not (span.pieces == 1)) (drop l.span-index l.spans) ≡ find (λ span. not (span.pieces == 1)) l.spans
