use Rattle.std.proofs.Common.{◌≡◌, drop, find}
use Rattle.token_columns.specs.WriteRuns.{meets_lower}
use Rattle.token_columns.proofs.write_faults.met.Given as goal

abbrev pub invariant-loop-span : goal.invariant-loop-span
invariant-loop-span l = find (meets_lower l.spans) (drop l.span-index l.spans) ≡ find (meets_lower l.spans) l.spans
