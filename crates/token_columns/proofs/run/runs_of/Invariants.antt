use Rattle.std.proofs.Common.{◌≡◌, ◌++◌, drop, map}
use Rattle.token_columns.proofs.run.runs_of.Given as goal

abbrev pub invariant-loop-span : goal.invariant-loop-span
invariant-loop-span l = l.runs.items ++ map (λ span. span.run) (drop l.span-index l.spans) ≡ map (λ span. span.run) l.spans
