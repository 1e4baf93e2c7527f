use Rattle.std.proofs.Common.{◌≡◌, ◌++◌, drop, string_bytes}
use Rattle.token_columns.specs.WriteRuns.{text_from}
use Rattle.token_columns.proofs.columns.column_text.Given as goal

abbrev pub invariant-loop-place : goal.invariant-loop-place
invariant-loop-place l = string_bytes l.out ++ text_from l.conf l.doc l.left (drop l.place l.tokens) ≡ text_from l.conf l.doc l.runs l.tokens
