use Rattle.std.proofs.Common.{◌≡◌, drop, find, not}
use Rattle.char_documents.specs.Tokens.{tokens_of}
use Rattle.token_columns.specs.Fits.{is_aligned}
use Rattle.token_columns.proofs.write_faults.unaligned.Given as goal

abbrev pub invariant-loop-span : goal.invariant-loop-span
invariant-loop-span l = find (λ span. not (is_aligned (tokens_of l.doc) span.run)) (drop l.span-index l.spans) ≡ find (λ span. not (is_aligned (tokens_of l.doc) span.run)) l.spans
