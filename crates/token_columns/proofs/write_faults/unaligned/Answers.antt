use Rattle.std.proofs.Common.{◌≡◌, ◌∙◌, Bool, Some, true, false, not, sym, ap, slice_index_or, option_map}
use Rattle.char_documents.specs.Tokens.{tokens_of}
use Rattle.token_columns.specs.declared.run.Placed.{Placed}
use Rattle.token_columns.specs.Fits.{is_aligned}
use Rattle.token_columns.specs.WriteFaults.{span_id}
use Rattle.token_columns.specs.declared.column_fault.ColumnOut.TheVariants.{Unaligned}
use Rattle.token_columns.proofs.PlaceLemmas.{aligned_by, find_here, find_past, token_ends, token_starts}
use Rattle.token_columns.proofs.write_faults.unaligned.Goals as goal

pub is_aligned-requires-clause-starts : goal.is_aligned-requires-clause-starts
is_aligned-requires-clause-starts c =
    token_starts c.args.doc.now c.deref.result.now c.tokens-tokens.result.now c.tokens-tokens.ensures (c.deref.ensures.value ∙ c.in_ok-starts.ensures)

pub is_aligned-requires-clause-ends : goal.is_aligned-requires-clause-ends
is_aligned-requires-clause-ends c =
    token_ends c.args.doc.now c.deref-in-loop-span.result.now c.tokens-tokens.result.now c.tokens-tokens.ensures (c.deref-in-loop-span.ensures.value ∙ c.in_ok-ends.ensures)

pub returns-then-not-is_aligned : goal.returns-then-not-is_aligned
returns-then-not-is_aligned c =
    let d : Placed = record { number = 0; pieces = 0; run = record { kind = record { n = 0 }; start = 0; end = 0 } } in
    let span : Placed = slice_index_or c.args.spans.now c.loop-span.span-index d in
    let p : Placed → Bool = λ s. not (is_aligned (tokens_of c.args.doc.now) s.run) in
    let aligned : c.is_aligned.result ≡ is_aligned (tokens_of c.args.doc.now) span.run =
    aligned_by c.args.doc.now c.deref.result.now c.deref-in-loop-span.result.now c.tokens-tokens.result.now span.run c.is_aligned.result
    c.tokens-tokens.ensures (c.deref.ensures.value ∙ c.in_ok-starts.ensures) (c.deref-in-loop-span.ensures.value ∙ c.in_ok-ends.ensures) c.is_aligned.ensures in
    let apart : is_aligned (tokens_of c.args.doc.now) span.run ≡ false = sym aligned ∙ c.if-not-is_aligned.true in
    ap (λ id. Some (Unaligned id)) c.span_id.ensures
    ∙ sym (ap (option_map (λ s. Unaligned (span_id s))) (sym c.loop-span.invariant ∙ find_here p c.args.spans.now c.loop-span.span-index d c.loop-span-test.true (ap not apart)))

pub loop-span-preserved : goal.loop-span-preserved
loop-span-preserved c =
    let d : Placed = record { number = 0; pieces = 0; run = record { kind = record { n = 0 }; start = 0; end = 0 } } in
    let span : Placed = slice_index_or c.args.spans.now c.loop-span.span-index d in
    let p : Placed → Bool = λ s. not (is_aligned (tokens_of c.args.doc.now) s.run) in
    let aligned : c.is_aligned.result ≡ is_aligned (tokens_of c.args.doc.now) span.run =
    aligned_by c.args.doc.now c.deref.result.now c.deref-in-loop-span.result.now c.tokens-tokens.result.now span.run c.is_aligned.result
    c.tokens-tokens.ensures (c.deref.ensures.value ∙ c.in_ok-starts.ensures) (c.deref-in-loop-span.ensures.value ∙ c.in_ok-ends.ensures) c.is_aligned.ensures in
    let within : is_aligned (tokens_of c.args.doc.now) span.run ≡ true = sym aligned ∙ c.if-not-is_aligned.false in
    find_past p c.args.spans.now c.loop-span.span-index d c.loop-span-test.true (ap not within) ∙ c.loop-span.invariant
