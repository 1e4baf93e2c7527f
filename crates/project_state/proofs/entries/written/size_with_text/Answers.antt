use Rattle.std.proofs.Common.{◌≡◌, ◌+◌, length, ap, ◌∙◌, sym, arith}
use Rattle.entry_bytes.specs.Entries.{entry_bytes}
use Rattle.project_state.specs.Entries.Writing.{without_text, text_in}
use Rattle.project_state.proofs.EntriesProofs.SizeLemmas.{size_parts}
use Rattle.project_state.proofs.entries.written.size_with_text.Goals as goal

pub returns-in-Some : goal.returns-in-Some
returns-in-Some c =
    let front : length c.items.result.now ≡ length (entry_bytes (without_text c.args.entry.now)) =
    ap length (c.items.ensures ∙ c.in_ok-front.ensures.bytes) ∙ ap (λ e. length (entry_bytes e)) c.in_ok-bare.ensures in
    let text = c.text_length.ensures in
    c.in-Some.ensures.1 ∙ (ap (λ n. n + c.text_length.result) front ∙ ap (λ n. length (entry_bytes (without_text c.args.entry.now)) + n) text)
    ∙ sym (size_parts c.args.entry.now c.requires.some)
