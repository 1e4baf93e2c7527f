use Rattle.std.proofs.Common.{◌≡◌, ◌<◌, length, ap, sym, ◌∙◌, arith}
use Rattle.entry_bytes.specs.Entries.{entry_bytes}
use Rattle.project_state.specs.declared.entries.written.Written.TheVariants as written
use Rattle.project_state.proofs.EntriesProofs.SizeLemmas.{size_parts, too_long}
use Rattle.project_state.proofs.entries.written.entry_written.Goals as goal

pub returns-then-text_length-gt-LONGEST : goal.returns-then-text_length-gt-LONGEST
returns-then-text_length-gt-LONGEST c =
    let test = c.if-text_length-gt-LONGEST.true in
    let text = c.text_length.ensures in
    let parts = size_parts c.args.entry.now (omega arith) in
    let long : 16777216 < length (entry_bytes c.args.entry.now) = omega arith in
    ap written.TooLong c.in_ok-size_with_text.ensures ∙ sym (too_long (entry_bytes c.args.entry.now) long)
