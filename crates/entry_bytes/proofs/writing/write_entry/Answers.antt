use Rattle.std.proofs.Common.{◌≡◌, ℕ, List, ◌++◌, ap, ◌∙◌}
use Rattle.entry_bytes.specs.Entries.{entry_bytes}
use Rattle.entry_bytes.specs.EntryReading.{entry_of}
use Rattle.entry_bytes.proofs.EntryLaws.{is_read}
use Rattle.entry_bytes.proofs.writing.write_entry.Goals as goal

pub returns-clause-decodes : goal.returns-clause-decodes
returns-clause-decodes c = λ named.
    let same : c.from_vec.result ≡ entry_bytes c.args.entry.now =
    c.from_vec.ensures ∙ c.in_ok-put_entry.ensures.bytes ∙ ap (λ (l : List ℕ). l ++ entry_bytes c.args.entry.now) c.new-out.ensures.items in
    ap entry_of same ∙ is_read c.args.entry.now (c.in_ok-put_entry.ensures.is named)
