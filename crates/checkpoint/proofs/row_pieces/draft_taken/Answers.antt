use Rattle.std.proofs.Common.{◌≤◌, length, arith}
use Rattle.entry_bytes.specs.declared.entry.Entry.TheVariants as entry
use Rattle.entry_bytes.specs.Entries.{entry_bytes}
use Rattle.checkpoint.proofs.SizeLemmas.{draft_size}
use Rattle.checkpoint.proofs.row_pieces.draft_taken.Goals as goal

pub parked_on-requires : goal.parked_on-requires
parked_on-requires c =
    let short : length (entry_bytes (entry.Draft c.args.commands.now)) ≤ 16777216 = c.draft_fits.ensures.short c.if-not-draft_fits.false in
    omega (arith, short, draft_size c.args.commands.now)
