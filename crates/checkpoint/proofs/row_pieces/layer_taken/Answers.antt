use Rattle.std.proofs.Common.{◌≤◌, length, arith}
use Rattle.entry_bytes.specs.declared.entry.Entry.TheVariants as entry
use Rattle.entry_bytes.specs.Entries.{entry_bytes}
use Rattle.checkpoint.proofs.SizeLemmas.{commit_size}
use Rattle.checkpoint.proofs.row_pieces.layer_taken.Goals as goal

pub layer_of-requires : goal.layer_of-requires
layer_of-requires c =
    let short : length (entry_bytes (entry.Commit c.in-Row.row.who 0 0 c.args.lines.now)) ≤ 16777216 = c.commit_fits.ensures.short c.if-not-commit_fits.false in
    omega (arith, short, commit_size c.in-Row.row.who c.args.lines.now)
