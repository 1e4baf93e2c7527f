use Rattle.std.proofs.Common.{◌≤◌, length, arith}
use Rattle.entry_bytes.specs.declared.entry.Entry.TheVariants as entry
use Rattle.entry_bytes.specs.Entries.{entry_bytes}
use Rattle.checkpoint.proofs.SizeLemmas.{held_size}
use Rattle.checkpoint.proofs.shot_pieces.held_taken.Goals as goal

pub layer_of-requires : goal.layer_of-requires
layer_of-requires c =
    let short : length (entry_bytes (entry.HeldLayer c.args.who.now c.args.lines.now)) ≤ 16777216 = c.held_fits.ensures.short c.if-not-held_fits.false in
    omega (arith, short, held_size c.args.who.now c.args.lines.now)
