use Rattle.std.proofs.Common.{◌<◌, get_or, length, arith}
use Rattle.token_columns.proofs.TextLemmas.{cut_back}
use Rattle.token_columns.proofs.line.name_of.Goals as goal

pub range_from-requires : goal.range_from-requires
range_from-requires c = λ _.
    let within : 1 < length c.args.field.now = omega (arith, c.requires.long) in
    let ascii : get_or c.args.field.now 1 0 < 128 = omega (arith, c.requires.hyphen) in
    cut_back c.args.field.now 1 c.utf8.field within ascii
