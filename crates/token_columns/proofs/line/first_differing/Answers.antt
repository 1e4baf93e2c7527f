use Rattle.std.proofs.Common.{◌≤◌, length, chars, ap, arith}
use Rattle.token_columns.proofs.TextLemmas.{text_scalars, token_short}
use Rattle.token_columns.proofs.line.first_differing.Goals as goal

pub overflow_cast-result : goal.overflow_cast-result
overflow_cast-result c =
    let few : length (chars c.args.text.now) ≤ length c.args.doc.now =
    token_short c.args.doc.now c.args.text.now c.args.token (text_scalars c.text-text.result.now c.args.doc.now c.text-text.utf8 c.text-text.ensures.characters) c.requires in
    omega (arith, few, c.common_len.ensures.within, ap length c.deref-2.ensures.value, ap length c.in_ok-text.ensures, c.char_count-few.ensures.bound)
