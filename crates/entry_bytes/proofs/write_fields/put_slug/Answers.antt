use Rattle.std.proofs.Common.{◌<◌, length, arith}
use Rattle.entry_bytes.proofs.SlugLemmas.{slug_size}
use Rattle.entry_bytes.proofs.write_fields.put_slug.Goals as goal

pub overflow_cast-text : goal.overflow_cast-text
overflow_cast-text c =
    let size : length c.text-text.result.now < 256 = slug_size c.text-text.result.now c.text-text.utf8 (rw c.text-text.ensures.value c.text-text.ensures.spelling) in
    omega arith
