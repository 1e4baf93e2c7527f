use Rattle.std.proofs.Common.{arith, sym}
use Rattle.std.proofs.lemmas.List.{length-take-le, take_all}
use Rattle.http_wire.proofs.head.front.Goals as goal

pub slice_bounds-result-end : goal.slice_bounds-result-end
slice_bounds-result-end c = sym (length-take-le 16384 c.args.buf.now (omega arith))

pub returns-else-buf-gt-LONGEST_HEAD : goal.returns-else-buf-gt-LONGEST_HEAD
returns-else-buf-gt-LONGEST_HEAD c = sym (take_all 16384 c.args.buf.now c.if-buf-gt-LONGEST_HEAD.false)
