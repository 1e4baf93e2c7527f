use Rattle.std.proofs.Common.{arith}
use Rattle.layer_core.proofs.DeskLemmas.{greatest_low}
use Rattle.layer_core.proofs.new_numbers.new_number.Goals as goal

pub overflow_add-result : goal.overflow_add-result
overflow_add-result c = omega (arith, greatest_low c.args.layer.now c.keeps.ensures c.args.kind c.in-Some.number c.in-Some.ensures)
