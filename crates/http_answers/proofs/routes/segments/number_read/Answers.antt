use Rattle.std.proofs.Common.{arith}
use Rattle.http_answers.proofs.RoutesProofs.DigitLemmas.{digits_fit}
use Rattle.http_answers.proofs.routes.segments.number_read.Goals as goal

pub overflow_mul-number : goal.overflow_mul-number
overflow_mul-number c = omega (arith, digits_fit c.loop-digit.number c.loop-digit.digit-index c.loop-digit.invariant.bound (omega arith))

pub overflow_add-number : goal.overflow_add-number
overflow_add-number c = omega (arith, digits_fit c.loop-digit.number c.loop-digit.digit-index c.loop-digit.invariant.bound (omega arith), c.is_ascii_digit.ensures, c.from.ensures)
