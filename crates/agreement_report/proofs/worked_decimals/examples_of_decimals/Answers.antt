-- Each text is computed.
use Rattle.std.proofs.Common.{refl}
use Rattle.std.specs.Fmt.{digits}
use Rattle.agreement_report.proofs.worked_decimals.examples_of_decimals.Goals as goal

pub returns-clause-cut : goal.returns-clause-cut
unfolding digits
returns-clause-cut c = refl

pub returns-clause-one : goal.returns-clause-one
unfolding digits
returns-clause-one c = refl

pub returns-clause-nothing : goal.returns-clause-nothing
unfolding digits
returns-clause-nothing c = refl

pub returns-clause-least_minus : goal.returns-clause-least_minus
unfolding digits
returns-clause-least_minus c = refl

pub returns-clause-no_minus : goal.returns-clause-no_minus
unfolding digits
returns-clause-no_minus c = refl

pub returns-clause-below_minus_one : goal.returns-clause-below_minus_one
unfolding digits
returns-clause-below_minus_one c = refl

pub returns-clause-two_digits : goal.returns-clause-two_digits
unfolding digits
returns-clause-two_digits c = refl

pub returns-clause-below_one : goal.returns-clause-below_one
unfolding digits
returns-clause-below_one c = refl

pub returns-clause-above_minus_one : goal.returns-clause-above_minus_one
unfolding digits
returns-clause-above_minus_one c = refl

pub returns-clause-greatest : goal.returns-clause-greatest
unfolding digits
returns-clause-greatest c = refl

pub returns-clause-least : goal.returns-clause-least
unfolding digits
returns-clause-least c = refl

pub returns-clause-smallest : goal.returns-clause-smallest
unfolding digits
returns-clause-smallest c = refl
