use Rattle.std.proofs.Common.{refl}
use Rattle.httparse.specs.Grammar.{trim_ows}
use Rattle.http_wire.proofs.examples.examples_of_fields.Goals as goal

pub returns-clause-close : goal.returns-clause-close
unfolding trim_ows
returns-clause-close c = refl

pub returns-clause-closed : goal.returns-clause-closed
unfolding trim_ows
returns-clause-closed c = refl
