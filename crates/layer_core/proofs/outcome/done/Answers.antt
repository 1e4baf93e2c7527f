use Rattle.std.proofs.Common.{length}
use Rattle.layer_core.proofs.outcome.done.Goals as goal

pub returns-in-Nothing-clause-outcome : goal.returns-in-Nothing-clause-outcome
returns-in-Nothing-clause-outcome c = rw c.in-Nothing.is (c.stay.ensures c.args.conf.now (length c.args.doc.now) c.args.layer.now)
