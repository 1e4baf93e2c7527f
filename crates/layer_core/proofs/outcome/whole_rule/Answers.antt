use Rattle.std.proofs.Common.{length}
use Rattle.layer_core.proofs.outcome.whole_rule.Goals as goal

pub returns-in-Err : goal.returns-in-Err
returns-in-Err c = c.fault_rule.ensures c.args.conf.now (length c.args.doc.now) c.args.made.now c.in-Err.ensures.flaw
