use Rattle.std.proofs.Common.{rules, length}
use Rattle.layer_rules.proofs.LawLemmas.{unflawed_is_well_formed}
use Rattle.layer_rules.proofs.layer_check.check.Goals as goal

pub returns-in-None-clause-well_formed : goal.returns-in-None-clause-well_formed
returns-in-None-clause-well_formed c = unflawed_is_well_formed c.args.conf.now (length c.args.doc.now) c.args.layer.now (search rules)
