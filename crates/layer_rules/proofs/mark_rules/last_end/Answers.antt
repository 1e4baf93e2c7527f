use Rattle.layer_rules.proofs.RecordLemmas.{last_end_is}
use Rattle.layer_rules.proofs.mark_rules.last_end.Goals as goal

pub returns-in-Some : goal.returns-in-Some
returns-in-Some c = last_end_is c.args.frags.now c.in-Some.last.now c.in-Some.ensures.value
