use Rattle.std.proofs.Common.{refl, inr, rules}
use Rattle.program_inputs.specs.declared.trouble.Trouble.TheVariants.{Memory}
use Rattle.program_inputs.proofs.complaint.complain.Goals as goal

pub returns-clause-told : goal.returns-clause-told
returns-clause-told g c = inr (search rules, c.say-in-Err.ensures.said Memory c.args.verifies refl refl)
