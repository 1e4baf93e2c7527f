use Rattle.std.proofs.Common.{sym, ◌∙◌}
use Rattle.layer_core.proofs.BackStepLemmas.{member_leads, same_leads}
use Rattle.layer_core.proofs.outcome.member_back.Goals as goal

pub returns-in-Some : goal.returns-in-Some
returns-in-Some c = λ layer all is. member_leads layer c.args.kind c.args.id c.in-Some.beside all (sym c.in-Some.is ∙ is)

pub returns-in-None : goal.returns-in-None
returns-in-None c = λ layer all is. same_leads layer c.args.kind c.args.id (sym c.in-None.is ∙ is)
