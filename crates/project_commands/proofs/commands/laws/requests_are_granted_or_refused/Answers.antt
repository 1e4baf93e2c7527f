use Rattle.project_commands.proofs.CommandsProofs.ReplyLemmas.{step_replies, step_stays}
use Rattle.project_commands.proofs.commands.laws.requests_are_granted_or_refused.Goals as goal

pub returns-clause-answers : goal.returns-clause-answers
returns-clause-answers c = step_replies

pub returns-clause-stays : goal.returns-clause-stays
returns-clause-stays c = step_stays
