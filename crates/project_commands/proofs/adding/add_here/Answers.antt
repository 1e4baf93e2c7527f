use Rattle.std.proofs.Common.{inr}
use Rattle.project_commands.proofs.adding.add_here.Goals as goal

pub returns-in-Err-clause-refused : goal.returns-in-Err-clause-refused
returns-in-Err-clause-refused g c = inr (record { text = c.in_ok-text.text; text_is = c.in_ok-text.ensures.ok; refused = c.in-Err.ensures.refused })
