use Rattle.std.proofs.Common.{inr}
use Rattle.project_commands.proofs.showing.show_curated.Goals as goal

pub returns-clause-told : goal.returns-clause-told
returns-clause-told g c =
    inr (record { log = c.in_ok-project.project.log; opened = c.in_ok-project.ensures.opened; told = c.in-Err.ensures.refused })
