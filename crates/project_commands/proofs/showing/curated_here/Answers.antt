use Rattle.std.proofs.Common.{List, ℕ, subst}
use Rattle.project_machine.specs.Requests.{TakeSnapshot}
use Rattle.project_commands.specs.Commands.Requests.{RefusesTo}
use Rattle.project_commands.proofs.showing.curated_here.Goals as goal

pub returns-clause-refused : goal.returns-clause-refused
returns-clause-refused g c =
    subst (λ (caller : List ℕ). RefusesTo c.args.project.now.log caller (TakeSnapshot c.args.number) c.in-Err.why) c.in_ok-caller.ensures.first c.in-Err.ensures.refused
