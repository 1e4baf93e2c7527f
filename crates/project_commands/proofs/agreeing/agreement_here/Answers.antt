use Rattle.std.proofs.Common.{List, ℕ, inl, subst}
use Rattle.project_machine.specs.Requests.{ReadPairs}
use Rattle.project_commands.specs.Commands.Requests.{RefusesTo}
use Rattle.project_commands.proofs.agreeing.agreement_here.Goals as goal

pub returns-in-Err-clause-refused : goal.returns-in-Err-clause-refused
returns-in-Err-clause-refused g c =
    inl (subst (λ (caller : List ℕ). RefusesTo c.args.project.now.log caller ReadPairs c.in-Err.why) c.in_ok-caller.ensures.first c.in-Err.ensures.refused)
