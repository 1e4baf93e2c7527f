use Rattle.std.proofs.Common.{subst}
use Rattle.layer_model.specs.Annotations.{Annotations}
use Rattle.project_machine.specs.Requests.{Commit}
use Rattle.project_commands.specs.Commands.Requests.{RefusesTo}
use Rattle.project_commands.proofs.importing.commit.Goals as goal

pub returns-in-Err-clause-refused : goal.returns-in-Err-clause-refused
returns-in-Err-clause-refused g c =
    let held = c.args.held.now in
    subst (λ (layer : Annotations). RefusesTo c.args.project.now.log held.who (Commit held.doc held.hold layer) c.in-Err.why) c.in_ok-layer.ensures c.in-Err.ensures.refused
