use Rattle.serve_command.proofs.ServingProofs.EndLemmas.{ends_behind}
use Rattle.serve_command.proofs.serving.serving.serve_project.Goals as goal

pub returns-clause-ends : goal.returns-clause-ends
returns-clause-ends g c = ends_behind _ _ _ _ _ _ _ _ c.serve_named-door.result.1 c.serve_named-door.ensures.ends c.serve_named-door.ensures.door c.in-Ok.ensures.cause.still c.give_back-2.ensures.cause
