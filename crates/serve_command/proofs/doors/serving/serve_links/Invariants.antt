use Rattle.project_machine.specs.Legal.{IsLegal}
use Rattle.serve_command.specs.Doors.Workers.{Continues}
use Rattle.serve_command.proofs.doors.serving.serve_links.Given as goal

abbrev pub invariant-loop : goal.invariant-loop
invariant-loop g l = record {
  continues : Continues (g.V.Visitor.visiting l.initial.visitor) (g.V.Visitor.visiting l.visitor);
  legal : IsLegal (g.V.Visitor.visiting l.visitor).seen;
}
