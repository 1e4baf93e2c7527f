use Rattle.project_machine.specs.Legal.{IsLegal}
use Rattle.project_cases.proofs.links.served.serve_all.Given as goal

abbrev pub invariant-loop-number : goal.invariant-loop-number
invariant-loop-number g l = record {
  legal : IsLegal (g.V.Visitor.visiting l.visitor).seen;
}
