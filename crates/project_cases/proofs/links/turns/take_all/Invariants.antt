use Rattle.project_machine.specs.Legal.{IsLegal}
use Rattle.project_cases.proofs.links.turns.take_all.Given as goal

abbrev pub invariant-loop-line : goal.invariant-loop-line
invariant-loop-line g l = record {
  legal : IsLegal (g.V.Visitor.visiting l.visitor).seen;
}
