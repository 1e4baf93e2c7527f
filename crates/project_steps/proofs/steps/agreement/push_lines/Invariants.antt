use Rattle.std.proofs.Common.{◌+◌, ◌≤◌}
use Rattle.project_steps.proofs.StepsProofs.AgreementLemmas.{LinesSoFar}
use Rattle.project_steps.proofs.steps.agreement.push_lines.Given as goal

abbrev pub invariant-loop-second : goal.invariant-loop-second
invariant-loop-second l = record {
  lines : LinesSoFar l.tables l.first l.fn.lines.items l.lines.items l.second;
  low : l.first + 1 ≤ l.second;
}
