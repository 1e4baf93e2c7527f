use Rattle.project_steps.proofs.StepsProofs.AgreementLemmas.{AllSoFar}
use Rattle.project_steps.proofs.steps.agreement.pair_lines.Given as goal

abbrev pub invariant-loop-first : goal.invariant-loop-first
invariant-loop-first l = AllSoFar l.tables l.lines.items l.first
