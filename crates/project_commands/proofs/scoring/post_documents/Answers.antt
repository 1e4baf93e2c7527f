use Rattle.std.proofs.Common.{◌≡◌, List, true, sym, subst}
use Rattle.project_machine.specs.History.{after}
use Rattle.project_machine.specs.ProjectState.{is_there}
use Rattle.project_machine.specs.Requests.{Happened}
use Rattle.project_commands.proofs.CuratorLemmas.{is_listed}
use Rattle.project_commands.proofs.scoring.post_documents.Goals as goal

pub post_document-requires-clause-there : goal.post_document-requires-clause-there
post_document-requires-clause-there g c =
    subst (λ (log : List Happened). is_there (after log) c.line-item.result.name ≡ true) (sym c.loop-line.invariant.still)
    (is_listed (after c.args.project.now.log) c.args.lines.now c.loop-line.line-index c.line-item.result c.requires.listed c.loop-line-test.true c.line-item.is)
