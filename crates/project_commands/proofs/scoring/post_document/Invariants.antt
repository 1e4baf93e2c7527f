use Rattle.std.proofs.Common.{◌≡◌, ℕ, List, None}
use Rattle.project_machine.specs.History.{after}
use Rattle.project_machine.specs.ProjectState.{row_in}
use Rattle.project_book.specs.Keeping.{TellsKeeper}
use Rattle.project_commands.specs.Scoring.{committed_in}
use Rattle.project_commands.proofs.PostingLemmas.{LaidSoFar}
use Rattle.project_commands.proofs.scoring.post_document.Given as goal

abbrev pub invariant-loop-rater : goal.invariant-loop-rater
invariant-loop-rater g l = record {
  laid : LaidSoFar l.fn.scores (λ (who : List ℕ). committed_in (row_in (after l.fn.project.log) l.name who)) l.names l.rater l.scores;
  still : l.project.log ≡ l.fn.project.log;
  keeper : TellsKeeper g.K.Keeper.faults g.K.Keeper.faultless l.fn.project.keeper l.project.keeper ⊥;
  certain : g.K.Keeper.doubt l.fn.project.keeper ≡ None → g.K.Keeper.doubt l.project.keeper ≡ None;
}
