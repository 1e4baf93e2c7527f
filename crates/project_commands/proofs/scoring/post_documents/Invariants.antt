use Rattle.std.proofs.Common.{◌≡◌, length, map, take, None}
use Rattle.project_machine.specs.History.{after}
use Rattle.project_book.specs.Keeping.{TellsKeeper}
use Rattle.project_commands.specs.Scoring.{layers_on}
use Rattle.project_commands.proofs.scoring.post_documents.Given as goal

abbrev pub invariant-loop-line : goal.invariant-loop-line
invariant-loop-line g l = record {
  posted : l.scores ≡ record { raters = length l.names; documents = map (λ line. layers_on (after l.fn.project.log) line.name) (take l.line-index l.lines) };
  still : l.project.log ≡ l.fn.project.log;
  keeper : TellsKeeper g.K.Keeper.faults g.K.Keeper.faultless l.fn.project.keeper l.project.keeper ⊥;
  certain : g.K.Keeper.doubt l.fn.project.keeper ≡ None → g.K.Keeper.doubt l.project.keeper ≡ None;
}
