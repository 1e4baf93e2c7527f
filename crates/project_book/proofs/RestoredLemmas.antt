-- A project that begins with a state, of which the pieces are the first entries.
use Rattle.std.proofs.Common.{◌≡◌, ℕ, List, None, refl, sym, ◌∙◌, ap, subst, arith}
use Rattle.label_tracks.specs.Levels.{Grouping, grouping_of}
use Rattle.kappa_alpha.specs.Standing.{Standing}
use Rattle.project_machine.specs.ProjectState.{ProjectState}
use Rattle.project_machine.specs.Requests.{Happened}
use Rattle.project_machine.specs.History.{after}
use Rattle.project_machine.specs.Legal.{HasRoom, IsLegal, IsSound, legal_restored}
use Rattle.project_machine.specs.Opening.{IsReplay, restored}
use Rattle.checkpoint.specs.Runs.{IsCheckpoint}
use Rattle.checkpoint.specs.ToldLaws.{CheckpointsArePieces}
use Rattle.project_book.specs.Keeping.{AreTables, Stands}
use Rattle.project_book.proofs.PieceLemmas.{StatesTold}

-- the state behind a history that begins with it
state_after : (s : ProjectState) → s ≡ after (restored s)
state_after s = refl

pub stands_restored : (s : ProjectState) (log : List Happened) (groups : Grouping) (tables : Standing) → IsSound s → log ≡ restored s → groups ≡ grouping_of s.conf.types s.level → AreTables s tables → Stands log s groups tables None None
stands_restored s log groups tables sound is grouped tabled = record {
  legal = subst IsLegal (sym is) (legal_restored s sound);
  room = subst HasRoom (sym is) (omega arith);
  state_is = state_after s ∙ ap after (sym is);
  tables_are = tabled;
  groups_are = grouped;
  kept_is = record { entries = tt; next = tt };
}

-- what a checkpoint tells can be restored
abbrev pub AreSound : Type 0
AreSound = (entries : List (List ℕ)) (s : ProjectState) → IsCheckpoint entries s → IsSound s

-- the entries of a checkpoint tell the history that begins with its project
pub replay_checkpoint : CheckpointsArePieces → AreSound → StatesTold → (run : List (List ℕ)) (s : ProjectState) (log : List Happened) → IsCheckpoint run s → log ≡ restored s → IsReplay run log
replay_checkpoint are sound told run s log checkpoint is =
    subst (IsReplay run) (sym is) (subst (λ es. IsReplay es (restored s)) (sym (are run s checkpoint)) (told s (sound run s checkpoint)))
