-- The pieces of a project are the entries of the history that begins with its state.
use Rattle.std.proofs.Common.{◌≡◌, ℕ, ◌≤◌, ◌^◌, false, cond, List, [], ◌∷◌, ◌++◌, map, sym, ◌∙◌, ap, subst}
use Rattle.entry_bytes.specs.Entries.{entry_bytes}
use Rattle.project_machine.specs.ProjectState.{ProjectState, is_some_out}
use Rattle.project_machine.specs.Requests.{Happened, AllFreed}
use Rattle.project_machine.specs.Entries.{pieces_of}
use Rattle.project_machine.specs.History.{after}
use Rattle.project_machine.specs.Legal.{IsLegal, IsSound}
use Rattle.project_machine.specs.Opening.{IsOpened, IsReplay, restored}

-- a state that can be restored is told by its pieces
abbrev pub StatesTold : Type 0
StatesTold = (s : ProjectState) → IsSound s → IsReplay (map entry_bytes (pieces_of s)) (restored s)

-- the state behind a history can be restored, where no layer is out
abbrev pub CanRestore : Type 0
CanRestore = (log : List Happened) → IsLegal log → is_some_out (after log) ≡ false → (after log).place ≤ 2 ^ 62 → IsSound (after log)

-- the state of a project can be restored
pub sound_state : CanRestore → (log : List Happened) (state : ProjectState) (place : ℕ) → IsLegal log → is_some_out (after log) ≡ false → state ≡ after log → place ≡ state.place → place ≤ 2 ^ 62 → IsSound (after log)
sound_state can log state place legal free is here low = can log legal free (subst (λ n. n ≤ 2 ^ 62) (here ∙ ap (λ (s : ProjectState). s.place) is) low)

-- its pieces tell the history that begins with it
pub pieces_told : StatesTold → (log : List Happened) (state : ProjectState) (pieces : List (List ℕ)) → IsSound (after log) → state ≡ after log → pieces ≡ map entry_bytes (pieces_of state) → IsReplay pieces (restored (after log))
pieces_told told log state pieces sound is same = subst (λ es. IsReplay es (restored (after log))) (sym (same ∙ ap (λ s. map entry_bytes (pieces_of s)) is)) (told (after log) sound)

-- and are opened as it, since no layer is out
pub pieces_opened : StatesTold → (log : List Happened) (state : ProjectState) (pieces : List (List ℕ)) → IsSound (after log) → state ≡ after log → pieces ≡ map entry_bytes (pieces_of state) → IsOpened pieces (restored (after log))
pieces_opened told log state pieces sound is same =
    let replay : IsReplay pieces (restored (after log)) = pieces_told told log state pieces sound is same in
    record {
      log = restored (after log);
      legal = replay.legal;
      told = replay.told;
      freed = sym (ap (λ b. cond b (restored (after log) ++ AllFreed ∷ []) (restored (after log))) sound.free);
    }
