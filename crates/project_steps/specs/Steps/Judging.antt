-- What a request is answered, and the change that is to be kept before it is answered so.
use Rattle.std.specs.Prelude.{◌≡◌, ℕ, ◌+◌, ◌≤◌, List, length, Option, Some, None, IfSome}
use Rattle.std.specs.Option.{option_map, option_map_or, option_or}
use Rattle.entry_bytes.specs.Entries.{entry_bytes}
use Rattle.project_machine.specs.declared.book_refusal.BookRefusal.{BookRefusal}
use Rattle.project_machine.specs.ProjectState.{ProjectState, Snapshot, no_snapshot, snapshot}
use Rattle.project_machine.specs.Requests.{Asked, Decide, Undecide, Happened, Refused}
use Rattle.project_machine.specs.Entries.{entry_of}
use Rattle.project_machine.specs.Machine.{of_text, policies, refusal, step}
use Rattle.project_machine.specs.History.{effect}
use Rattle.project_state.specs.Acting.{CanAct, FitsRows, performed}
use Rattle.project_state.specs.Values.{answer_of, happened_of}
use Rattle.project_state.specs.Entries.Writing.{CanBeEntered}
use Rattle.project_state.specs.Tables.Tabling.{tabling_by, tabling_of}
use Rattle.project_steps.specs.declared.steps.accepted.Accepted.{Accepted}
use Rattle.project_steps.specs.Steps.Accepting.{Accepts, made_happen}
use Rattle.project_steps.specs.declared.steps.judging.Kept.{Kept}
use Rattle.project_steps.specs.declared.steps.judging.Judged.{Judged}

-- one may make a request
abbrev pub IsPermitted : ProjectState → List ℕ → Asked → Type 0
IsPermitted s caller asked = policies s caller asked ≡ None

-- the number of the snapshot on which a request asks for a decision, if it asks for one
abbrev pub decided_number : Asked → Option ℕ
decided_number (Decide number holder id verdict) = Some number
decided_number (Undecide number holder id) = Some number
decided_number asked = None

-- the snapshot on which a decision is asked for
abbrev pub snapshot_decided : ProjectState → Option ℕ → Snapshot
snapshot_decided s decided = option_map_or (snapshot s) decided no_snapshot

-- what a change that is to be kept makes happen
abbrev pub kept_happens : Kept → Happened
kept_happens kept = happened_of kept.change

-- a change that is to be kept comes with its entry, which is not longer than a journal takes, and with the act that does it at the next place, which does the same to the tables and can be done
pub record IsKeptChange (s : ProjectState) (kept : Kept) : Type 0 where
  pub entry : kept.entry ≡ entry_bytes (entry_of s (kept_happens kept))
  pub short : length kept.entry ≤ 16777216
  pub acts : performed kept.act s ≡ effect (s.place + 1) (kept_happens kept) s
  pub tables : tabling_by s kept.act ≡ tabling_of s (kept_happens kept)
  pub can : CanAct kept.act s
  pub fits : FitsRows kept.act s

-- the answer and the change are those of the step
pub record IsJudged (s : ProjectState) (caller : List ℕ) (asked : Asked) (judged : Judged) : Type 0 where
  pub answer : answer_of judged.reply ≡ (step s caller asked).answer
  pub change : option_map kept_happens judged.kept ≡ (step s caller asked).change
  pub kept : IfSome judged.kept (IsKeptChange s)

-- a refusal is answered with what it names, for a request that asks for a decision on the snapshot of this number, or for none; nothing is kept
pub record IsRefused (s : ProjectState) (decided : Option ℕ) (refusal : BookRefusal) (judged : Judged) : Type 0 where
  pub answer : (asked : Asked) → decided_number asked ≡ decided → answer_of judged.reply ≡ Refused refusal (of_text s asked refusal)
  pub none : judged.kept ≡ None

-- what is accepted is the step of each request that it accepts, once its entry is written
abbrev pub IsEntered : ProjectState → Option ℕ → Accepted → Judged → Type 0
IsEntered s decided accepted judged =
    (caller : List ℕ) (asked : Asked) → decided_number asked ≡ decided → refusal s caller asked ≡ None → Accepts s caller asked accepted → IsJudged s caller asked judged

-- the change of what is accepted can be written as an entry
abbrev pub CanBeMade : ProjectState → Accepted → Type 0
CanBeMade s accepted = IfSome accepted.made (λ made. CanBeEntered s (made_happen made))
