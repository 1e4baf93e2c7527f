-- What a project answers that is asked for something to read.
use Rattle.std.specs.Prelude.{◌≡◌, ◌⊎◌, ℕ, List}
use Rattle.project_machine.specs.declared.book_refusal.BookRefusal.{BookRefusal}
use Rattle.project_machine.specs.Machine.{reply}
use Rattle.project_machine.specs.History.{after}
use Rattle.project_machine.specs.Requests.{Answered, Asked, Happened, Refused}

-- some refusal
abbrev pub IsRefusal : Answered → Type 0
IsRefusal answer = (refusal : BookRefusal) × (named : List ℕ) × (answer ≡ Refused refusal named)

-- the answer is what the project has, or a refusal; the history is as before
pub record IsRead (log : List Happened) (caller : List ℕ) (asked : Asked) (answer : Answered) (now : List Happened) : Type 0 where
  pub told : (answer ≡ reply (after log) caller asked) ⊎ IsRefusal answer
  pub same : now ≡ log
