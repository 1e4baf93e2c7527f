-- What `add BOOK CALLER NAME TEXT` does: it opens a project, reads a text, and adds it as a document.
use Rattle.std.specs.Prelude.{◌≡◌, ◌⊎◌, ℕ, List, codes, Option}
use Rattle.project_machine.specs.Requests.{AddText, Happened}
use Rattle.program_inputs.specs.declared.trouble.Trouble.{Trouble}
use Rattle.program_inputs.specs.Files.{HoldsText, TextRefused}
use Rattle.program_inputs.specs.Troubles.{with_number}
use Rattle.program_inputs.specs.ProjectFiles.ProjectFiles.{NotOpened}
use Rattle.project_commands.specs.Commands.Requests.{AddsText, RefusesTo}
use Rattle.project_commands.specs.Works.{EndsOn, WorksOn}

-- the text of a file was added for a caller to a project, and its tokens are counted
pub record AddsHere (log : List Happened) (text_file : Option (Option (List ℕ))) (caller name : List ℕ) (bytes : List ℕ) (now : List Happened) : Type 0 where
  pub text : List ℕ
  pub text_is : HoldsText text_file text
  pub tokens : ℕ
  pub added : AddsText log caller name text tokens now
  pub line : bytes ≡ with_number (codes "tokens ") tokens

-- the text was read, and the project refuses it
pub record TextNotTaken (log : List Happened) (text_file : Option (Option (List ℕ))) (caller name : List ℕ) (why : Trouble) : Type 0 where
  pub text : List ℕ
  pub text_is : HoldsText text_file text
  pub refused : RefusesTo log caller (AddText name text) why

-- why no document was added to a project: the text is at fault; or the project refuses it
abbrev pub NotAddedHere : List Happened → (text_file : Option (Option (List ℕ))) → (caller name : List ℕ) → (before now : ℕ) → Trouble → Type 0
NotAddedHere log text_file caller name before now why = TextRefused text_file before now why ⊎ TextNotTaken log text_file caller name why

-- what `add` does
abbrev pub Adds : (file file_now : Option (List ℕ)) → (text_file : Option (Option (List ℕ))) → (caller name bytes : List ℕ) → Type 0
Adds file file_now text_file caller name bytes = WorksOn file file_now (λ log now. AddsHere log text_file caller name bytes now)

-- why no document was added: the project is not opened, or the document not added to it
abbrev pub NotAdded : (file : Option (List ℕ)) → (text_file : Option (Option (List ℕ))) → (caller name : List ℕ) → (before now : ℕ) → Trouble → Type 0
NotAdded file text_file caller name before now why = NotOpened file why ⊎ EndsOn file (λ log. NotAddedHere log text_file caller name before now why)
