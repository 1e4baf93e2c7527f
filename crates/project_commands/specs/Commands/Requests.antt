-- What a request of a command comes to, and why it ends the command.
use Rattle.std.specs.Prelude.{◌≡◌, ◌⊎◌, ℕ, Bool, true, List, [], is_some, length, Option, Some, None, IsSome}
use Rattle.char_documents.specs.Tokens.{tokens_of}
use Rattle.entry_bytes.specs.declared.person.Person.{Person}
use Rattle.conf_model.specs.Configurations.{Configuration}
use Rattle.project_machine.specs.declared.book_refusal.BookRefusal.{BookRefusal}
use Rattle.project_machine.specs.declared.book_refusal.BookRefusal.TheVariants as no
use Rattle.project_machine.specs.Requests.{Asked, AddText, Checkout, Answered, HandedOut, Refused, Added, Happened, Out}
use Rattle.project_machine.specs.Machine.{reply}
use Rattle.project_machine.specs.History.{after}
use Rattle.project_machine.specs.Asking.{step_at, stepped_on}
use Rattle.project_book.specs.Founding.{founding_bytes, is_too_long}
use Rattle.annotation_http.specs.Exchanges.Connections.{Holding, handed}
use Rattle.program_inputs.specs.declared.trouble.Trouble.{Trouble}
use Rattle.program_inputs.specs.declared.trouble.Trouble.TheVariants as trouble

-- ---- a request

-- a project grants a request with this answer, and this is its history then
pub record Grants (log : List Happened) (caller : List ℕ) (asked : Asked) (answer : Answered) (now : List Happened) : Type 0 where
  pub answered : (step_at log caller asked).answer ≡ answer
  pub history : now ≡ stepped_on log caller asked

-- a project grants a request, and its answer is the one to what is granted
pub record IsGranted (log : List Happened) (caller : List ℕ) (asked : Asked) (answer : Answered) (now : List Happened) : Type 0 where
  pub answer_is : answer ≡ reply (after log) caller asked
  pub grants : Grants log caller asked answer now

-- what the refusal of a project comes to, with what it names: a keeper that failed is a disk that failed
abbrev pub trouble_of : BookRefusal → (named : List ℕ) → Trouble
trouble_of no.Keeper named = trouble.DiskFailed
trouble_of no.Memory named = trouble.Memory
trouble_of refusal named = trouble.Refused refusal named

-- why a request ends a command: the project refuses it; or memory ran out; or it makes a change, which was not kept, since a disk failed
pub data RefusesTo (log : List Happened) (caller : List ℕ) (asked : Asked) (why : Trouble) : Type 0 where
  refuses : (refusal : BookRefusal) (named : List ℕ) → (step_at log caller asked).answer ≡ Refused refusal named → why ≡ trouble_of refusal named → RefusesTo log caller asked why
  lacks_memory : why ≡ trouble.Memory → RefusesTo log caller asked why
  fails_to_keep : IsSome (step_at log caller asked).change → why ≡ trouble.DiskFailed → RefusesTo log caller asked why

-- the refusal that an answer is, if it is one
abbrev pub refusal_in : Answered → Option BookRefusal
refusal_in (Refused refusal named) = Some refusal
refusal_in answer = None

-- what an answer that is a refusal names
abbrev pub named_in : Answered → List ℕ
named_in (Refused refusal named) = named
named_in answer = []

-- an answer is a refusal
abbrev pub is_refused : Answered → Bool
is_refused answer = is_some (refusal_in answer)

-- an answer is the one to what is granted, or a refusal
abbrev pub IsReplied : List Happened → List ℕ → Asked → Answered → Type 0
IsReplied log caller asked answer = (answer ≡ reply (after log) caller asked) ⊎ (is_refused answer ≡ true)

-- ---- requests of commands

-- a document was added, whose text has so many tokens
abbrev pub AddsText : List Happened → (caller name text : List ℕ) → (tokens : ℕ) → List Happened → Type 0
AddsText log caller name text tokens now = Grants log caller (AddText name text) (Added tokens) now × (tokens ≡ length (tokens_of text))

-- a layer was handed out, and is held so
pub record ChecksOut (log : List Happened) (caller name : List ℕ) (held : Holding) (now : List Happened) : Type 0 where
  pub out : Out
  pub granted : Grants log caller (Checkout name) (HandedOut out) now
  pub held_is : held ≡ handed caller name out

-- ---- a founding

-- why a project is not founded: it is too long, so many bytes are told; or a disk failed, or memory ran out
pub data NotFounded (conf : Configuration) (level : ℕ) (people : List Person) (why : Trouble) : Type 0 where
  is_long : is_too_long conf level people ≡ true → why ≡ trouble.BookTooLong (length (founding_bytes conf level people)) → NotFounded conf level people why
  lacks_founding : why ≡ trouble.Memory → NotFounded conf level people why
  fails_to_found : why ≡ trouble.DiskFailed → NotFounded conf level people why
