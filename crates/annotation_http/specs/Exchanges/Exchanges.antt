-- One message to a project: what is answered to it, and the connection behind the answer.
use Rattle.std.specs.Prelude.{◌≡◌, ◌⊎◌, ℕ, Bool, true, false, List, [], Option, Some, None, Result, Ok, Err, if◌then◌else◌, ⊤}
use Rattle.http.specs.StatusCode.{IsStatusCode}
use Rattle.http_wire.specs.declared.answer.Answer.{Answer}
use Rattle.http_wire.specs.declared.message.Message.{Message}
use Rattle.layer_undo.specs.Desks.{IsDesk}
use Rattle.http_answers.specs.Desk.DeskAnswers.{no_memory}
use Rattle.http_answers.specs.declared.routes.route.Route.{Route}
use Rattle.http_answers.specs.Answers.Answers.{answer_on}
use Rattle.project_machine.specs.declared.book_refusal.BookRefusal.TheVariants as no
use Rattle.project_machine.specs.Requests.{Asked, Checkout, TakeOver, Commit, Park, Answered, HandedOut, Committed, Parked, Refused, Out}
use Rattle.project_machine.specs.Asking.{IsCounted, Visited, Visiting}
use Rattle.annotation_http.specs.Exchanges.Connections.{Connection, Bare, Holding, Holds, committed, desk_on, handed}
use Rattle.annotation_http.specs.Exchanges.Plans.{Plan, AtOnce, AsksBook, planned}

-- ---- the connection behind what the project answered

-- a desk was asked for: it is held where it is handed out
abbrev pub held_by : Connection → List ℕ → List ℕ → Answered → Connection
held_by c caller doc (HandedOut out) = Holds (handed caller doc out)
held_by c caller doc other = c

-- a layer was to be committed: it is the base of the desk where it was
abbrev pub committed_by : Connection → Answered → Connection
committed_by c (Committed revision) = committed c
committed_by c other = c

-- a desk was to be parked: it is given up where it was, and where it is another's by now
abbrev pub parked_by : Connection → Answered → Connection
parked_by c Parked = Bare
parked_by c (Refused no.NotYours named) = Bare
parked_by c other = c

-- the connection behind what the project answered to a caller
abbrev pub next : Connection → List ℕ → Asked → Answered → Connection
next c caller (Checkout doc) answered = held_by c caller doc answered
next c caller (TakeOver doc) answered = held_by c caller doc answered
next c caller (Commit doc hold layer) answered = committed_by c answered
next c caller (Park doc hold done undone) answered = parked_by c answered
next c caller asked answered = c

-- the document whose desk is asked for
abbrev pub desk_asked : Asked → Option (List ℕ)
desk_asked (Checkout doc) = Some doc
desk_asked (TakeOver doc) = Some doc
desk_asked other = None

-- whatever is answered, the connection stays as it is
abbrev pub leaves_connection : Asked → Bool
leaves_connection (Checkout doc) = false
leaves_connection (TakeOver doc) = false
leaves_connection (Commit doc hold layer) = false
leaves_connection (Park doc hold done undone) = false
leaves_connection other = true

-- ---- one message

-- the keeper failed
abbrev pub is_not_kept : Answered → Bool
is_not_kept (Refused no.Keeper []) = true
is_not_kept other = false

-- a plan comes about: what is answered, the connection behind it, what the visitor sees then, and whether the keeper failed. An answer that asks nothing looks at no project; what is asked is answered at some place; where a desk was handed out and finds no memory, that is answered and the connection holds none; and where memory runs out before anything is asked, nothing happens
pub data Carried (plan : Plan) (c : Connection) (old : Visiting) (answer : Answer) (c_now : Connection) (new : Visiting) (failed : Bool) : Type 0 where
  is_at_once : plan ≡ AtOnce answer c_now → new ≡ old → failed ≡ false → Carried plan c old answer c_now new failed
  asks : (route : Route) (caller : List ℕ) (asked : Asked) (answered : Answered) → plan ≡ AsksBook route caller asked → Visited old new caller asked answered
      → answer ≡ answer_on route answered → c_now ≡ next c caller asked answered → failed ≡ is_not_kept answered → Carried plan c old answer c_now new failed
  loses : (route : Route) (caller doc : List ℕ) (asked : Asked) (out : Out) → plan ≡ AsksBook route caller asked → desk_asked asked ≡ Some doc
      → Visited old new caller asked (HandedOut out) → answer ≡ no_memory → c_now ≡ Bare → failed ≡ false → Carried plan c old answer c_now new failed
  is_unable : answer ≡ no_memory → c_now ≡ c → new ≡ old → failed ≡ false → Carried plan c old answer c_now new failed

-- a plan is carried out: that the keeper failed is answered only where the visitor counted a fault, and not where none can come
pub record IsCarriedOut (plan : Plan) (c : Connection) (old : Visiting) (faultless : Type 0) (c_now : Connection) (new : Visiting) (answer : Answer) : Type 0 where
  pub failed : Bool
  pub carried : Carried plan c old answer c_now new failed
  pub cause : failed ≡ true → IsCounted old new
  pub quiet : faultless → (failed ≡ false) × (new.faults ≡ old.faults)

-- a message is answered so
abbrev pub IsExchange : Connection → Visiting → Type 0 → Message → Connection → Visiting → Answer → Type 0
IsExchange c old faultless m c_now new answer = IsCarriedOut (planned c m) c old faultless c_now new answer

-- such an answer is given; or there was no memory for its bytes, and all else is as it leaves it
abbrev pub IsGiven : {E : Type 0} → Result Answer E → (Answer → Type 0) → Type 0
IsGiven (Ok answer) P = P answer × IsStatusCode answer.status
IsGiven (Err lack) P = (answer : Answer) × P answer

-- ---- what a project hands out

-- a desk can be opened on what is handed out
abbrev pub CanBeOpened : Answered → Type 0
CanBeOpened (HandedOut out) = IsDesk (desk_on out)
CanBeOpened other = ⊤

-- a layer is handed out
abbrev pub is_handed_out : Answered → Bool
is_handed_out (HandedOut out) = true
is_handed_out other = false

-- a layer was committed
abbrev pub is_committed : Answered → Bool
is_committed (Committed revision) = true
is_committed other = false

-- a desk is given up
abbrev pub is_given_up : Answered → Bool
is_given_up Parked = true
is_given_up (Refused no.NotYours named) = true
is_given_up other = false

-- ---- parts of one message (private calls only)

-- what a desk does at once: the answer of a plan came about, or memory ran out for it
abbrev pub IsDone : Plan → Holding → Holding → Answer → Type 0
IsDone plan old new answer = (plan ≡ AtOnce answer (Holds new)) ⊎ ((answer ≡ no_memory) × (new ≡ old))

-- the connection is given up, or stays
abbrev pub given_up : Bool → Connection → Connection
given_up leaves c = if leaves then Bare else c
