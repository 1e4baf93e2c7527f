-- One message of a connection with its answer, and what the connection does last.
use Rattle.std.specs.Prelude.{◌≡◌, ◌≢◌, ℕ, Bool, true, []}
use Rattle.http_wire.specs.declared.answer.Answer.{Answer}
use Rattle.http_wire.specs.declared.message.Message.{Message}
use Rattle.project_machine.specs.declared.book_refusal.BookRefusal.TheVariants as no
use Rattle.project_machine.specs.Requests.{Answered, Park, Refused}
use Rattle.project_machine.specs.History.{last}
use Rattle.project_machine.specs.Asking.{IsCounted, Visited, Visiting}
use Rattle.annotation_http.specs.Exchanges.Connections.{Connection, Bare, Holds}
use Rattle.annotation_http.specs.Exchanges.Plans.{planned}
use Rattle.annotation_http.specs.Exchanges.Exchanges.{Carried}

-- a connection, and what its visitor sees
pub record Serving : Type 0 where
  pub connection : Connection
  pub visiting : Visiting

-- an answer, the place of the history that it speaks of, and whether it says that the keeper failed
pub record Given : Type 0 where
  pub answer : Answer
  pub place : ℕ
  pub failed : Bool

-- a connection with its visitor
abbrev pub serving : Connection → Visiting → Serving
serving c v = record { connection = c; visiting = v }

-- the place of the last change that the visitor has seen
abbrev pub place_of : Serving → ℕ
place_of s = last s.visiting.seen

-- a message is answered, at the place of the last change seen; that the keeper failed is answered only where the visitor counted a fault meanwhile
pub record Step (old : Serving) (message : Message) (given : Given) (new : Serving) : Type 0 where
  pub carried : Carried (planned old.connection message) old.connection old.visiting given.answer new.connection new.visiting given.failed
  pub place : given.place ≡ place_of new
  pub cause : given.failed ≡ true → IsCounted old.visiting new.visiting

-- from where no fault can come, the count of faults stands, and the keeper is not at fault in the answer
abbrev pub IsQuiet : Type 0 → Visiting → Visiting → Answered → Type 0
IsQuiet faultless old new answered = faultless → (new.faults ≡ old.faults) × (answered ≢ Refused no.Keeper [])

-- a desk that is still held at the end is parked by one more request
abbrev pub IsLastPark : Type 0 → Connection → Visiting → Visiting → Type 0
IsLastPark faultless Bare old new = new ≡ old
IsLastPark faultless (Holds held) old new =
    (answered : Answered) × Visited old new held.who (Park held.doc held.hold held.desk.done held.desk.undone) answered × IsQuiet faultless old new answered
