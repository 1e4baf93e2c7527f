-- A whole connection: the messages taken, their answers at places of one history, and how it ended.
use Rattle.std.specs.Prelude.{◌≡◌, ℕ, ◌+◌, ◌<◌, ◌⊎◌, ◌==◌, ◌||◌, Bool, true, false, Result, Ok, Err, List, [], ◌∷◌, ◌++◌, length, Option, Some, None, IfSome, bytes_eq, codes, if◌then◌else◌, ⊤}
use Rattle.std.specs.List.{list_any}
use Rattle.std.specs.Io.KnownBytes.{Appends, IsAtEnd, prepend_known}
use Rattle.mark_base.specs.Streams.{AppendsFront}
use Rattle.http_wire.specs.declared.answer.Answer.{Answer}
use Rattle.http_wire.specs.declared.message.Message.{Message}
use Rattle.http_wire.specs.declared.stop.Stop.{Stop}
use Rattle.http_wire.specs.declared.stop.Stop.TheVariants as stop
use Rattle.http_wire.specs.Answers.{answer_bytes_of, answer_bytes_to, refusal, stop_answer, unable}
use Rattle.http_wire.specs.Inbox.{TakesMessage}
use Rattle.http_wire.specs.Messages.{ReadsMessage, IsUnfinished, StopsWith}
use Rattle.annotation_http.specs.declared.connection.ending.Ending.{Ending}
use Rattle.annotation_http.specs.declared.connection.ending.Ending.TheVariants as ending
use Rattle.project_machine.specs.Asking.{Visiting}
use Rattle.annotation_http.specs.Exchanges.Connections.{Connection}
use Rattle.annotation_http.specs.Connection.Steps.{Given, IsLastPark, Serving, Step, place_of, serving}

-- ---- messages, one after another

-- these messages stand at the front one after another, and then the rest
abbrev pub Takes : List ℕ → List Message → List ℕ → Type 0
Takes bytes [] rest = rest ≡ bytes
Takes bytes (message ∷ messages) rest = (middle : List ℕ) × ReadsMessage bytes message middle × Takes middle messages rest

-- the same of bytes that are told
abbrev pub TakesKnown : Option (List ℕ) → List Message → Option (List ℕ) → Type 0
TakesKnown None messages now = ⊤
TakesKnown (Some bytes) messages None = ⊥
TakesKnown (Some bytes) messages (Some rest) = Takes bytes messages rest

-- ---- the answers to them

-- the messages are answered so in turn
abbrev pub Run : Serving → List Message → List Given → Serving → Type 0
Run old [] [] new = new ≡ old
Run old (message ∷ messages) (given ∷ answers) new = (middle : Serving) × Step old message given middle × Run middle messages answers new
Run old [] (given ∷ answers) new = ⊥
Run old (message ∷ messages) [] new = ⊥

-- the answer number n, from 0, is the last: its message asks for that, or it is the 1,000,000th
abbrev pub is_last_answer : ℕ → Message → Bool
is_last_answer n message = message.last || n + 1 == 1000000

-- the answer to a message has no body: its method is HEAD
abbrev pub is_bodiless : Message → Bool
is_bodiless message = bytes_eq message.method (codes "HEAD")

-- the bytes of an answer, with its place
abbrev pub bytes_of : ℕ → Message → Given → List ℕ
bytes_of n message given = answer_bytes_to (is_bodiless message) given.answer given.place (is_last_answer n message)

-- the bytes of answers, the first of which is the answer number n
abbrev pub bytes_from : ℕ → List Message → List Given → List ℕ
bytes_from n [] answers = []
bytes_from n (message ∷ messages) [] = []
bytes_from n (message ∷ messages) (given ∷ answers) = bytes_of n message given ++ bytes_from (n + 1) messages answers

-- ---- how far a connection has come

-- so many messages were taken, none of which asked for the end, and all of them were answered whole; where no fault of the keeper can come, no answer says that it failed, and the count of faults stands
pub record Served (faultless : Type 0) (old new : Serving) (left now : Option (List ℕ)) (before written : Option (List ℕ)) (count : ℕ) : Type 0 where
  pub messages : List Message
  pub answers : List Given
  pub takes : TakesKnown left messages now
  pub goes_on : list_any (λ message. message.last) messages ≡ false
  pub run : Run old messages answers new
  pub bytes : Appends before written (bytes_from 0 messages answers)
  pub number : length messages ≡ count
  pub few : count < 1000000
  pub quiet : faultless → (list_any (λ given. given.failed) answers ≡ false) × (new.visiting.faults ≡ old.visiting.faults)

-- and one more message was taken
pub record Taken (faultless : Type 0) (old new : Serving) (left now : Option (List ℕ)) (before written : Option (List ℕ)) : Type 0 where
  pub count : ℕ
  pub between : Option (List ℕ)
  pub served : Served faultless old new left between before written count
  pub message : Message
  pub takes : TakesMessage between message now

-- and the step for it was made
pub record Stepped (faultless : Type 0) (old new : Serving) (left now : Option (List ℕ)) (before written : Option (List ℕ)) : Type 0 where
  pub middle : Serving
  pub taken : Taken faultless old middle left now before written
  pub given : Given
  pub step : Step middle taken.message given new
  pub kept : faultless → (given.failed ≡ false) × (new.visiting.faults ≡ middle.visiting.faults)

-- the bytes of the answer to that message
abbrev pub owed : {faultless : Type 0} {old new : Serving} {left now before written : Option (List ℕ)} → Stepped faultless old new left now before written → List ℕ
owed s = bytes_of s.taken.count s.taken.message s.given

-- P of what is left now, where the link told its bytes at first
abbrev pub IfTold : Option (List ℕ) → Option (List ℕ) → (List ℕ → Type 0) → Type 0
IfTold None now P = ⊤
IfTold (Some bytes) now P = IfSome now P

-- all was served, and the messages stop there so
pub record Stopped (faultless : Type 0) (old new : Serving) (left now : Option (List ℕ)) (before written : Option (List ℕ)) (why : Stop) : Type 0 where
  pub count : ℕ
  pub served : Served faultless old new left now before written count
  pub stops : IfTold left now (λ rest. StopsWith rest why)

-- ---- what is written last

-- memory may run out for a message, and for the bytes of an answer
abbrev pub Lacks : (faultless : Type 0) (old new : Serving) (left now : Option (List ℕ)) (before written : Option (List ℕ)) → Type 0
Lacks faultless old new left now before written =
    ((count : ℕ) × Served faultless old new left now before written count) ⊎ Stepped faultless old new left now before written

-- the answer to a stop was still to be written
pub record Refuses (faultless : Type 0) (old new : Serving) (left now : Option (List ℕ)) (before written : Option (List ℕ)) (why : Stop) : Type 0 where
  pub stopped : Stopped faultless old new left now before written why
  pub answer : Answer
  pub answers : stop_answer why ≡ Some answer

-- these bytes were still to be written: an answer, the answer to a stop, or that there is no memory
abbrev pub Owes : (faultless : Type 0) (old new : Serving) (left now : Option (List ℕ)) (before written : Option (List ℕ)) → List ℕ → Type 0
Owes faultless old new left now before written piece =
    ((s : Stepped faultless old new left now before written) × (piece ≡ owed s))
    ⊎ (((why : Stop) × (r : Refuses faultless old new left now before written why) × (piece ≡ answer_bytes_of r.answer (place_of new) true))
    ⊎ (Lacks faultless old new left now before written × (piece ≡ unable (place_of new))))

-- the answer to a stop was written whole
pub record StopAnswered (faultless : Type 0) (old new : Serving) (left now : Option (List ℕ)) (before written : Option (List ℕ)) (why : Stop) : Type 0 where
  pub sent : Option (List ℕ)
  pub refuses : Refuses faultless old new left now before sent why
  pub bytes : Appends sent written (answer_bytes_of refuses.answer (place_of new) true)

-- the answer to a stop was written whole, and it is not the 1,000,000th
abbrev pub Refused : (faultless : Type 0) (old new : Serving) (left now : Option (List ℕ)) (before written : Option (List ℕ)) → Stop → Type 0
Refused faultless old new left now before written why = (s : StopAnswered faultless old new left now before written why) × (s.refuses.stopped.count + 1 < 1000000)

-- an answer was written whole, and it is the last one
pub record AnsweredLast (faultless : Type 0) (old new : Serving) (left now : Option (List ℕ)) (before written : Option (List ℕ)) : Type 0 where
  pub sent : Option (List ℕ)
  pub stepped : Stepped faultless old new left now before sent
  pub bytes : Appends sent written (owed stepped)

-- the 1,000,000th answer was written whole: to a message, or to a stop
abbrev pub AllAnswered : (faultless : Type 0) (old new : Serving) (left now : Option (List ℕ)) (before written : Option (List ℕ)) → Type 0
AllAnswered faultless old new left now before written =
    ((a : AnsweredLast faultless old new left now before written) × (a.stepped.taken.count + 1 ≡ 1000000))
    ⊎ ((why : Stop) × (s : StopAnswered faultless old new left now before written why) × (s.refuses.stopped.count + 1 ≡ 1000000))

-- a front of what was owed was written
pub record BrokenOff (faultless : Type 0) (old new : Serving) (left now : Option (List ℕ)) (before written : Option (List ℕ)) : Type 0 where
  pub sent : Option (List ℕ)
  pub piece : List ℕ
  pub owes : Owes faultless old new left now before sent piece
  pub front : AppendsFront sent written piece

-- ---- how a connection ended. `held` are the bytes taken from the link that belong to no message, and `now` are those left in it

-- by each ending: what was taken, answered and written, and why no more
abbrev pub SessionEnds : (faultless : Type 0) (old new : Serving) (left : Option (List ℕ)) (held : List ℕ) (now before written : Option (List ℕ)) → Ending → Type 0
SessionEnds faultless old new left held now before written ending.End = Stopped faultless old new left (prepend_known held now) before written stop.End × IsAtEnd now
SessionEnds faultless old new left held now before written ending.Cut = Stopped faultless old new left (prepend_known held now) before written stop.Cut × IsAtEnd now
SessionEnds faultless old new left held now before written ending.BadHead = Refused faultless old new left (prepend_known held now) before written stop.BadHead
SessionEnds faultless old new left held now before written ending.NeedsLength = Refused faultless old new left (prepend_known held now) before written stop.NeedsLength
SessionEnds faultless old new left held now before written ending.TooLarge = Refused faultless old new left (prepend_known held now) before written stop.TooLarge
SessionEnds faultless old new left held now before written ending.Encoded = Refused faultless old new left (prepend_known held now) before written stop.Encoded
SessionEnds faultless old new left held now before written ending.Closed = (a : AnsweredLast faultless old new left (prepend_known held now) before written)
    × (a.stepped.taken.message.last ≡ true) × (a.stepped.taken.count + 1 < 1000000)
SessionEnds faultless old new left held now before written ending.Spent = AllAnswered faultless old new left (prepend_known held now) before written
SessionEnds faultless old new left held now before written ending.ReadFault = (count : ℕ)
    × Served faultless old new left (prepend_known held now) before written count × IsUnfinished held
SessionEnds faultless old new left held now before written ending.WriteFault = BrokenOff faultless old new left (prepend_known held now) before written
SessionEnds faultless old new left held now before written ending.Memory = (sent : Option (List ℕ))
    × Lacks faultless old new left (prepend_known held now) before sent × Appends sent written (unable (place_of new))

-- the messages of a connection, their answers and their end; where no fault of the keeper can come, the count of faults stands
pub record SessionTold (faultless : Type 0) (old new : Serving) (left now : Option (List ℕ)) (before written : Option (List ℕ)) (end : Ending) : Type 0 where
  pub held : List ℕ
  pub ends : SessionEnds faultless old new left held now before written end
  pub still : faultless → new.visiting.faults ≡ old.visiting.faults

-- a whole connection of a visitor: its messages are answered in turn, and what it holds at the end is parked; where no fault of the keeper can come, the count of faults at the end is that at the beginning
pub record ConnectionTold (faultless : Type 0) (start : Connection) (old new : Visiting) (left now : Option (List ℕ)) (before written : Option (List ℕ)) (end : Ending) : Type 0 where
  pub behind : Serving
  pub session : SessionTold faultless (serving start old) behind left now before written end
  pub parked : IsLastPark faultless behind.connection behind.visiting new
  pub still : faultless → new.faults ≡ old.faults

-- ---- the parts of it

-- memory ran out at a place: that was written, or a front of it
abbrev pub UnableEnds : ℕ → Option (List ℕ) → Option (List ℕ) → Ending → Type 0
UnableEnds place sent written ending.Memory = Appends sent written (unable place)
UnableEnds place sent written ending.WriteFault = AppendsFront sent written (unable place)
UnableEnds place sent written end = ⊥

-- an answer was written whole, or a front of it, or there was no memory for its bytes
abbrev pub SendEnds : ℕ → List ℕ → Option (List ℕ) → Option (List ℕ) → Result (Unit {0}) Ending → Type 0
SendEnds place piece sent written (Ok done) = Appends sent written piece
SendEnds place piece sent written (Err end) = ((end ≡ ending.WriteFault) × AppendsFront sent written piece) ⊎ UnableEnds place sent written end

-- a message was answered, or the connection ends by its answer
pub record AnswerEnds (faultless : Type 0) (old : Serving) (message : Message) (new : Serving) (sent written : Option (List ℕ)) (n : ℕ) (result : Result (Unit {0}) Ending) : Type 0 where
  pub given : Given
  pub step : Step old message given new
  pub kept : faultless → (given.failed ≡ false) × (new.visiting.faults ≡ old.visiting.faults)
  pub sends : SendEnds (place_of new) (bytes_of n message given) sent written result

-- the ending that an answer to a stop makes, the answer number n, from 0: the 1,000,000th goes before its name
abbrev pub ended : ℕ → Result (Unit {0}) Ending → Ending → Ending
ended n (Ok done) named = if n + 1 == 1000000 then ending.Spent else named
ended n (Err end) named = end

-- a connection ends by a stop, which is answered so
abbrev pub RefusalEnds : ℕ → ℕ → Answer → Ending → Option (List ℕ) → Option (List ℕ) → Ending → Type 0
RefusalEnds n place answer named sent written end = (sending : Result (Unit {0}) Ending)
    × SendEnds place (answer_bytes_of answer place true) sent written sending × (end ≡ ended n sending named)

-- a connection ends by a stop behind n answers, at a place
abbrev pub StopEnds : ℕ → ℕ → Stop → Option (List ℕ) → Option (List ℕ) → Ending → Type 0
StopEnds n place stop.End sent written end = (end ≡ ending.End) × (written ≡ sent)
StopEnds n place stop.Cut sent written end = (end ≡ ending.Cut) × (written ≡ sent)
StopEnds n place stop.BadHead sent written end = RefusalEnds n place (refusal 400 (codes "BadHead")) ending.BadHead sent written end
StopEnds n place stop.TooLarge sent written end = RefusalEnds n place (refusal 413 (codes "TooLarge")) ending.TooLarge sent written end
StopEnds n place stop.Encoded sent written end = RefusalEnds n place (refusal 501 (codes "Encoded")) ending.Encoded sent written end
StopEnds n place stop.NeedsLength sent written end = RefusalEnds n place (refusal 411 (codes "NeedsLength")) ending.NeedsLength sent written end
StopEnds n place stop.ReadFault sent written end = (end ≡ ending.ReadFault) × (written ≡ sent)
StopEnds n place stop.Memory sent written end = UnableEnds place sent written end
