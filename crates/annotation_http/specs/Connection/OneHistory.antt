-- A connection as one history tells it: each answer is the one that the project gives at its place in that history.
use Rattle.std.specs.Prelude.{◌≡◌, ◌≢◌, ℕ, ◌+◌, ◌≤◌, false, List, [], ◌∷◌, ◌++◌, Some, None}
use Rattle.http_wire.specs.declared.answer.Answer.{Answer}
use Rattle.http_wire.specs.declared.message.Message.{Message}
use Rattle.http_answers.specs.Desk.DeskAnswers.{no_memory}
use Rattle.http_answers.specs.declared.routes.route.Route.{Route}
use Rattle.http_answers.specs.Answers.Answers.{answer_on}
use Rattle.project_machine.specs.declared.book_refusal.BookRefusal.TheVariants as no
use Rattle.project_machine.specs.Requests.{Asked, Park, Answered, HandedOut, Happened, Out, Refused}
use Rattle.project_machine.specs.Machine.{Step, step}
use Rattle.project_machine.specs.History.{after, change_at, last, upto}
use Rattle.project_machine.specs.Asking.{Visiting}
use Rattle.annotation_http.specs.Exchanges.Connections.{Connection, Bare, Holding, Holds}
use Rattle.annotation_http.specs.Exchanges.Plans.{AtOnce, AsksBook, planned}
use Rattle.annotation_http.specs.Exchanges.Exchanges.{desk_asked, is_not_kept, next}
use Rattle.annotation_http.specs.Connection.Steps.{Given, Serving, place_of}
use Rattle.annotation_http.specs.Connection.Talk.{Talk}

-- an answer at a place, which does not say that the keeper failed
abbrev pub given_at : ℕ → Answer → Given
given_at place answer = record { answer = answer; place = place; failed = false }

-- what the project answers on a route, at a place
abbrev pub replied_at : Route → ℕ → Answered → Given
replied_at route place answered = record { answer = answer_on route answered; place = place; failed = is_not_kept answered }

-- what the project answers, and what happens, behind the changes up to a place
abbrev pub step_behind : List Happened → ℕ → List ℕ → Asked → Step
step_behind seen place caller asked = step (after (upto place seen)) caller asked

-- a caller's request is answered so at a place k, the place n or a later one, by what a history is up to k. One that changes nothing is answered at the place at which it was asked. A change stands at the place behind that, and is answered there. Where the keeper failed or memory ran out, nothing happened. Last come the places of the changes made, and the place of the answer
pub data AskedBy (seen : List Happened) (n : ℕ) (caller : List ℕ) (asked : Asked) : Answered → List ℕ → ℕ → Type 0 where
  reads : (k : ℕ) (answered : Answered) → n ≤ k → k ≤ last seen → step_behind seen k caller asked ≡ record { answer = answered; change = None } → AskedBy seen n caller asked answered [] k
  changes : (k : ℕ) (answered : Answered) (happened : Happened)
      → n ≤ k → k + 1 ≤ last seen → step_behind seen k caller asked ≡ record { answer = answered; change = Some happened }
      → change_at (k + 1) seen ≡ Some happened → AskedBy seen n caller asked answered ((k + 1) ∷ []) (k + 1)
  fails : (k : ℕ) → n ≤ k → k ≤ last seen → (step_behind seen k caller asked).change ≢ None → AskedBy seen n caller asked (Refused no.Keeper []) [] k
  wants_memory : (k : ℕ) → n ≤ k → k ≤ last seen → AskedBy seen n caller asked (Refused no.Memory []) [] k

-- messages are answered so, from a connection at a place to a connection at a place; the list of numbers has the places of the changes that they made, in turn. An answer that asks nothing has the place of the one before, and so has the answer that memory ran out before anything was asked, which leaves the connection as it is. Any other is the project's, and the connection goes on by it; but a desk that was handed out and found no memory is not held
pub data ToldBy (seen : List Happened) : Connection → ℕ → List Message → List Given → List ℕ → Connection → ℕ → Type 0 where
  is_over : (c : Connection) (n : ℕ) → ToldBy seen c n [] [] [] c n
  is_at_once : (c c_next c_now : Connection) (n n_now : ℕ) (m : Message) (answer : Answer) (messages : List Message) (answers : List Given) (own : List ℕ)
      → planned c m ≡ AtOnce answer c_next
      → ToldBy seen c_next n messages answers own c_now n_now → ToldBy seen c n (m ∷ messages) (given_at n answer ∷ answers) own c_now n_now
  is_unable : (c c_now : Connection) (n n_now : ℕ) (m : Message) (messages : List Message) (answers : List Given) (own : List ℕ)
      → ToldBy seen c n messages answers own c_now n_now → ToldBy seen c n (m ∷ messages) (given_at n no_memory ∷ answers) own c_now n_now
  asks : (c c_now : Connection) (n k n_now : ℕ) (m : Message) (route : Route) (caller : List ℕ) (asked : Asked) (answered : Answered) (messages : List Message) (answers : List Given) (made own : List ℕ)
      → planned c m ≡ AsksBook route caller asked → AskedBy seen n caller asked answered made k
      → ToldBy seen (next c caller asked answered) k messages answers own c_now n_now
      → ToldBy seen c n (m ∷ messages) (replied_at route k answered ∷ answers) (made ++ own) c_now n_now
  loses : (c c_now : Connection) (n k n_now : ℕ) (m : Message) (route : Route) (caller doc : List ℕ) (asked : Asked) (out : Out) (messages : List Message) (answers : List Given) (own : List ℕ)
      → planned c m ≡ AsksBook route caller asked → desk_asked asked ≡ Some doc → AskedBy seen n caller asked (HandedOut out) (k ∷ []) k
      → ToldBy seen Bare k messages answers own c_now n_now → ToldBy seen c n (m ∷ messages) (given_at k no_memory ∷ answers) (k ∷ own) c_now n_now

-- messages in turn, from what a connection and its visitor are to what they are then: the places that the visitor calls its own grow by those of the changes made, in order
pub record RunToldBy (seen : List Happened) (old : Serving) (messages : List Message) (answers : List Given) (new : Serving) : Type 0 where
  pub own : List ℕ
  pub told : ToldBy seen old.connection (place_of old) messages answers own new.connection (place_of new)
  pub mine : new.visiting.mine ≡ old.visiting.mine ++ own

-- the desk that is still held behind the last message is parked by one more request, whose answer is for no one
pub data ParkedBy (seen : List Happened) (n : ℕ) : Connection → List ℕ → ℕ → Type 0 where
  holds_none : ParkedBy seen n Bare [] n
  is_asked : (held : Holding) (answered : Answered) (made : List ℕ) (k : ℕ) → AskedBy seen n held.who (Park held.doc held.hold held.desk.done held.desk.undone) answered made k → ParkedBy seen n (Holds held) made k

-- a whole connection: its messages, the last one too, up to the place of the answer to that, and the last park. What its visitor has seen goes on from what it had seen, and the places that it calls its own grow by those of the changes that this connection made, in order
pub record ConnectionToldBy (seen : List Happened) (start : Connection) (old new : Visiting) (place : ℕ) (talk : Talk) : Type 0 where
  pub behind : Connection
  pub own : List ℕ
  pub told : ToldBy seen start (last old.seen) talk.messages talk.answers own behind place
  pub made : List ℕ
  pub parked : ParkedBy seen place behind made (last new.seen)
  pub mine : new.mine ≡ old.mine ++ (own ++ made)
  pub others : List Happened
  pub grown : new.seen ≡ old.seen ++ others
