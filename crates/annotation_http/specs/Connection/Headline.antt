-- What the people on a connection may rely on, on the bytes, the messages and the one history: the bytes that come in are messages, those that go out are the answers to them, one history gives all these answers, and at each place of that history every committed layer obeys the configuration, every table of agreement is counted over what stands there, and every refusal has its rule.
use Rattle.std.specs.Prelude.{◌≡◌, ℕ, ◌<◌, ◌⊎◌, true, false, List, [], ◌∷◌, ◌++◌, Option, Some, None}
use Rattle.std.specs.List.{list_any}
use Rattle.std.specs.Io.KnownBytes.{Appends, prepend_known}
use Rattle.mark_base.specs.Streams.{AppendsFront}
use Rattle.http_wire.specs.declared.answer.Answer.{Answer}
use Rattle.http_wire.specs.declared.message.Message.{Message}
use Rattle.http_wire.specs.declared.stop.Stop.{Stop}
use Rattle.http_wire.specs.Answers.{answer_bytes_of, stop_answer, unable}
use Rattle.http_wire.specs.Messages.{StopsWith}
use Rattle.kappa_alpha.specs.declared.figures.AlphaLine.{AlphaLine}
use Rattle.kappa_alpha.specs.declared.figures.PairLine.{PairLine}
use Rattle.project_machine.specs.declared.book_refusal.BookRefusal.{BookRefusal}
use Rattle.project_machine.specs.declared.book_refusal.BookRefusal.TheVariants as no
use Rattle.project_machine.specs.Asking.{IsCounted, Visiting}
use Rattle.project_machine.specs.History.{after, begin, upto}
use Rattle.project_machine.specs.Legal.{LayersObey}
use Rattle.project_machine.specs.Machine.{of_text, refusal, size_in, step}
use Rattle.project_machine.specs.ProjectState.{ProjectState, annotators}
use Rattle.project_machine.specs.Requests.{Alpha, Asked, Happened, Pairs, Refused}
use Rattle.project_machine.specs.Tables.{all_line, pair_lines}
use Rattle.annotation_http.specs.Exchanges.Connections.{Connection}
use Rattle.annotation_http.specs.declared.connection.ending.Ending.{Ending}
use Rattle.annotation_http.specs.declared.connection.ending.Ending.TheVariants as ending
use Rattle.annotation_http.specs.Connection.OneHistory.{ConnectionToldBy}
use Rattle.annotation_http.specs.Connection.Session.{IfTold, TakesKnown, bytes_from}
use Rattle.annotation_http.specs.Connection.Steps.{Given}
use Rattle.annotation_http.specs.Connection.Talk.{Talk}

-- ---- what stands at a place

-- a table of agreement that a project answers has the figures that are counted anew over the layers that stand in it
pub record TablesCounted (s : ProjectState) : Type 0 where
  pub pairs : (caller : List ℕ) (asked : Asked) (names : List (List ℕ)) (lines : List PairLine) → (step s caller asked).answer ≡ Pairs names lines → (names ≡ annotators s) × (lines ≡ pair_lines s)
  pub alpha : (caller : List ℕ) (asked : Asked) (line : AlphaLine) → (step s caller asked).answer ≡ Alpha line → line ≡ all_line s

-- a change is refused for the length of its entry
pub record IsTooLong (s : ProjectState) (caller : List ℕ) (asked : Asked) (told : BookRefusal) : Type 0 where
  pub allowed : refusal s caller asked ≡ None
  pub happened : Happened
  pub size : told ≡ no.EntryTooLong (size_in s happened)
  pub long : 16777216 < size_in s happened

-- a refusal of a project is that of the first rule that the request breaks, or of an entry that is too long, and names what the rule names
pub record IsRuled (s : ProjectState) (caller : List ℕ) (asked : Asked) (told : BookRefusal) (named : List ℕ) : Type 0 where
  pub rule : (refusal s caller asked ≡ Some told) ⊎ IsTooLong s caller asked told
  pub names : named ≡ of_text s asked told

-- what stands at a place of a history: every committed layer obeys the configuration, every table of agreement is counted over the layers that stand there, and every refusal has its rule
pub record IsTrustworthy (s : ProjectState) : Type 0 where
  pub layers_obey : LayersObey s
  pub tables : TablesCounted s
  pub refusals : (caller : List ℕ) (asked : Asked) (told : BookRefusal) (named : List ℕ) → (step s caller asked).answer ≡ Refused told named → IsRuled s caller asked told named

-- ---- what is written

-- the last bytes that are written, which answer no message: none; the answer to bytes that are no message and stand first in what is left; or that memory ran out
pub data Closes (left rest : Option (List ℕ)) (place : ℕ) : List ℕ → Type 0 where
  is_silent : Closes left rest place []
  is_stopped : (why : Stop) (answer : Answer) → IfTold left rest (λ bytes. StopsWith bytes why) → stop_answer why ≡ Some answer → Closes left rest place (answer_bytes_of answer place true)
  lacks_memory : Closes left rest place (unable place)

-- the bytes of a talk: those of the answers to its messages in turn, and the last ones; or, where there is no memory for the bytes of the last answer, that in their place
pub data Speaks (left rest : Option (List ℕ)) (place : ℕ) (talk : Talk) : List ℕ → Type 0 where
  answers_all : (closing : List ℕ) → Closes left rest place closing → Speaks left rest place talk (bytes_from 0 talk.messages talk.answers ++ closing)
  lacks_last : (messages : List Message) (answers : List Given) (message : Message) (given : Given)
      → talk ≡ record { messages = messages ++ message ∷ []; answers = answers ++ given ∷ [] } → Speaks left rest place talk (bytes_from 0 messages answers ++ unable place)

-- these bytes were written, all of them; or a front of them, where the connection ends because a write failed
abbrev pub WritesTo : Ending → (before written : Option (List ℕ)) → List ℕ → Type 0
WritesTo ending.WriteFault before written bytes = AppendsFront before written bytes
WritesTo end before written bytes = Appends before written bytes

-- ---- the headline

-- a talk: its messages stand one after another at the front of the bytes that came in, and what is left of these are the bytes behind them; the bytes of its answers were written; these answers are the ones that what was seen gives, and each history that goes on from it, from the place that was seen before, and up to this place; that the keeper failed is answered only where the visitor counted a fault, and not where no fault can come; and what stands at each place of what was seen can be trusted
pub record Headline (faultless : Type 0) (start : Connection) (old new : Visiting) (left now before written : Option (List ℕ)) (end : Ending) : Type 0 where
  pub talk : Talk
  pub behind : List ℕ
  pub taken : TakesKnown left talk.messages (prepend_known behind now)
  pub place : ℕ
  pub bytes : List ℕ
  pub speaks : Speaks left (prepend_known behind now) place talk bytes
  pub writes : WritesTo end before written bytes
  pub by_one_history : (more : List Happened) → ConnectionToldBy (new.seen ++ more) start old new place talk
  pub counted : list_any (λ given. given.failed) talk.answers ≡ true → IsCounted old new
  pub quiet : faultless → (list_any (λ given. given.failed) talk.answers ≡ false) × (new.faults ≡ old.faults)
  pub places : (place : ℕ) → begin new.seen < place → IsTrustworthy (after (upto place new.seen))
