-- The session: all messages are served as one connection, and none is answered that memory ran out.
use Rattle.std.specs.Prelude.{◌≡◌, ℕ, ◌==◌, ◌||◌, Bool, false, List, [], ◌∷◌, length, codes, Option, Some}
use Rattle.std.specs.List.{starts_with, list_any}
use Rattle.std.specs.Prelude.{nat_eq}
use Rattle.mark_base.specs.FailList.{FailState, IsFaultless}
use Rattle.http_wire.specs.declared.message.Message.{Message}
use Rattle.http_wire.specs.declared.stop.Stop.TheVariants as stop
use Rattle.http_wire.specs.Messages.{Messages}
use Rattle.project_machine.specs.Requests.{Happened}
use Rattle.project_machine.specs.History.{last}
use Rattle.project_book.specs.Visits.{visiting_alone}
use Rattle.annotation_http.specs.Exchanges.Connections.{Bare}
use Rattle.annotation_http.specs.Connection.Session.{ConnectionTold}
use Rattle.annotation_http.specs.Connection.Talk.{talk_of}
use Rattle.annotation_http.specs.declared.connection.ending.Ending.TheVariants as ending

-- bytes have the first line of an answer that says that memory ran out
abbrev pub says_unable : List ℕ → Bool
says_unable [] = false
says_unable (byte ∷ bytes) = starts_with nat_eq (byte ∷ bytes) (codes "HTTP/1.1 503") || says_unable bytes

-- bytes are so many messages, and nothing more
pub record HasMessages (bytes : List ℕ) (count : ℕ) : Type 0 where
  pub messages : List Message
  pub are : Messages bytes messages stop.End
  pub number : length messages ≡ count

-- the messages were served as one connection to a project with a history, over a keeper in memory whose appends fail so, to the end of the bytes. The project then has this history, and nobody else changed it meanwhile
pub record ServesAll (appends : FailState) (log : List Happened) (input : List ℕ) (log_now : List Happened) : Type 0 where
  pub faults_now : ℕ
  pub room_now : ℕ
  pub left : Option (List ℕ)
  pub written : List ℕ
  pub told : ConnectionTold (IsFaultless appends) Bare (visiting_alone log (last log) appends.faults 18446744073709551615) (visiting_alone log_now (last log) faults_now room_now) (Some input) left (Some []) (Some written) ending.End
  pub able : list_any (λ given. given.answer.status == 503) (talk_of told).answers ≡ false
