-- What is told of a connection where no fault of the keeper can come is told where less is known to be so.
use Rattle.std.proofs.Common.{◌≡◌, ℕ, List, Option, Result, Ok, Err, inl, inr}
use Rattle.http_wire.specs.declared.stop.Stop.{Stop}
use Rattle.http_wire.specs.declared.stop.Stop.TheVariants as stop
use Rattle.std.specs.Io.KnownBytes.{prepend_known}
use Rattle.project_machine.specs.Asking.{Visiting}
use Rattle.annotation_http.specs.Exchanges.Connections.{Connection, Bare, Holds}
use Rattle.annotation_http.specs.declared.connection.ending.Ending.{Ending}
use Rattle.annotation_http.specs.declared.connection.ending.Ending.TheVariants as ending
use Rattle.annotation_http.specs.Connection.Steps.{Serving, IsLastPark}
use Rattle.annotation_http.specs.Connection.Session.{AllAnswered, AnsweredLast, BrokenOff, ConnectionTold, Lacks, Owes, Refused, Refuses, Served, SessionEnds, SessionTold, Stepped, StopAnswered, Stopped, Taken}
use Rattle.program_inputs.specs.declared.trouble.Trouble.{Trouble}
use Rattle.project_commands.specs.Commands.Serving.{Serves}

abbrev served : (A B : Type 0) → (B → A) → (old new : Serving) (left now before written : Option (List ℕ)) (count : ℕ) → Served A old new left now before written count → Served B old new left now before written count
served A B f old new left now before written count s = record {
  messages = s.messages;
  answers = s.answers;
  takes = s.takes;
  goes_on = s.goes_on;
  run = s.run;
  bytes = s.bytes;
  number = s.number;
  few = s.few;
  quiet = λ b. s.quiet (f b);
}

abbrev taken : (A B : Type 0) → (B → A) → (old new : Serving) (left now before written : Option (List ℕ)) → Taken A old new left now before written → Taken B old new left now before written
taken A B f old new left now before written t = record {
  count = t.count;
  between = t.between;
  served = served A B f old new left t.between before written t.count t.served;
  message = t.message;
  takes = t.takes;
}

abbrev stepped : (A B : Type 0) → (B → A) → (old new : Serving) (left now before written : Option (List ℕ)) → Stepped A old new left now before written → Stepped B old new left now before written
stepped A B f old new left now before written s = record {
  middle = s.middle;
  taken = taken A B f old s.middle left now before written s.taken;
  given = s.given;
  step = s.step;
  kept = λ b. s.kept (f b);
}

abbrev stopped : (A B : Type 0) → (B → A) → (old new : Serving) (left now before written : Option (List ℕ)) (why : Stop) → Stopped A old new left now before written why → Stopped B old new left now before written why
stopped A B f old new left now before written why s = record {
  count = s.count;
  served = served A B f old new left now before written s.count s.served;
  stops = s.stops;
}

abbrev lacks : (A B : Type 0) → (B → A) → (old new : Serving) (left now before written : Option (List ℕ)) → Lacks A old new left now before written → Lacks B old new left now before written
lacks A B f old new left now before written (inl (count, s)) = inl (count, served A B f old new left now before written count s)
lacks A B f old new left now before written (inr s) = inr (stepped A B f old new left now before written s)

abbrev refuses : (A B : Type 0) → (B → A) → (old new : Serving) (left now before written : Option (List ℕ)) (why : Stop) → Refuses A old new left now before written why → Refuses B old new left now before written why
refuses A B f old new left now before written why r = record { stopped = stopped A B f old new left now before written why r.stopped; answer = r.answer; answers = r.answers }

abbrev owes : (A B : Type 0) → (B → A) → (old new : Serving) (left now before written : Option (List ℕ)) (piece : List ℕ) → Owes A old new left now before written piece → Owes B old new left now before written piece
owes A B f old new left now before written piece (inl (s, is)) = inl (stepped A B f old new left now before written s, is)
owes A B f old new left now before written piece (inr (inl (why, r, is))) = inr (inl (why, refuses A B f old new left now before written why r, is))
owes A B f old new left now before written piece (inr (inr (l, is))) = inr (inr (lacks A B f old new left now before written l, is))

abbrev stop_answered : (A B : Type 0) → (B → A) → (old new : Serving) (left now before written : Option (List ℕ)) (why : Stop) → StopAnswered A old new left now before written why → StopAnswered B old new left now before written why
stop_answered A B f old new left now before written why s = record { sent = s.sent; refuses = refuses A B f old new left now before s.sent why s.refuses; bytes = s.bytes }

abbrev refused : (A B : Type 0) → (B → A) → (old new : Serving) (left now before written : Option (List ℕ)) (why : Stop) → Refused A old new left now before written why → Refused B old new left now before written why
refused A B f old new left now before written why (s, few) = (stop_answered A B f old new left now before written why s, few)

abbrev answered_last : (A B : Type 0) → (B → A) → (old new : Serving) (left now before written : Option (List ℕ)) → AnsweredLast A old new left now before written → AnsweredLast B old new left now before written
answered_last A B f old new left now before written a = record { sent = a.sent; stepped = stepped A B f old new left now before a.sent a.stepped; bytes = a.bytes }

abbrev all_answered : (A B : Type 0) → (B → A) → (old new : Serving) (left now before written : Option (List ℕ)) → AllAnswered A old new left now before written → AllAnswered B old new left now before written
all_answered A B f old new left now before written (inl (a, is)) = inl (answered_last A B f old new left now before written a, is)
all_answered A B f old new left now before written (inr (why, s, is)) = inr (why, stop_answered A B f old new left now before written why s, is)

abbrev broken_off : (A B : Type 0) → (B → A) → (old new : Serving) (left now before written : Option (List ℕ)) → BrokenOff A old new left now before written → BrokenOff B old new left now before written
broken_off A B f old new left now before written b = record { sent = b.sent; piece = b.piece; owes = owes A B f old new left now before b.sent b.piece b.owes; front = b.front }

session_ends : (A B : Type 0) → (B → A) → (old new : Serving) (left : Option (List ℕ)) (held : List ℕ) (now before written : Option (List ℕ)) (end : Ending)
    → SessionEnds A old new left held now before written end → SessionEnds B old new left held now before written end
session_ends A B f old new left held now before written ending.End told = (stopped A B f old new left (prepend_known held now) before written stop.End told.0, told.1)
session_ends A B f old new left held now before written ending.Cut told = (stopped A B f old new left (prepend_known held now) before written stop.Cut told.0, told.1)
session_ends A B f old new left held now before written ending.BadHead told = refused A B f old new left (prepend_known held now) before written stop.BadHead told
session_ends A B f old new left held now before written ending.NeedsLength told = refused A B f old new left (prepend_known held now) before written stop.NeedsLength told
session_ends A B f old new left held now before written ending.TooLarge told = refused A B f old new left (prepend_known held now) before written stop.TooLarge told
session_ends A B f old new left held now before written ending.Encoded told = refused A B f old new left (prepend_known held now) before written stop.Encoded told
session_ends A B f old new left held now before written ending.Closed told = (answered_last A B f old new left (prepend_known held now) before written told.0, told.1, told.2)
session_ends A B f old new left held now before written ending.Spent told = all_answered A B f old new left (prepend_known held now) before written told
session_ends A B f old new left held now before written ending.ReadFault told = (told.0, served A B f old new left (prepend_known held now) before written told.0 told.1, told.2)
session_ends A B f old new left held now before written ending.WriteFault told = broken_off A B f old new left (prepend_known held now) before written told
session_ends A B f old new left held now before written ending.Memory told = (told.0, lacks A B f old new left (prepend_known held now) before told.0 told.1, told.2)

last_park : (A B : Type 0) → (B → A) → (connection : Connection) (old new : Visiting) → IsLastPark A connection old new → IsLastPark B connection old new
last_park A B f Bare old new told = told
last_park A B f (Holds held) old new (answered, visited, quiet) = (answered, visited, λ b. quiet (f b))

-- a connection that was served where the keeper cannot fail was served where less can
pub serves : (A B : Type 0) → (B → A) → (start : Connection) (old new : Visiting) (left now before written : Option (List ℕ)) (done : Result (Unit {0}) Trouble)
    → Serves A start old new left now before written done → Serves B start old new left now before written done
serves A B f start old new left now before written done s = record {
  end = s.end;
  told = record {
    behind = s.told.behind;
    session = record {
      held = s.told.session.held;
      ends = session_ends A B f _ s.told.behind left s.told.session.held now before written s.end s.told.session.ends;
      still = λ b. s.told.session.still (f b);
    };
    parked = last_park A B f s.told.behind.connection s.told.behind.visiting new s.told.parked;
    still = λ b. s.told.still (f b);
  };
  places = s.places;
  came = s.came;
}
