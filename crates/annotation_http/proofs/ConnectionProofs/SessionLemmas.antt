-- How a connection goes on by one message, and how it ends.
use Rattle.std.proofs.Common.{◌≡◌, ◌≢◌, ℕ, ◌+◌, ◌<◌, ◌==◌, ◌⊎◌, List, [], ◌∷◌, ◌++◌, length, Option, Some, None, Result, Ok, Err, suc, Bool, true, false, refl, sym, ◌∙◌, ap, subst, append_assoc, append-nil, arith, inl, inr, lit<, if◌then◌else◌}
use Rattle.std.proofs.lemmas.Bool.{eqb-true, eqb-false}
use Rattle.std.proofs.lemmas.List.{length-append}
use Rattle.std.proofs.KnownBytes.{Appends-trans, Appends-nil}
use Rattle.std.specs.Prelude.{IfSome}
use Rattle.std.specs.List.{list_any}
use Rattle.std.specs.Io.KnownBytes.{Keeps, prepend_known}
use Rattle.mark_base.specs.Streams.{AppendsFront}
use Rattle.http_wire.specs.declared.answer.Answer.{Answer}
use Rattle.http_wire.specs.declared.message.Message.{Message}
use Rattle.http_wire.specs.declared.stop.Stop.{Stop}
use Rattle.http_wire.specs.declared.stop.Stop.TheVariants as stop
use Rattle.http_wire.specs.Answers.{answer_bytes_of, answer_bytes_to, stop_answer, unable}
use Rattle.http_wire.specs.Inbox.{TakesMessage, StopsAsDefined}
use Rattle.http_wire.specs.Messages.{ReadsMessage, StopsWith}
use Rattle.annotation_http.specs.Exchanges.Exchanges.{IsExchange}
use Rattle.project_machine.specs.Asking.{Visiting}
use Rattle.annotation_http.specs.Exchanges.Connections.{Connection, Bare, Holds}
use Rattle.annotation_http.specs.Connection.Steps.{Given, IsLastPark, Serving, Step, place_of, serving}
use Rattle.annotation_http.specs.Connection.Session.{AnswerEnds, ConnectionTold, IfTold, Lacks, Refused, RefusalEnds, Run, SendEnds, Served, SessionEnds, SessionTold, Stepped, StopAnswered, StopEnds, Stopped, Takes, TakesKnown, UnableEnds, bytes_from, bytes_of, is_bodiless, is_last_answer, owed}
use Rattle.annotation_http.specs.declared.connection.ending.Ending.{Ending}
use Rattle.annotation_http.specs.declared.connection.ending.Ending.TheVariants as ending

-- ---- one more message

takes_more : (bytes middle rest : List ℕ) (messages : List Message) (message : Message)
    → Takes bytes messages middle → ReadsMessage middle message rest → Takes bytes (messages ++ message ∷ []) rest
takes_more bytes middle rest [] message e reads = (rest, rw (← e) reads, refl)
takes_more bytes middle rest (first ∷ messages) message takes reads =
    (takes.0, takes.1, takes_more takes.0 middle rest messages message takes.2 reads)

pub takes_known_more : (left between now : Option (List ℕ)) (messages : List Message) (message : Message)
    → TakesKnown left messages between → TakesMessage between message now → TakesKnown left (messages ++ message ∷ []) now
takes_known_more None between now messages message p q = tt
takes_known_more (Some bytes) None now messages message p q = absurd p
takes_known_more (Some bytes) (Some middle) None messages message p q = absurd q
takes_known_more (Some bytes) (Some middle) (Some rest) messages message p q = takes_more bytes middle rest messages message p q

pub run_more : (old middle new : Serving) (messages : List Message) (answers : List Given) (message : Message) (given : Given)
    → Run old messages answers middle → Step middle message given new → Run old (messages ++ message ∷ []) (answers ++ given ∷ []) new
run_more old middle new [] [] message given e step = (new, rw (← e) step, refl)
run_more old middle new (first ∷ messages) (reply ∷ answers) message given run step =
    (run.0, run.1, run_more run.0 middle new messages answers message given run.2 step)
run_more old middle new [] (reply ∷ answers) message given run step = absurd run
run_more old middle new (first ∷ messages) [] message given run step = absurd run

pub bytes_more : (n : ℕ) (old middle : Serving) (messages : List Message) (answers : List Given) (message : Message) (given : Given)
    → Run old messages answers middle
    → bytes_from n (messages ++ message ∷ []) (answers ++ given ∷ []) ≡ bytes_from n messages answers ++ bytes_of (n + length messages) message given
bytes_more n old middle [] [] message given run = let e : n + 0 ≡ n = omega arith in rw (e, append-nil) refl
bytes_more n old middle (first ∷ messages) (reply ∷ answers) message given run =
    let e : n + suc (length messages) ≡ n + 1 + length messages = omega arith in
    rw (e, bytes_more (n + 1) run.0 middle messages answers message given run.2) (sym (append_assoc (bytes_of n first reply) (bytes_from (n + 1) messages answers) _))
bytes_more n old middle [] (reply ∷ answers) message given run = absurd run
bytes_more n old middle (first ∷ messages) [] message given run = absurd run

none_first : {X : Type 0} (p : X → Bool) (first : X) (xs more : List X) (b : Bool) → p first ≡ b → list_any p (first ∷ xs) ≡ false
    → (list_any p xs ≡ false → list_any p more ≡ false) → list_any p (first ∷ more) ≡ false
none_first p first xs more true e before rest = let no : true ≡ false = (rw e at before) in cc
none_first p first xs more false e before rest = rw e (rest (rw e at before))

-- one more of which it does not hold
pub none_more : {X : Type 0} (p : X → Bool) (xs : List X) (x : X) → list_any p xs ≡ false → p x ≡ false → list_any p (xs ++ x ∷ []) ≡ false
none_more p [] x before is = rw is refl
none_more p (first ∷ xs) x before is = none_first p first xs (xs ++ x ∷ []) (p first) refl before (λ e. none_more p xs x e is)

-- one more message was taken and answered, and more may come
pub served_more : (faultless : Type 0) (old middle new : Serving) (count : ℕ) (left between now before sent written : Option (List ℕ)) (message : Message)
    → Served faultless old middle left between before sent count → TakesMessage between message now
    → AnswerEnds faultless middle message new sent written count (Ok tt) → message.last ≡ false → count + 1 < 1000000
    → Served faultless old new left now before written (count + 1)
served_more faultless old middle new count left between now before sent written message served takes told going few = record {
  messages = served.messages ++ message ∷ [];
  answers = served.answers ++ told.given ∷ [];
  takes = takes_known_more left between now served.messages message served.takes takes;
  goes_on = none_more (λ (m : Message). m.last) served.messages message served.goes_on going;
  run = run_more old middle new served.messages served.answers message told.given served.run told.step;
  bytes =
      let e : 0 + length served.messages ≡ count = omega (arith, served.number) in
      rw (bytes_more 0 old middle served.messages served.answers message told.given served.run, e) (Appends-trans before sent written _ _ served.bytes told.sends);
  number = simp length-append (omega (arith, served.number));
  few = few;
  quiet = λ f. (none_more (λ (g : Given). g.failed) served.answers told.given (served.quiet f).0 (told.kept f).0, (told.kept f).1 ∙ (served.quiet f).1);
}

-- ---- how a connection begins

pub served_none : (faultless : Type 0) (start : Serving) (left before : Option (List ℕ)) → Served faultless start start left (prepend_known [] left) before before 0
served_none faultless start left before = record {
  messages = [];
  answers = [];
  takes = takes_none left;
  goes_on = refl;
  run = refl;
  bytes = Appends-nil before;
  number = refl;
  few = lit< tt;
  quiet = λ f. (refl, refl);
}
  where
    takes_none : (left : Option (List ℕ)) → TakesKnown left [] (prepend_known [] left)
    takes_none None = tt
    takes_none (Some bytes) = refl

-- ---- how it ends for want of memory

unable_ends : (faultless : Type 0) (old new : Serving) (left : Option (List ℕ)) (held : List ℕ) (now before sent written : Option (List ℕ)) (end : Ending)
    → Lacks faultless old new left (prepend_known held now) before sent → UnableEnds (place_of new) sent written end → SessionEnds faultless old new left held now before written end
unable_ends faultless old new left held now before sent written ending.Memory lacks told = (sent, lacks, told)
unable_ends faultless old new left held now before sent written ending.WriteFault lacks told = record {
  sent = sent;
  piece = unable (place_of new);
  owes = inr (inr (lacks, refl));
  front = told;
}
unable_ends faultless old new left held now before sent written end lacks told = absurd told

-- before the first message
pub session_unable : (faultless : Type 0) (start : Serving) (left before written : Option (List ℕ)) (end : Ending) → UnableEnds (place_of start) before written end
    → SessionTold faultless start start left left before written end
session_unable faultless start left before written end told = record {
  held = [];
  ends = unable_ends faultless start start left [] left before before written end (inl (0, served_none faultless start left before)) told;
  still = λ f. refl;
}

-- ---- how it ends by an answer

abbrev stepped_by : (faultless : Type 0) (old middle new : Serving) (count : ℕ) (left between now before sent written : Option (List ℕ)) (message : Message) (result : Result (Unit {0}) Ending)
    → Served faultless old middle left between before sent count → TakesMessage between message now → AnswerEnds faultless middle message new sent written count result
    → Stepped faultless old new left now before sent
stepped_by faultless old middle new count left between now before sent written message result served takes told = record {
  middle = middle;
  taken = record { count = count; between = between; served = served; message = message; takes = takes };
  given = told.given;
  step = told.step;
  kept = told.kept;
}

-- an answer that was not written whole
cut_by : (faultless : Type 0) (old new : Serving) (left : Option (List ℕ)) (held : List ℕ) (now before sent written : Option (List ℕ)) (end : Ending)
    (s : Stepped faultless old new left (prepend_known held now) before sent)
    → ((end ≡ ending.WriteFault) × AppendsFront sent written (owed s)) ⊎ UnableEnds (place_of new) sent written end → SessionEnds faultless old new left held now before written end
cut_by faultless old new left held now before sent written end s (inl (is, front)) = rw is record {
  sent = sent;
  piece = owed s;
  owes = inl (s, refl);
  front = front;
}
cut_by faultless old new left held now before sent written end s (inr told) = unable_ends faultless old new left held now before sent written end (inr s) told

-- by an answer that was not written whole
pub session_cut : (faultless : Type 0) (old middle new : Serving) (count : ℕ) (left between now before sent written : Option (List ℕ)) (held : List ℕ) (message : Message) (end : Ending)
    → Served faultless old middle left between before sent count → TakesMessage between message (prepend_known held now)
    → AnswerEnds faultless middle message new sent written count (Err end) → SessionTold faultless old new left now before written end
session_cut faultless old middle new count left between now before sent written held message end served takes told = record {
  held = held;
  ends =
      cut_by faultless old new left held now before sent written end
      (stepped_by faultless old middle new count left between (prepend_known held now) before sent written message (Err end) served takes told) told.sends;
  still = λ f. (told.kept f).1 ∙ (served.quiet f).1;
}

-- by the 1,000,000th answer
pub session_spent : (faultless : Type 0) (old middle new : Serving) (count : ℕ) (left between now before sent written : Option (List ℕ)) (held : List ℕ) (message : Message)
    → Served faultless old middle left between before sent count → TakesMessage between message (prepend_known held now)
    → AnswerEnds faultless middle message new sent written count (Ok tt) → count + 1 ≡ 1000000 → SessionTold faultless old new left now before written ending.Spent
session_spent faultless old middle new count left between now before sent written held message served takes told all = record {
  held = held;
  ends = inl (
    record {
      sent = sent;
      stepped = stepped_by faultless old middle new count left between (prepend_known held now) before sent written message (Ok tt) served takes told;
      bytes = told.sends;
    },
    all,
  );
  still = λ f. (told.kept f).1 ∙ (served.quiet f).1;
}

-- by a message that asks to close
pub session_closed : (faultless : Type 0) (old middle new : Serving) (count : ℕ) (left between now before sent written : Option (List ℕ)) (held : List ℕ) (message : Message)
    → Served faultless old middle left between before sent count → TakesMessage between message (prepend_known held now)
    → AnswerEnds faultless middle message new sent written count (Ok tt) → message.last ≡ true → count + 1 < 1000000
    → SessionTold faultless old new left now before written ending.Closed
session_closed faultless old middle new count left between now before sent written held message served takes told last few = record {
  held = held;
  ends = (
    record {
      sent = sent;
      stepped = stepped_by faultless old middle new count left between (prepend_known held now) before sent written message (Ok tt) served takes told;
      bytes = told.sends;
    },
    last,
    few,
  );
  still = λ f. (told.kept f).1 ∙ (served.quiet f).1;
}

-- ---- how it ends by a stop

takes_kept : (left between now : Option (List ℕ)) (messages : List Message) → TakesKnown left messages between → Keeps between now → TakesKnown left messages now
takes_kept None between now messages p q = tt
takes_kept (Some bytes) None now messages p q = absurd p
takes_kept (Some bytes) (Some middle) None messages p q = absurd q
takes_kept (Some bytes) (Some middle) (Some rest) messages p q = rw q p

served_kept : (faultless : Type 0) (old new : Serving) (count : ℕ) (left between now before written : Option (List ℕ))
    → Served faultless old new left between before written count → Keeps between now → Served faultless old new left now before written count
served_kept faultless old new count left between now before written served same = record {
  messages = served.messages;
  answers = served.answers;
  takes = takes_kept left between now served.messages served.takes same;
  goes_on = served.goes_on;
  run = served.run;
  bytes = served.bytes;
  number = served.number;
  few = served.few;
  quiet = served.quiet;
}

told_kept : (left between now : Option (List ℕ)) (messages : List Message) (P : List ℕ → Type 0)
    → TakesKnown left messages between → Keeps between now → IfSome between P → IfTold left now P
told_kept None between now messages P takes same p = tt
told_kept (Some bytes) None now messages P takes same p = absurd takes
told_kept (Some bytes) (Some middle) None messages P takes same p = absurd same
told_kept (Some bytes) (Some middle) (Some rest) messages P takes same p = rw same p

abbrev stopped_by : (faultless : Type 0) (old new : Serving) (count : ℕ) (left between now before written : Option (List ℕ)) (why : Stop)
    → Served faultless old new left between before written count → Keeps between now → IfSome between (λ bytes. StopsWith bytes why)
    → Stopped faultless old new left now before written why
stopped_by faultless old new count left between now before written why served same stops = record {
  count = count;
  served = served_kept faultless old new count left between now before written served same;
  stops = told_kept left between now served.messages (λ bytes. StopsWith bytes why) served.takes same stops;
}

-- by the answer to a stop, which was written whole
whole_ends : (faultless : Type 0) (old new : Serving) (left : Option (List ℕ)) (held : List ℕ) (now before written : Option (List ℕ)) (why : Stop) (named end : Ending) (b : Bool)
    (s : StopAnswered faultless old new left (prepend_known held now) before written why)
    → (s.refuses.stopped.count + 1 == 1000000) ≡ b
    → (Refused faultless old new left (prepend_known held now) before written why → SessionEnds faultless old new left held now before written named)
    → end ≡ (if b then ending.Spent else named) → SessionEnds faultless old new left held now before written end
whole_ends faultless old new left held now before written why named end true s all as_named is = rw is (inr (why, s, eqb-true _ _ all))
whole_ends faultless old new left held now before written why named end false s few as_named is =
    let other : s.refuses.stopped.count + 1 ≢ 1000000 = eqb-false _ _ few in
    rw is (as_named (s, omega (arith, s.refuses.stopped.served.few, other)))

-- by a stop that is answered
refused_ends : (faultless : Type 0) (old new : Serving) (left : Option (List ℕ)) (held : List ℕ) (now before sent written : Option (List ℕ)) (why : Stop) (answer : Answer) (named end : Ending)
    (stopped : Stopped faultless old new left (prepend_known held now) before sent why)
    → stop_answer why ≡ Some answer
    → (Refused faultless old new left (prepend_known held now) before written why → SessionEnds faultless old new left held now before written named)
    → RefusalEnds stopped.count (place_of new) answer named sent written end → SessionEnds faultless old new left held now before written end
refused_ends faultless old new left held now before sent written why answer named end stopped answers as_named (Ok done, whole, is) =
    whole_ends faultless old new left held now before written why named end (stopped.count + 1 == 1000000)
    record { sent = sent; refuses = record { stopped = stopped; answer = answer; answers = answers }; bytes = whole } refl as_named is
refused_ends faultless old new left held now before sent written why answer named end stopped answers as_named (Err broken, inl (fault, front), is) =
    rw (is, fault) record {
      sent = sent;
      piece = answer_bytes_of answer (place_of new) true;
      owes = inr (inl (why, record { stopped = stopped; answer = answer; answers = answers }, refl));
      front = front;
    }
refused_ends faultless old new left held now before sent written why answer named end stopped answers as_named (Err broken, inr told, is) =
    rw is (unable_ends faultless old new left held now before sent written broken (inl (stopped.count, stopped.served)) told)

pub session_stops : (faultless : Type 0) (old new : Serving) (count : ℕ) (left between now before sent written : Option (List ℕ)) (held : List ℕ) (why : Stop) (end : Ending)
    → Served faultless old new left between before sent count → Keeps between (prepend_known held now) → StopsAsDefined between held now why
    → StopEnds count (place_of new) why sent written end → SessionTold faultless old new left now before written end
session_stops faultless old new count left between now before sent written held stop.End end served same stops ends = record {
  held = held;
  ends = rw (ends.0, ends.1) (stopped_by faultless old new count left between (prepend_known held now) before sent stop.End served same stops.0, stops.1);
  still = λ f. (served.quiet f).1;
}
session_stops faultless old new count left between now before sent written held stop.Cut end served same stops ends = record {
  held = held;
  ends = rw (ends.0, ends.1) (stopped_by faultless old new count left between (prepend_known held now) before sent stop.Cut served same stops.0, stops.1);
  still = λ f. (served.quiet f).1;
}
session_stops faultless old new count left between now before sent written held stop.BadHead end served same stops ends = record {
  held = held;
  ends =
      refused_ends faultless old new left held now before sent written stop.BadHead _ ending.BadHead end
      (stopped_by faultless old new count left between (prepend_known held now) before sent stop.BadHead served same stops) refl (λ r. r) ends;
  still = λ f. (served.quiet f).1;
}
session_stops faultless old new count left between now before sent written held stop.TooLarge end served same stops ends = record {
  held = held;
  ends =
      refused_ends faultless old new left held now before sent written stop.TooLarge _ ending.TooLarge end
      (stopped_by faultless old new count left between (prepend_known held now) before sent stop.TooLarge served same stops) refl (λ r. r) ends;
  still = λ f. (served.quiet f).1;
}
session_stops faultless old new count left between now before sent written held stop.Encoded end served same stops ends = record {
  held = held;
  ends =
      refused_ends faultless old new left held now before sent written stop.Encoded _ ending.Encoded end
      (stopped_by faultless old new count left between (prepend_known held now) before sent stop.Encoded served same stops) refl (λ r. r) ends;
  still = λ f. (served.quiet f).1;
}
session_stops faultless old new count left between now before sent written held stop.NeedsLength end served same stops ends = record {
  held = held;
  ends =
      refused_ends faultless old new left held now before sent written stop.NeedsLength _ ending.NeedsLength end
      (stopped_by faultless old new count left between (prepend_known held now) before sent stop.NeedsLength served same stops) refl (λ r. r) ends;
  still = λ f. (served.quiet f).1;
}
session_stops faultless old new count left between now before sent written held stop.ReadFault end served same stops ends = record {
  held = held;
  ends = rw (ends.0, ends.1) (count, served_kept faultless old new count left between (prepend_known held now) before sent served same, stops);
  still = λ f. (served.quiet f).1;
}
session_stops faultless old new count left between now before sent written held stop.Memory end served same stops ends = record {
  held = held;
  ends =
      unable_ends faultless old new left held now before sent written end
      (inl (count, served_kept faultless old new count left between (prepend_known held now) before sent served same)) ends;
  still = λ f. (served.quiet f).1;
}

-- ---- one answer, at the place of the visitor

-- an answer that was sent
pub answered_ends : (faultless : Type 0) (old new : Serving) (message : Message) (answer : Answer) (sent written : Option (List ℕ)) (n place : ℕ) (last bodiless : Bool) (result : Result (Unit {0}) Ending)
    → IsExchange old.connection old.visiting faultless message new.connection new.visiting answer → place ≡ place_of new → last ≡ is_last_answer n message → bodiless ≡ is_bodiless message
    → SendEnds place (answer_bytes_to bodiless answer place last) sent written result → AnswerEnds faultless old message new sent written n result
answered_ends faultless old new message answer sent written n place last bodiless result done at is lacks told = record {
  given = record { answer = answer; place = place_of new; failed = done.failed };
  step = record { carried = done.carried; place = refl; cause = done.cause };
  kept = done.quiet;
  sends =
      subst (λ (b : Bool). SendEnds (place_of new) (answer_bytes_to b answer (place_of new) (is_last_answer n message)) sent written result) lacks
      (subst (λ (b : Bool). SendEnds (place_of new) (answer_bytes_to bodiless answer (place_of new) b) sent written result) is
      (subst (λ (k : ℕ). SendEnds k (answer_bytes_to bodiless answer k last) sent written result) at told));
}

-- an answer that found no memory
pub lacking_ends : (faultless : Type 0) (old new : Serving) (message : Message) (sent written : Option (List ℕ)) (n place : ℕ) (end : Ending)
    → ((answer : Answer) × IsExchange old.connection old.visiting faultless message new.connection new.visiting answer) → place ≡ place_of new
    → UnableEnds place sent written end → AnswerEnds faultless old message new sent written n (Err end)
lacking_ends faultless old new message sent written n place end (answer, done) at told = record {
  given = record { answer = answer; place = place_of new; failed = done.failed };
  step = record { carried = done.carried; place = refl; cause = done.cause };
  kept = done.quiet;
  sends = inr (subst (λ (k : ℕ). UnableEnds k sent written end) at told);
}

-- what no fault can come for before, none can come for now
pub answers_for : (first now : Type 0) (old new : Serving) (message : Message) (sent written : Option (List ℕ)) (n : ℕ) (result : Result (Unit {0}) Ending)
    → (first → now) → AnswerEnds now old message new sent written n result → AnswerEnds first old message new sent written n result
answers_for first now old new message sent written n result stays told = record { given = told.given; step = told.step; kept = λ f. told.kept (stays f); sends = told.sends }

pub unable_at : (place n : ℕ) (sent written : Option (List ℕ)) (end : Ending) → place ≡ n → UnableEnds place sent written end → UnableEnds n sent written end
unable_at place n sent written end e told = subst (λ (k : ℕ). UnableEnds k sent written end) e told

pub stops_at : (count place n : ℕ) (why : Stop) (sent written : Option (List ℕ)) (end : Ending) → place ≡ n → StopEnds count place why sent written end → StopEnds count n why sent written end
stops_at count place n why sent written end e told = subst (λ (k : ℕ). StopEnds count k why sent written end) e told

-- ---- the last park

-- where no fault can come before the messages, none can come in the last park
pub park_for : (first now : Type 0) (c : Connection) (old new : Visiting) → (first → now) → IsLastPark now c old new → IsLastPark first c old new
park_for first now Bare old new stays same = same
park_for first now (Holds held) old new stays (answered, visited, quiet) = (answered, visited, λ f. quiet (stays f))

-- where none can come, it leaves the count of faults
pub park_still : (faultless : Type 0) (c : Connection) (old new : Visiting) → IsLastPark faultless c old new → faultless → new.faults ≡ old.faults
park_still faultless Bare old new same f = ap (λ (v : Visiting). v.faults) same
park_still faultless (Holds held) old new (answered, visited, quiet) f = (quiet f).0

-- the messages of a connection and its last park
pub connection_told : (faultless now : Type 0) (start : Connection) (old : Visiting) (behind : Serving) (new : Visiting) (left rest before written : Option (List ℕ)) (end : Ending)
    → (faultless → now) → SessionTold faultless (serving start old) behind left rest before written end → IsLastPark now behind.connection behind.visiting new
    → ConnectionTold faultless start old new left rest before written end
connection_told faultless now start old behind new left rest before written end stays session parked =
    let last : IsLastPark faultless behind.connection behind.visiting new = park_for faultless now behind.connection behind.visiting new stays parked in
    record {
      behind = behind;
      session = session;
      parked = last;
      still = λ f. park_still faultless behind.connection behind.visiting new last f ∙ session.still f;
    }
