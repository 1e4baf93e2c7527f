-- A fault of the keeper that one answer of a connection tells was counted meanwhile, and stays counted.
use Rattle.std.proofs.Common.{◌≡◌, ℕ, ◌≤◌, Bool, true, false, List, [], ◌∷◌, refl, sym, ap, arith, inl, inr, le_refl}
use Rattle.std.specs.List.{list_any}
use Rattle.http_wire.specs.declared.answer.Answer.{Answer}
use Rattle.http_wire.specs.declared.message.Message.{Message}
use Rattle.project_machine.specs.Asking.{IsCounted, Visited, Visiting}
use Rattle.project_machine.specs.Requests.{Answered, Asked, HandedOut, Park}
use Rattle.annotation_http.specs.Exchanges.Connections.{Connection, Bare, Holds}
use Rattle.annotation_http.specs.Exchanges.Exchanges.{Carried}
use Rattle.annotation_http.specs.Exchanges.Exchanges as exchange
use Rattle.annotation_http.specs.Exchanges.Plans.{Plan, planned}
use Rattle.annotation_http.specs.Connection.Session.{ConnectionTold, Run}
use Rattle.annotation_http.specs.Connection.Steps.{Given, IsLastPark, Serving, serving}

-- the count of faults did not fall, and a count at its last value stays there
record Later (old new : Visiting) : Type 0 where
  counts : old.faults ≤ new.faults
  spent : old.spent ≡ true → new.spent ≡ true

same_later : (old new : Visiting) → new ≡ old → Later old new
same_later old new same = rw same record { counts = le_refl old.faults; spent = λ s. s }

visited_later : (old new : Visiting) (caller : List ℕ) (asked : Asked) (answered : Answered) → Visited old new caller asked answered → Later old new
visited_later old new caller asked answered visited = record { counts = visited.later; spent = visited.stays_spent }

later_through : (old middle new : Visiting) → Later old middle → Later middle new → Later old new
later_through old middle new first second = record { counts = omega (arith, first.counts, second.counts); spent = λ s. second.spent (first.spent s) }

-- a fault that was counted stays counted
counted_on : (old middle new : Visiting) → IsCounted old middle → Later middle new → IsCounted old new
counted_on old middle new (inl rose) later = inl (omega (arith, rose, later.counts))
counted_on old middle new (inr spent) later = inr (later.spent spent)

-- and is counted from before
counted_from : (old middle new : Visiting) → Later old middle → IsCounted middle new → IsCounted old new
counted_from old middle new later (inl rose) = inl (omega (arith, rose, later.counts))
counted_from old middle new later (inr spent) = inr spent

-- ---- messages in turn

carried_later : (plan : Plan) (c c_next : Connection) (old new : Visiting) (answer : Answer) (failed : Bool) → Carried plan c old answer c_next new failed → Later old new
carried_later plan c c_next old new answer failed (exchange.is_at_once p same kept) = same_later old new same
carried_later plan c c_next old new answer failed (exchange.asks route caller asked answered p visited is goes kept) = visited_later old new caller asked answered visited
carried_later plan c c_next old new answer failed (exchange.loses route caller doc asked out p d visited is goes kept) = visited_later old new caller asked (HandedOut out) visited
carried_later plan c c_next old new answer failed (exchange.is_unable is goes same kept) = same_later old new same

run_later : (old new : Serving) (ms : List Message) (gs : List Given) → Run old ms gs new → Later old.visiting new.visiting
run_later old new [] [] same = same_later old.visiting new.visiting (ap (λ (s : Serving). s.visiting) same)
run_later old new (m ∷ ms) (g ∷ gs) (middle, step, run) =
    later_through old.visiting middle.visiting new.visiting
    (carried_later (planned old.connection m) old.connection middle.connection old.visiting middle.visiting g.answer g.failed step.carried) (run_later middle new ms gs run)
run_later old new [] (g ∷ gs) run = absurd run
run_later old new (m ∷ ms) [] run = absurd run

-- one of some answers says that the keeper failed: the first does, or another
some_fails : (g : Given) (gs : List Given) (b : Bool) (old middle new : Visiting) → g.failed ≡ b → (g.failed ≡ true → IsCounted old middle) → Later old middle → Later middle new
    → (list_any (λ (given : Given). given.failed) gs ≡ true → IsCounted middle new) → list_any (λ (given : Given). given.failed) (g ∷ gs) ≡ true → IsCounted old new
some_fails g gs true old middle new e here first second others some = counted_on old middle new (here e) second
some_fails g gs false old middle new e here first second others some = counted_from old middle new first (others (rw e at some))

run_counted : (old new : Serving) (ms : List Message) (gs : List Given) → Run old ms gs new → list_any (λ (given : Given). given.failed) gs ≡ true → IsCounted old.visiting new.visiting
run_counted old new [] [] same some = let no : false ≡ true = some in cc
run_counted old new (m ∷ ms) (g ∷ gs) (middle, step, run) some =
    some_fails g gs g.failed old.visiting middle.visiting new.visiting refl step.cause
    (carried_later (planned old.connection m) old.connection middle.connection old.visiting middle.visiting g.answer g.failed step.carried) (run_later middle new ms gs run)
    (run_counted middle new ms gs run) some
run_counted old new [] (g ∷ gs) run some = absurd run
run_counted old new (m ∷ ms) [] run some = absurd run

-- ---- a whole connection

park_later : (faultless : Type 0) (c : Connection) (old new : Visiting) → IsLastPark faultless c old new → Later old new
park_later faultless Bare old new same = same_later old new same
park_later faultless (Holds held) old new (answered, visited, quiet) = visited_later old new held.who (Park held.doc held.hold held.desk.done held.desk.undone) answered visited

pub connection_counted : (faultless : Type 0) (start : Connection) (old : Visiting) (behind : Serving) (new : Visiting) (ms : List Message) (gs : List Given)
    → Run (serving start old) ms gs behind → IsLastPark faultless behind.connection behind.visiting new → list_any (λ (given : Given). given.failed) gs ≡ true → IsCounted old new
connection_counted faultless start old behind new ms gs run parked some =
    counted_on old behind.visiting new (run_counted (serving start old) behind ms gs run some) (park_later faultless behind.connection behind.visiting new parked)
