-- How a plan is carried out, from what its parts do.
use Rattle.std.specs.Prelude.{IfOk, OnErr}
use Rattle.std.proofs.Common.{◌≡◌, ◌≢◌, ◌+◌, ◌≤◌, arith, ℕ, Bool, true, false, List, [], length, nat_lt, Option, Some, None, Result, Ok, Err, refl, sym, ◌∙◌, ap, subst, inl, inr, if◌then◌else◌}
use Rattle.http.specs.StatusCode.{IsStatusCode}
use Rattle.http_wire.specs.declared.answer.Answer.{Answer}
use Rattle.layer_model.specs.Annotations.{Annotations}
use Rattle.layer_core.specs.declared.command.Command.{Command}
use Rattle.layer_undo.specs.Desks.{DeskState, settled}
use Rattle.http_answers.specs.Desk.DeskAnswers.{Outcome, IsLeft, IsOutcome, lines_answer, loaded, no_memory, shown}
use Rattle.http_answers.specs.declared.routes.route.Route.{Route}
use Rattle.http_answers.specs.Answers.Answers.{answer_on}
use Rattle.http_answers.specs.declared.answer_bodies.message_fault.MessageFault.TheVariants as message
use Rattle.http_answers.specs.AnswerBodies.Refusals.{fault_answer}
use Rattle.project_machine.specs.declared.book_refusal.BookRefusal.TheVariants as no
use Rattle.project_machine.specs.Requests.{Asked, ReadConf, ListDocs, ReadText, AddText, Checkout, TakeOver, Commit, Park, Finish, ReadLayer, Reopen, Ignore, Readmit, Snap, TakeSnapshot, Decide, Undecide, ReadPairs, ReadAlpha, ReadReport, Answered, Committed, HandedOut, Parked, Refused}
use Rattle.project_machine.specs.Legal.{IsLegal}
use Rattle.project_machine.specs.Asking.{StaysFaultless, Visited, Visiting}
use Rattle.annotation_http.specs.Exchanges.Connections.{Connection, Bare, Holding, Holds, with_desk}
use Rattle.annotation_http.specs.Exchanges.Plans.{Plan, AtOnce, AsksBook, at_once, loads}
use Rattle.annotation_http.specs.Exchanges.Exchanges.{Carried, is_at_once, asks, loses, is_unable, IsCarriedOut, IsDone, IsGiven, desk_asked, held_by, given_up, is_committed, is_given_up, is_handed_out, is_not_kept, leaves_connection, next}

-- ---- answers that are given

-- what holds of every answer that is given
pub given_map : {E : Type 0} {P Q : Answer → Type 0} (result : Result Answer E) → ((answer : Answer) → P answer → Q answer) → IsGiven result P → IsGiven result Q
given_map (Ok answer) leads g = (leads answer g.0, g.1)
given_map (Err lack) leads g = (g.0, leads g.0 g.1)

-- ---- the connection behind an answer

-- a desk that is asked for is held where it is handed out
pub next_held : (c : Connection) (caller doc : List ℕ) (asked : Asked) (answered : Answered) → desk_asked asked ≡ Some doc → next c caller asked answered ≡ held_by c caller doc answered
next_held c caller doc (Checkout name) answered e = ap (λ d. held_by c caller d answered) (same name doc e)
  where
    same : (a b : List ℕ) → Some a ≡ Some b → a ≡ b
    same a b e = cc
next_held c caller doc (TakeOver name) answered e = ap (λ d. held_by c caller d answered) (same name doc e)
  where
    same : (a b : List ℕ) → Some a ≡ Some b → a ≡ b
    same a b e = cc
next_held c caller doc ReadConf answered e = absurd (let f : ◌≡◌ {A = Option (List ℕ)} None (Some doc) = e in cc)
next_held c caller doc ListDocs answered e = absurd (let f : ◌≡◌ {A = Option (List ℕ)} None (Some doc) = e in cc)
next_held c caller doc (ReadText name) answered e = absurd (let f : ◌≡◌ {A = Option (List ℕ)} None (Some doc) = e in cc)
next_held c caller doc (AddText name text) answered e = absurd (let f : ◌≡◌ {A = Option (List ℕ)} None (Some doc) = e in cc)
next_held c caller doc (Commit name hold layer) answered e = absurd (let f : ◌≡◌ {A = Option (List ℕ)} None (Some doc) = e in cc)
next_held c caller doc (Park name hold done undone) answered e = absurd (let f : ◌≡◌ {A = Option (List ℕ)} None (Some doc) = e in cc)
next_held c caller doc (Finish name) answered e = absurd (let f : ◌≡◌ {A = Option (List ℕ)} None (Some doc) = e in cc)
next_held c caller doc (ReadLayer name who) answered e = absurd (let f : ◌≡◌ {A = Option (List ℕ)} None (Some doc) = e in cc)
next_held c caller doc (Reopen name who) answered e = absurd (let f : ◌≡◌ {A = Option (List ℕ)} None (Some doc) = e in cc)
next_held c caller doc (Ignore name who) answered e = absurd (let f : ◌≡◌ {A = Option (List ℕ)} None (Some doc) = e in cc)
next_held c caller doc (Readmit name who) answered e = absurd (let f : ◌≡◌ {A = Option (List ℕ)} None (Some doc) = e in cc)
next_held c caller doc (Snap name) answered e = absurd (let f : ◌≡◌ {A = Option (List ℕ)} None (Some doc) = e in cc)
next_held c caller doc (TakeSnapshot number) answered e = absurd (let f : ◌≡◌ {A = Option (List ℕ)} None (Some doc) = e in cc)
next_held c caller doc (Decide number holder id verdict) answered e = absurd (let f : ◌≡◌ {A = Option (List ℕ)} None (Some doc) = e in cc)
next_held c caller doc (Undecide number holder id) answered e = absurd (let f : ◌≡◌ {A = Option (List ℕ)} None (Some doc) = e in cc)
next_held c caller doc ReadPairs answered e = absurd (let f : ◌≡◌ {A = Option (List ℕ)} None (Some doc) = e in cc)
next_held c caller doc ReadAlpha answered e = absurd (let f : ◌≡◌ {A = Option (List ℕ)} None (Some doc) = e in cc)
next_held c caller doc (ReadReport report) answered e = absurd (let f : ◌≡◌ {A = Option (List ℕ)} None (Some doc) = e in cc)

false_true : {X : Type 0} → false ≡ true → X
false_true e = absurd (let f : false ≡ true = e in cc)

-- what leaves the connection as it is does so
pub next_same : (c : Connection) (caller : List ℕ) (asked : Asked) (answered : Answered) → leaves_connection asked ≡ true → next c caller asked answered ≡ c
next_same c caller (Checkout name) answered e = false_true e
next_same c caller (TakeOver name) answered e = false_true e
next_same c caller (Commit name hold layer) answered e = false_true e
next_same c caller (Park name hold done undone) answered e = false_true e
next_same c caller ReadConf answered e = refl
next_same c caller ListDocs answered e = refl
next_same c caller (ReadText name) answered e = refl
next_same c caller (AddText name text) answered e = refl
next_same c caller (Finish name) answered e = refl
next_same c caller (ReadLayer name who) answered e = refl
next_same c caller (Reopen name who) answered e = refl
next_same c caller (Ignore name who) answered e = refl
next_same c caller (Readmit name who) answered e = refl
next_same c caller (Snap name) answered e = refl
next_same c caller (TakeSnapshot number) answered e = refl
next_same c caller (Decide number holder id verdict) answered e = refl
next_same c caller (Undecide number holder id) answered e = refl
next_same c caller ReadPairs answered e = refl
next_same c caller ReadAlpha answered e = refl
next_same c caller (ReadReport report) answered e = refl

-- ---- whether the keeper failed

-- where the keeper failed, that was answered
not_kept_is : (answered : Answered) → is_not_kept answered ≡ true → answered ≡ Refused no.Keeper []
not_kept_is (Refused no.Keeper []) e = refl
not_kept_is other e = false_true e

-- where that was not answered, it did not
kept_is : (answered : Answered) (b : Bool) → is_not_kept answered ≡ b → answered ≢ Refused no.Keeper [] → b ≡ false
kept_is answered false e not = refl
kept_is answered true e not = absurd (not (not_kept_is answered e))

not_failed : {X : Type 0} → false ≡ true → X
not_failed e = false_true e

-- ---- a plan is carried out

-- nothing was asked of the project
pub alone_carried : (plan : Plan) (c c_now : Connection) (v : Visiting) (faultless : Type 0) (answer : Answer) → Carried plan c v answer c_now v false → IsCarriedOut plan c v faultless c_now v answer
alone_carried plan c c_now v faultless answer carried = record {
  failed = false;
  carried = carried;
  cause = λ e. not_failed e;
  quiet = λ f. (refl, refl);
}

-- the project was asked
pub asked_carried : (plan : Plan) (c c_now : Connection) (old new : Visiting) (was is : Type 0) (route : Route) (caller : List ℕ) (asked : Asked) (answered : Answered) (answer : Answer)
    → plan ≡ AsksBook route caller asked → Visited old new caller asked answered → StaysFaultless was is old new answered → c_now ≡ next c caller asked answered
    → answer ≡ answer_on route answered → IsCarriedOut plan c old was c_now new answer
asked_carried plan c c_now old new was is route caller asked answered answer p visited stays n e = record {
  failed = is_not_kept answered;
  carried = asks route caller asked answered p visited e n refl;
  cause = λ failed. visited.cause (not_kept_is answered failed);
  quiet = λ f. (kept_is answered (is_not_kept answered) refl (stays f).2, (stays f).1);
}

-- a desk was handed out and found no memory
pub lost_carried : (plan : Plan) (c c_now : Connection) (old new : Visiting) (was is : Type 0) (route : Route) (caller doc : List ℕ) (asked : Asked) (answered : Answered) (answer : Answer)
    → plan ≡ AsksBook route caller asked → desk_asked asked ≡ Some doc → Visited old new caller asked answered → StaysFaultless was is old new answered
    → is_handed_out answered ≡ true → c_now ≡ Bare → answer ≡ no_memory → IsCarriedOut plan c old was c_now new answer
lost_carried plan c c_now old new was is route caller doc asked (HandedOut out) answer p d visited stays h n e = record {
  failed = false;
  carried = loses route caller doc asked out p d visited e n refl;
  cause = λ e. not_failed e;
  quiet = λ f. (refl, (stays f).1);
}
lost_carried plan c c_now old new was is route caller doc asked other answer p d visited stays h n e = false_true h

-- ---- answers that are given

-- an answer is given where its bytes find memory
pub given : {E : Type 0} {P : Answer → Type 0} (result : Result Answer E) (wanted : Answer) → ((answer : Answer) → answer ≡ wanted → P answer)
    → IfOk result (λ answer. answer ≡ wanted) → IfOk result (λ answer. IsStatusCode answer.status) → IsGiven result P
given (Ok answer) wanted leads is status = (leads answer is, status)
given (Err lack) wanted leads is status = (wanted, leads wanted refl)

-- a message that asks nothing
pub refused_given : {E : Type 0} (result : Result Answer E) (wanted : Answer) (plan : Plan) (c : Connection) (v : Visiting) (faultless : Type 0) → plan ≡ AtOnce wanted c
    → IfOk result (λ answer. answer ≡ wanted) → IfOk result (λ answer. IsStatusCode answer.status) → IsGiven result (IsCarriedOut plan c v faultless c v)
refused_given result wanted plan c v faultless p is status =
    given result wanted (λ answer e. alone_carried plan c c v faultless answer (is_at_once (p ∙ ap (λ a. AtOnce a c) (sym e)) refl refl)) is status

-- memory ran out before anything was asked
pub unable_given : {E : Type 0} (result : Result Answer E) (plan : Plan) (c : Connection) (v : Visiting) (faultless : Type 0)
    → IfOk result (λ answer. answer ≡ no_memory) → IfOk result (λ answer. IsStatusCode answer.status) → IsGiven result (IsCarriedOut plan c v faultless c v)
unable_given result plan c v faultless is status =
    given result no_memory (λ answer e. alone_carried plan c c v faultless answer (is_unable e refl refl refl)) is status

-- the project answered
pub asked_given : {E : Type 0} (result : Result Answer E) (plan : Plan) (c c_now : Connection) (old new : Visiting) (was is : Type 0) (route : Route) (caller : List ℕ) (asked : Asked) (answered : Answered)
    → plan ≡ AsksBook route caller asked → Visited old new caller asked answered → StaysFaultless was is old new answered → c_now ≡ next c caller asked answered
    → IfOk result (λ answer. answer ≡ answer_on route answered) → IfOk result (λ answer. IsStatusCode answer.status) → IsGiven result (IsCarriedOut plan c old was c_now new)
asked_given result plan c c_now old new was is route caller asked answered p visited stays n e status =
    given result (answer_on route answered) (λ answer f. asked_carried plan c c_now old new was is route caller asked answered answer p visited stays n f) e status

-- a desk was handed out and found no memory
pub lost_given : {E : Type 0} (result : Result Answer E) (plan : Plan) (c c_now : Connection) (old new : Visiting) (was is : Type 0) (route : Route) (caller doc : List ℕ) (asked : Asked) (answered : Answered)
    → plan ≡ AsksBook route caller asked → desk_asked asked ≡ Some doc → Visited old new caller asked answered → StaysFaultless was is old new answered
    → is_handed_out answered ≡ true → c_now ≡ Bare
    → IfOk result (λ answer. answer ≡ no_memory) → IfOk result (λ answer. IsStatusCode answer.status) → IsGiven result (IsCarriedOut plan c old was c_now new)
lost_given result plan c c_now old new was is route caller doc asked answered p d visited stays h n e status =
    given result no_memory (λ answer f. lost_carried plan c c_now old new was is route caller doc asked answered answer p d visited stays h n f) e status

-- a desk answered at once
done_carried : (plan : Plan) (old new : Holding) (v : Visiting) (faultless : Type 0) (answer : Answer) → IsDone plan old new answer → IsCarriedOut plan (Holds old) v faultless (Holds new) v answer
done_carried plan old new v faultless answer (inl p) = alone_carried plan (Holds old) (Holds new) v faultless answer (is_at_once p refl refl)
done_carried plan old new v faultless answer (inr lacks) = alone_carried plan (Holds old) (Holds new) v faultless answer (is_unable lacks.0 (ap Holds lacks.1) refl refl)

pub done_given : {E : Type 0} (result : Result Answer E) (plan : Plan) (old new : Holding) (v : Visiting) (faultless : Type 0) → IsGiven result (IsDone plan old new)
    → IsGiven result (IsCarriedOut plan (Holds old) v faultless (Holds new) v)
done_given result plan old new v faultless g = given_map result (λ answer d. done_carried plan old new v faultless answer d) g

-- ---- what a desk does at once

-- an outcome on a desk is the plan's
outcome_done : (held : Holding) (outcome : Outcome) (new : DeskState) (answer : Answer) → IsOutcome outcome held.desk answer new → IsDone (at_once held outcome) held (with_desk held new) answer
outcome_done held outcome new answer (inl e) = inl (sym (ap (λ (o : Outcome). AtOnce o.0 (Holds (with_desk held o.1))) e))
outcome_done held outcome new answer (inr lacks) = inr (lacks.0, ap (with_desk held) lacks.1)

-- such an outcome is given
pub outcome_given : {E : Type 0} (result : Result Answer E) (held : Holding) (outcome : Outcome) (new : DeskState)
    → IfOk result (λ answer. IsOutcome outcome held.desk answer new) → IfOk result (λ answer. IsStatusCode answer.status) → OnErr result (IsLeft outcome held.desk new)
    → IsGiven result (IsDone (at_once held outcome) held (with_desk held new))
outcome_given (Ok answer) held outcome new is status left = (outcome_done held outcome new answer is, status)
outcome_given (Err lack) held outcome new is status (inl e) = (outcome.0, outcome_done held outcome new outcome.0 (inl (ap (λ (d : DeskState). (outcome.0, d)) e)))
outcome_given (Err lack) held outcome new is status (inr e) = (no_memory, outcome_done held outcome new no_memory (inr (refl, e)))

-- a file that is longer than any that is read is none
pub long_given : {E : Type 0} (result : Result Answer E) (held : Holding) (bytes : List ℕ) → nat_lt 16777216 (length bytes) ≡ true
    → IfOk result (λ answer. answer ≡ fault_answer message.BadBody) → IfOk result (λ answer. IsStatusCode answer.status) → IsGiven result (IsDone (loads held bytes) held held)
long_given result held bytes long is status =
    given result (fault_answer message.BadBody) (λ answer e. rw long (inl (ap (λ (a : Answer). AtOnce a (Holds held)) (sym e)))) is status

-- any other is read
pub load_given : {E : Type 0} (result : Result Answer E) (held : Holding) (bytes : List ℕ) (new : DeskState) → nat_lt 16777216 (length bytes) ≡ false
    → IfOk result (λ answer. IsOutcome (loaded held.desk bytes) held.desk answer new) → IfOk result (λ answer. IsStatusCode answer.status) → OnErr result (IsLeft (loaded held.desk bytes) held.desk new)
    → IsGiven result (IsDone (loads held bytes) held (with_desk held new))
load_given result held bytes new short is status left = rw short (outcome_given result held (loaded held.desk bytes) new is status left)

-- the layer of a desk is shown
pub shown_given : {E : Type 0} (result : Result Answer E) (held : Holding) → IfOk result (λ answer. answer ≡ lines_answer held.desk) → IfOk result (λ answer. IsStatusCode answer.status)
    → IsGiven result (IsDone (at_once held (shown held.desk)) held held)
shown_given result held is status = given result (lines_answer held.desk) (λ answer e. inl (ap (λ (a : Answer). AtOnce a (Holds held)) (sym e))) is status

-- ---- the connection behind a commit and a park

-- a layer that was committed is the base of the desk
pub commit_next : (held : Holding) (caller doc : List ℕ) (hold : ℕ) (layer : Annotations) (asked : Asked) (answered : Answered) (new : DeskState) (b : Bool)
    → asked ≡ Commit doc hold layer → is_committed answered ≡ b → new ≡ (if b then settled held.desk else held.desk) → Holds (with_desk held new) ≡ next (Holds held) caller asked answered
commit_next held caller doc hold layer asked answered new b e c n =
    ap (λ (d : DeskState). Holds (with_desk held d)) n ∙ (by_answer answered b c ∙ ap (λ (a : Asked). next (Holds held) caller a answered) (sym e))
  where
    by_answer : (answered : Answered) (b : Bool) → is_committed answered ≡ b → Holds (with_desk held (if b then settled held.desk else held.desk)) ≡ next (Holds held) caller (Commit doc hold layer) answered
    by_answer (Committed revision) true e = refl
    by_answer (Committed revision) false e = false_true (sym e)
    by_answer other true e = false_true e
    by_answer other false e = refl

-- a desk is given up where it was parked, and where it is another's
pub park_next : (c : Connection) (caller doc : List ℕ) (hold : ℕ) (done undone : List Command) (asked : Asked) (answered : Answered) (b : Bool)
    → asked ≡ Park doc hold done undone → b ≡ is_given_up answered → given_up b c ≡ next c caller asked answered
park_next c caller doc hold done undone asked answered b e g =
    ap (λ (x : Bool). given_up x c) g ∙ (by_answer answered ∙ ap (λ (a : Asked). next c caller a answered) (sym e))
  where
    by_answer : (answered : Answered) → given_up (is_given_up answered) c ≡ next c caller (Park doc hold done undone) answered
    by_answer Parked = refl
    by_answer (Refused no.NotYours named) = refl
    by_answer other = refl

-- ---- what the visitor keeps

-- what was answered, or would have been
told_by : {E : Type 0} {P : Answer → Type 0} (result : Result Answer E) → IsGiven result P → (answer : Answer) × P answer
told_by (Ok answer) g = (answer, g.0)
told_by (Err lack) g = g

carried_legal : (plan : Plan) (c c_now : Connection) (old new : Visiting) (answer : Answer) (failed : Bool) → Carried plan c old answer c_now new failed → IsLegal old.seen → IsLegal new.seen
carried_legal plan c c_now old new answer failed (is_at_once p same kept) legal = subst (λ (v : Visiting). IsLegal v.seen) (sym same) legal
carried_legal plan c c_now old new answer failed (asks route caller asked answered p visited is goes kept) legal = visited.legal legal
carried_legal plan c c_now old new answer failed (loses route caller doc asked out p d visited is goes kept) legal = visited.legal legal
carried_legal plan c c_now old new answer failed (is_unable is goes same kept) legal = subst (λ (v : Visiting). IsLegal v.seen) (sym same) legal

same_room : (old new : Visiting) → new ≡ old → old.room ≤ new.room + 1
same_room old new same = let e : new.room ≡ old.room = ap (λ (v : Visiting). v.room) same in omega (arith, e)

carried_room : (plan : Plan) (c c_now : Connection) (old new : Visiting) (answer : Answer) (failed : Bool) → Carried plan c old answer c_now new failed → old.room ≤ new.room + 1
carried_room plan c c_now old new answer failed (is_at_once p same kept) = same_room old new same
carried_room plan c c_now old new answer failed (asks route caller asked answered p visited is goes kept) = omega (arith, visited.room)
carried_room plan c c_now old new answer failed (loses route caller doc asked out p d visited is goes kept) = omega (arith, visited.room)
carried_room plan c c_now old new answer failed (is_unable is goes same kept) = same_room old new same

carried_badge : (plan : Plan) (c c_now : Connection) (old new : Visiting) (answer : Answer) (failed : Bool) → Carried plan c old answer c_now new failed → new.badge ≡ old.badge
carried_badge plan c c_now old new answer failed (is_at_once p same kept) = ap (λ (v : Visiting). v.badge) same
carried_badge plan c c_now old new answer failed (asks route caller asked answered p visited is goes kept) = visited.badge
carried_badge plan c c_now old new answer failed (loses route caller doc asked out p d visited is goes kept) = visited.badge
carried_badge plan c c_now old new answer failed (is_unable is goes same kept) = ap (λ (v : Visiting). v.badge) same

pub given_legal : {E : Type 0} (result : Result Answer E) (plan : Plan) (c c_now : Connection) (old new : Visiting) (faultless : Type 0) → IsLegal old.seen → IsGiven result (IsCarriedOut plan c old faultless c_now new) → IsLegal new.seen
given_legal result plan c c_now old new faultless legal g = let t = told_by result g in carried_legal plan c c_now old new t.0 t.1.failed t.1.carried legal

pub given_room : {E : Type 0} (result : Result Answer E) (plan : Plan) (c c_now : Connection) (old new : Visiting) (faultless : Type 0) → IsGiven result (IsCarriedOut plan c old faultless c_now new) → old.room ≤ new.room + 1
given_room result plan c c_now old new faultless g = let t = told_by result g in carried_room plan c c_now old new t.0 t.1.failed t.1.carried

pub given_badge : {E : Type 0} (result : Result Answer E) (plan : Plan) (c c_now : Connection) (old new : Visiting) (faultless : Type 0) → IsGiven result (IsCarriedOut plan c old faultless c_now new) → new.badge ≡ old.badge
given_badge result plan c c_now old new faultless g = let t = told_by result g in carried_badge plan c c_now old new t.0 t.1.failed t.1.carried
