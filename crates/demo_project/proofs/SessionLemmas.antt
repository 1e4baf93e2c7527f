-- A session to the end of its bytes: how many answers there were, and that no answer is missing in what was written.
use Rattle.std.proofs.Common.{◌≡◌, ℕ, suc, ◌+◌, ◌/◌, ◌%◌, ◌^◌, ◌≤◌, lit<, lit≤, ◌==◌, ◌||◌, Bool, true, false, List, [], ◌∷◌, ◌++◌, ◌<◌, length, drop, get_or, Option, Some, None, refl, sym, ap, subst, ◌∙◌, append_assoc, arith}
use Rattle.std.proofs.lemmas.List.{at_drop_more}
use Rattle.mark_base.specs.FailList.{IsFaultless}
use Rattle.project_journal.specs.declared.memory_keeper.MemoryKeeper.{MemoryKeeper}
use Rattle.project_journal.specs.MemoryKeepers.{fails_of_appends}
use Rattle.project_machine.specs.Requests.{Happened}
use Rattle.project_machine.specs.History.{last}
use Rattle.project_book.specs.Keeping.{BookValue}
use Rattle.project_book.specs.Visits.{visiting_alone}
use Rattle.std.specs.Prelude.{codes, decimal, nat_eq}
use Rattle.std.specs.List.{list_any, starts_with}
use Rattle.http_wire.specs.declared.answer.Answer.{Answer}
use Rattle.http_wire.specs.declared.message.Message.{Message}
use Rattle.http_wire.specs.declared.stop.Stop.{Stop}
use Rattle.http_wire.specs.declared.stop.Stop.TheVariants as stop
use Rattle.http_wire.specs.Answers.{answer_bytes_of, answer_bytes_to, answer_head_of, status_line}
use Rattle.std.proofs.lemmas.Bool.Decides.{nat_tests}
use Rattle.std.proofs.lemmas.Fmt.{decimal_digit, decimal_step}
use Rattle.http_wire.specs.Messages.{Messages, StopsWith}
use Rattle.project_machine.specs.Asking.{Visiting}
use Rattle.annotation_http.specs.Exchanges.Connections.{Bare, Connection}
use Rattle.annotation_http.specs.Connection.Steps.{Given, Serving}
use Rattle.annotation_http.specs.Connection.Session.{is_bodiless, ConnectionTold, IfTold, Run, Served, SessionEnds, Stopped, TakesKnown, bytes_from, bytes_of}
use Rattle.annotation_http.specs.Connection.Talk.{talk_ended, talk_of}
use Rattle.annotation_http.specs.declared.connection.ending.Ending.TheVariants as ending
use Rattle.demo_project.specs.Sessions.{HasMessages, ServesAll, says_unable}
use Rattle.demo_project.proofs.CountLemmas.{are_messages}

-- ---- an answer that memory ran out is seen

or_right : (a b : Bool) → (a || b) ≡ false → b ≡ false
or_right true b h = cc
or_right false b h = h

behind_able : (xs ys : List ℕ) → says_unable (xs ++ ys) ≡ false → says_unable ys ≡ false
behind_able [] ys h = h
behind_able (x ∷ xs) ys h = behind_able xs ys (or_right (starts_with nat_eq (x ∷ (xs ++ ys)) (codes "HTTP/1.1 503")) (says_unable (xs ++ ys)) h)

-- one more digit
digit_more : (n : ℕ) (text : List ℕ) → 10 ≤ n → n < 2 ^ 64 → decimal (n / 10) ≡ text → decimal n ≡ text ++ (48 + n % 10) ∷ []
digit_more n text large fits front = decimal_step n large fits ∙ ap (λ ds. ds ++ (48 + n % 10) ∷ []) front

decimal_503 : decimal 503 ≡ codes "503"
decimal_503 = digit_more 503 (codes "50") (lit≤ tt) (lit< tt) (digit_more 50 (codes "5") (lit≤ tt) (lit< tt) (decimal_digit 5 (lit< tt)))

line_said : (rest : List ℕ) → says_unable (status_line 503 ++ rest) ≡ true
unfolding status_line
line_said rest = rw decimal_503 refl

answer_said : (bodiless : Bool) (answer : Answer) (place : ℕ) (last : Bool) (rest : List ℕ) → answer.status ≡ 503 → says_unable (answer_bytes_to bodiless answer place last ++ rest) ≡ true
unfolding answer_bytes_of answer_head_of
answer_said true answer place closes rest is =
    rw is (simp append_assoc (line_said _))
answer_said false answer place closes rest is =
    rw is (simp append_assoc (line_said _))

status_is : (status : ℕ) → (status == 503) ≡ true → status ≡ 503
status_is status is = grind (arith, nat_tests, is)

able_here : (bodiless : Bool) (answer : Answer) (place : ℕ) (last : Bool) (rest : List ℕ) (b : Bool) → (answer.status == 503) ≡ b → says_unable (answer_bytes_to bodiless answer place last ++ rest) ≡ false → b ≡ false
able_here bodiless answer place closes rest true is h = sym (answer_said bodiless answer place closes rest (status_is answer.status is)) ∙ h
able_here bodiless answer place closes rest false is h = refl

all_able : (n : ℕ) (old new : Serving) (messages : List Message) (answers : List Given) → Run old messages answers new → says_unable (bytes_from n messages answers) ≡ false
    → list_any (λ (given : Given). given.answer.status == 503) answers ≡ false
all_able n old new [] [] run h = refl
all_able n old new [] (given ∷ answers) run h = absurd run
all_able n old new (message ∷ messages) [] run h = refl
all_able n old new (message ∷ messages) (given ∷ answers) (middle, step, run) h =
    ap (λ b. b || list_any (λ (g : Given). g.answer.status == 503) answers) (able_here (is_bodiless message) given.answer given.place _ (bytes_from (n + 1) messages answers) (given.answer.status == 503) refl h)
    ∙ all_able (n + 1) middle new messages answers run (behind_able (bytes_of n message given) (bytes_from (n + 1) messages answers) h)

-- ---- a session to its end

-- as many answers as messages
as_many : (old new : Serving) (messages : List Message) (answers : List Given) → Run old messages answers new → length answers ≡ length messages
as_many old new [] [] run = refl
as_many old new [] (given ∷ answers) run = absurd run
as_many old new (message ∷ messages) [] run = absurd run
as_many old new (message ∷ messages) (given ∷ answers) (middle, step, run) = ap (λ n. suc n) (as_many middle new messages answers run)

ended_able : (faultless : Type 0) (old new : Serving) (left : Option (List ℕ)) (held : List ℕ) (now : Option (List ℕ)) (written : List ℕ)
    (ends : SessionEnds faultless old new left held now (Some []) (Some written) ending.End) → says_unable written ≡ false
    → list_any (λ (given : Given). given.answer.status == 503) (talk_ended faultless old new left held now (Some []) (Some written) ending.End ends).answers ≡ false
ended_able faultless old new left held now written (stopped, all) h =
    all_able 0 old new stopped.served.messages stopped.served.answers stopped.served.run (sym (ap says_unable stopped.served.bytes) ∙ h)

-- no answer of a session says that memory ran out, where none of what was written does
pub told_able : {faultless : Type 0} {start : Connection} {old new : Visiting} {left now : Option (List ℕ)} {written : List ℕ}
    (told : ConnectionTold faultless start old new left now (Some []) (Some written) ending.End) → says_unable written ≡ false → list_any (λ (given : Given). given.answer.status == 503) (talk_of told).answers ≡ false
told_able told h = ended_able _ _ _ _ _ _ _ told.session.ends h

-- the messages of bytes are one list
abbrev AreOne : Type 0
AreOne = (bytes : List ℕ) (messages others : List Message) (why other : Stop) → Messages bytes messages why → Messages bytes others other → messages ≡ others

all_messages : (bytes : List ℕ) (messages : List Message) (now : Option (List ℕ)) → TakesKnown (Some bytes) messages now → IfTold (Some bytes) now (λ rest. StopsWith rest stop.End) → Messages bytes messages stop.End
all_messages bytes messages None takes stops = absurd takes
all_messages bytes messages (Some rest) takes stops = are_messages bytes messages rest stop.End takes stops

ended_count : (faultless : Type 0) (old new : Serving) (input held : List ℕ) (now before written : Option (List ℕ)) (count : ℕ)
    (ends : SessionEnds faultless old new (Some input) held now before written ending.End) → AreOne → HasMessages input count
    → length (talk_ended faultless old new (Some input) held now before written ending.End ends).answers ≡ count
ended_count faultless old new input held now before written count (stopped, all) one has =
    as_many old new stopped.served.messages stopped.served.answers stopped.served.run
    ∙ ap (λ (ms : List Message). length ms) (one input stopped.served.messages has.messages stop.End stop.End (all_messages input stopped.served.messages _ stopped.served.takes stopped.stops) has.are)
    ∙ has.number

-- a session has as many answers as its bytes have messages
pub told_count : {faultless : Type 0} {start : Connection} {old new : Visiting} {input : List ℕ} {now before written : Option (List ℕ)} {count : ℕ}
    (told : ConnectionTold faultless start old new (Some input) now before written ending.End) → AreOne → HasMessages input count → length (talk_of told).answers ≡ count
told_count told one has = ended_count _ _ _ _ _ _ _ _ _ told.session.ends one has

-- ---- a search of the bytes

-- no such line begins here
pub unable_more : (bytes : List ℕ) (at : ℕ) → at < length bytes → starts_with nat_eq (drop at bytes) (codes "HTTP/1.1 503") ≡ false → says_unable (drop (at + 1) bytes) ≡ says_unable (drop at bytes)
unable_more bytes at h none =
    let front : drop at bytes ≡ get_or bytes at 0 ∷ drop (at + 1) bytes = at_drop_more (λ (xs : List ℕ). xs) bytes at 0 h in
    sym (ap says_unable front ∙ ap (λ b. b || says_unable (drop (at + 1) bytes)) (sym (ap (λ xs. starts_with nat_eq xs (codes "HTTP/1.1 503")) front) ∙ none))

-- one begins here
pub unable_here : (bytes : List ℕ) (at : ℕ) → at < length bytes → starts_with nat_eq (drop at bytes) (codes "HTTP/1.1 503") ≡ true → says_unable (drop at bytes) ≡ true
unable_here bytes at h some =
    let front : drop at bytes ≡ get_or bytes at 0 ∷ drop (at + 1) bytes = at_drop_more (λ (xs : List ℕ). xs) bytes at 0 h in
    ap says_unable front ∙ ap (λ b. b || says_unable (drop (at + 1) bytes)) (sym (ap (λ xs. starts_with nat_eq xs (codes "HTTP/1.1 503")) front) ∙ some)

-- ---- the whole session

-- what a connection told, in the words of the project and of the bytes
pub serves : (kept book left : BookValue MemoryKeeper) (began room_now : ℕ) (old : Visiting) (input : List ℕ) (first now before held : Option (List ℕ)) (written : List ℕ) (log_now : List Happened)
    → kept ≡ book → old ≡ visiting_alone book.log (last book.log) (fails_of_appends book.keeper).faults 18446744073709551615 → first ≡ Some input → before ≡ Some [] → held ≡ Some written → log_now ≡ left.log
    → began ∷ [] ≡ old.badge
    → ConnectionTold (IsFaultless (fails_of_appends kept.keeper)) Bare old (visiting_alone left.log began (fails_of_appends left.keeper).faults room_now) first now before held ending.End
    → says_unable written ≡ false → ServesAll (fails_of_appends book.keeper) book.log input log_now
serves kept book left began room_now old input first now before held written log_now kept_is old_is first_is before_is held_is behind badge told able =
    let seen : Visiting = visiting_alone book.log (last book.log) (fails_of_appends book.keeper).faults 18446744073709551615 in
    let faults_now : ℕ = (fails_of_appends left.keeper).faults in
    let place : began ≡ last book.log = only_place (badge ∙ ap (λ (v : Visiting). v.badge) old_is) in
    let from : ConnectionTold (IsFaultless (fails_of_appends kept.keeper)) Bare old (visiting_alone left.log (last book.log) faults_now room_now) first now before held ending.End =
    subst (λ (at : ℕ). ConnectionTold (IsFaultless (fails_of_appends kept.keeper)) Bare old (visiting_alone left.log at faults_now room_now) first now before held ending.End) place told in
    let new : Visiting = visiting_alone log_now (last book.log) faults_now room_now in
    let to : ConnectionTold (IsFaultless (fails_of_appends kept.keeper)) Bare old new first now before held ending.End =
    subst (λ (log : List Happened). ConnectionTold (IsFaultless (fails_of_appends kept.keeper)) Bare old (visiting_alone log (last book.log) faults_now room_now) first now before held ending.End) (sym behind) from in
    let a : ConnectionTold (IsFaultless (fails_of_appends book.keeper)) Bare old new first now before held ending.End =
    subst (λ (b : BookValue MemoryKeeper). ConnectionTold (IsFaultless (fails_of_appends b.keeper)) Bare old new first now before held ending.End) kept_is to in
    let b : ConnectionTold (IsFaultless (fails_of_appends book.keeper)) Bare seen new first now before held ending.End =
    subst (λ (v : Visiting). ConnectionTold (IsFaultless (fails_of_appends book.keeper)) Bare v new first now before held ending.End) old_is a in
    let c : ConnectionTold (IsFaultless (fails_of_appends book.keeper)) Bare seen new (Some input) now before held ending.End =
    subst (λ (f : Option (List ℕ)). ConnectionTold (IsFaultless (fails_of_appends book.keeper)) Bare seen new f now before held ending.End) first_is b in
    let d : ConnectionTold (IsFaultless (fails_of_appends book.keeper)) Bare seen new (Some input) now (Some []) held ending.End =
    subst (λ (f : Option (List ℕ)). ConnectionTold (IsFaultless (fails_of_appends book.keeper)) Bare seen new (Some input) now f held ending.End) before_is c in
    let e : ConnectionTold (IsFaultless (fails_of_appends book.keeper)) Bare seen new (Some input) now (Some []) (Some written) ending.End =
    subst (λ (f : Option (List ℕ)). ConnectionTold (IsFaultless (fails_of_appends book.keeper)) Bare seen new (Some input) now (Some []) f ending.End) held_is d in
    record { faults_now = faults_now; room_now = room_now; left = now; written = written; told = e; able = told_able e able }
  where
    only_place : {x y : ℕ} → x ∷ [] ≡ y ∷ [] → x ≡ y
    only_place e = cc
