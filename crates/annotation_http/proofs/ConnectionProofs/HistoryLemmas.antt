-- A connection step by step is one of the history that is seen at its end.
use Rattle.std.proofs.Common.{◌≡◌, ℕ, ◌+◌, ◌-◌, ◌<◌, ◌≤◌, Bool, true, false, List, [], ◌∷◌, ◌++◌, length, slice_get, nat_lt, Option, Some, None, refl, sym, ◌∙◌, ap, subst, arith, length-append, append_assoc, inl, inr, if◌then◌else◌}
use Rattle.std.proofs.lemmas.Bool.{le-ltb, lt-ltb}
use Rattle.std.proofs.lemmas.List.{append-nil}
use Rattle.std.specs.Prelude.{IsSome}
use Rattle.std.specs.Option.{option_to_list}
use Rattle.http_wire.specs.declared.answer.Answer.{Answer}
use Rattle.http_wire.specs.declared.message.Message.{Message}
use Rattle.http_answers.specs.Desk.DeskAnswers.{no_memory}
use Rattle.http_answers.specs.declared.routes.route.Route.{Route}
use Rattle.http_answers.specs.Answers.Answers.{answer_on}
use Rattle.project_machine.specs.declared.book_refusal.BookRefusal.{BookRefusal}
use Rattle.project_machine.specs.declared.book_refusal.BookRefusal.TheVariants as no
use Rattle.project_machine.specs.ProjectState.{ProjectState}
use Rattle.project_machine.specs.Requests.{Asked, ReadConf, ListDocs, ReadText, AddText, Checkout, TakeOver, Commit, Park, Finish, ReadLayer, Reopen, Ignore, Readmit, Snap, TakeSnapshot, Decide, Undecide, ReadPairs, ReadAlpha, ReadReport, Answered, HandedOut, Happened, Out, Refused}
use Rattle.project_machine.specs.Machine.{Step, refusal, refused, reply, size_in, step, unless}
use Rattle.project_machine.specs.History.{after, begin, change_at, last, upto}
use Rattle.project_machine.specs.Legal.{IsLegal}
use Rattle.project_machine.specs.Asking.{IsStep, steps, wants_memory, is_not_kept, Visited, Visiting, gained, step_at}
use Rattle.project_machine.proofs.HistoryLemmas.{begin_more, legal_some, upto_last}
use Rattle.annotation_http.specs.Exchanges.Connections.{Connection, Bare, Holds}
use Rattle.annotation_http.specs.Exchanges.Plans.{Plan, AsksBook, planned}
use Rattle.annotation_http.specs.Exchanges.Exchanges as exchange
use Rattle.annotation_http.specs.Exchanges.Exchanges.{Carried, desk_asked, next}
use Rattle.annotation_http.specs.declared.connection.ending.Ending.{Ending}
use Rattle.annotation_http.specs.Connection.Steps.{Given, IsLastPark, Serving, place_of, serving}
use Rattle.annotation_http.specs.Connection.Session.{ConnectionTold, Run}
use Rattle.annotation_http.specs.Connection.Talk.{talk_of}
use Rattle.annotation_http.specs.Connection.OneHistory as told
use Rattle.annotation_http.specs.Connection.OneHistory.{AskedBy, ConnectionToldBy, ParkedBy, RunToldBy, ToldBy, given_at, step_behind}
use Rattle.annotation_http.proofs.ConnectionProofs.TalkLemmas.{ended_run}

-- ---- a history that goes on

abbrev GoesOn : List Happened → List Happened → Type 0
GoesOn log seen = (more : List Happened) × (seen ≡ log ++ more)

goes_through : (a b c : List Happened) → GoesOn a b → GoesOn b c → GoesOn a c
goes_through a b c (more, e) (others, f) = (more ++ others, f ∙ (ap (λ (xs : List Happened). xs ++ others) e ∙ append_assoc a more others))

place_on : (log seen : List Happened) → 0 < length log → GoesOn log seen → last log ≤ last seen
place_on log seen some (more, e) = subst (λ (xs : List Happened). last log ≤ last xs) (sym e) (omega (arith, begin_more log more some, length-append log more))

behind_on : (log seen : List Happened) (caller : List ℕ) (asked : Asked) → 0 < length log → GoesOn log seen → step_behind seen (last log) caller asked ≡ step_at log caller asked
behind_on log seen caller asked some (more, e) = ap (λ (xs : List Happened). step (after xs) caller asked) (ap (upto (last log)) e ∙ upto_last log more some)

-- ---- the change at a place

get_at : (xs : List Happened) (e : Happened) (more : List Happened) → slice_get (xs ++ (e ∷ more)) (length xs) ≡ Some e
get_at [] e more = refl
get_at (x ∷ xs) e more = get_at xs e more

above_begin : (log seen : List Happened) (e : Happened) (more : List Happened) (b : Bool) → nat_lt (begin seen) (last log + 1) ≡ b → 0 < length log → begin seen ≡ begin log → seen ≡ log ++ (e ∷ more)
    → (if b then slice_get seen (last log + 1 - begin seen - 1) else None) ≡ Some e
above_begin log seen e more true is some begins goes =
    let index : last log + 1 - begin seen - 1 ≡ length log = omega (arith, begins) in
    ap (slice_get seen) index ∙ (ap (λ (xs : List Happened). slice_get xs (length log)) goes ∙ get_at log e more)
above_begin log seen e more false is some begins goes = absurd (never (let low : begin seen < last log + 1 = omega (arith, begins) in sym is ∙ lt-ltb (begin seen) (last log + 1) low))
  where
    never : false ≡ true → ⊥
    never e = cc

-- a change stands at its place
change_on : (log seen : List Happened) (e : Happened) → 0 < length log → GoesOn (log ++ e ∷ []) seen → change_at (last log + 1) seen ≡ Some e
change_on log seen e some (more, goes) =
    let whole : seen ≡ log ++ (e ∷ more) = goes ∙ append_assoc log (e ∷ []) more in
    above_begin log seen e more (nat_lt (begin seen) (last log + 1)) refl some (ap begin whole ∙ begin_more log (e ∷ more) some) whole

-- ---- a desk that is handed out is a change

no_true : {X : Type 0} → false ≡ true → X
no_true e = absurd (let f : false ≡ true = e in cc)

bounded_out : (long : Bool) (s : ProjectState) (asked : Asked) (bytes : ℕ) (answer : Answered) (e : Happened) (out : Out)
    → HandedOut out ≡ (if◌then◌else◌ {A = Step} long (refused s asked (no.EntryTooLong bytes)) (record { answer = answer; change = Some e })).answer
    → (if◌then◌else◌ {A = Step} long (refused s asked (no.EntryTooLong bytes)) (record { answer = answer; change = Some e })).change ≡ Some e
bounded_out true s asked bytes answer e out is = absurd (let f : HandedOut out ≡ Refused (no.EntryTooLong bytes) _ = is in cc)
bounded_out false s asked bytes answer e out is = refl

unless_out : (s : ProjectState) (asked : Asked) (o : Option BookRefusal) (answer : Answered) (e : Happened) (out : Out)
    → HandedOut out ≡ (unless s asked o answer (Some e)).answer → (unless s asked o answer (Some e)).change ≡ Some e
unless_out s asked (Some r) answer e out is = absurd (let f : HandedOut out ≡ Refused r _ = is in cc)
unless_out s asked None answer e out is = bounded_out (nat_lt 16777216 (size_in s e)) s asked (size_in s e) answer e out is

none_some : {X A : Type 0} (x : X) → ◌≡◌ {A = Option X} None (Some x) → A
none_some {X} x e = absurd (let f : ◌≡◌ {A = Option X} None (Some x) = e in cc)

made_out : (s : ProjectState) (caller doc : List ℕ) (asked : Asked) (out : Out) → desk_asked asked ≡ Some doc → HandedOut out ≡ (step s caller asked).answer → (e : Happened) × ((step s caller asked).change ≡ Some e)
made_out s caller doc (Checkout name) out d is = (_, unless_out s (Checkout name) (refusal s caller (Checkout name)) (reply s caller (Checkout name)) _ out is)
made_out s caller doc (TakeOver name) out d is = (_, unless_out s (TakeOver name) (refusal s caller (TakeOver name)) (reply s caller (TakeOver name)) _ out is)
made_out s caller doc ReadConf out d is = none_some doc d
made_out s caller doc ListDocs out d is = none_some doc d
made_out s caller doc (ReadText name) out d is = none_some doc d
made_out s caller doc (AddText name text) out d is = none_some doc d
made_out s caller doc (Commit name hold layer) out d is = none_some doc d
made_out s caller doc (Park name hold done undone) out d is = none_some doc d
made_out s caller doc (Finish name) out d is = none_some doc d
made_out s caller doc (ReadLayer name who) out d is = none_some doc d
made_out s caller doc (Reopen name who) out d is = none_some doc d
made_out s caller doc (Ignore name who) out d is = none_some doc d
made_out s caller doc (Readmit name who) out d is = none_some doc d
made_out s caller doc (Snap name) out d is = none_some doc d
made_out s caller doc (TakeSnapshot number) out d is = none_some doc d
made_out s caller doc (Decide number holder id verdict) out d is = none_some doc d
made_out s caller doc (Undecide number holder id) out d is = none_some doc d
made_out s caller doc ReadPairs out d is = none_some doc d
made_out s caller doc ReadAlpha out d is = none_some doc d
made_out s caller doc (ReadReport report) out d is = none_some doc d

-- ---- the places of one's own

gained_none : (log : List Happened) → gained log log ≡ []
gained_none log = ap (λ (b : Bool). if b then last log ∷ [] else []) (le-ltb (length log) (length log) (omega arith))

gained_more : (log : List Happened) (e : Happened) → gained log (log ++ e ∷ []) ≡ last (log ++ e ∷ []) ∷ []
gained_more log e = ap (λ (b : Bool). if b then last (log ++ e ∷ []) ∷ [] else []) (lt-ltb (length log) (length (log ++ e ∷ [])) (omega (arith, length-append log (e ∷ []))))

-- ---- one request

pair_of : (s : Step) (a : Answered) (o : Option Happened) → a ≡ s.answer → s.change ≡ o → s ≡ record { answer = a; change = o }
pair_of s a o e f = ap (λ (x : Answered). record { answer = x; change = s.change }) (sym e) ∙ ap (λ (x : Option Happened). record { answer = a; change = x }) f

-- what makes something happen does not make nothing happen
makes_some : (o : Option Happened) → IsSome o → o ≡ None → ⊥
makes_some (Some e) makes none = let f : ◌≡◌ {A = Option Happened} (Some e) None = none in cc
makes_some None makes none = no_true makes

-- nothing happened
same_asked : (seen log now : List Happened) (n : ℕ) (caller : List ℕ) (asked : Asked) (answered is_answer : Answered)
    → answered ≡ is_answer → now ≡ log → AskedBy seen n caller asked is_answer [] (last log) → AskedBy seen n caller asked answered (gained log now) (last now)
same_asked seen log now n caller asked answered is_answer is same by =
    subst (λ (xs : List Happened). AskedBy seen n caller asked answered (gained log xs) (last xs)) (sym same)
    (subst (λ (places : List ℕ). AskedBy seen n caller asked answered places (last log)) (sym (gained_none log))
    (subst (λ (x : Answered). AskedBy seen n caller asked x [] (last log)) (sym is) by))

-- the step of a request, whether it changes something or nothing
stepped_by : (seen log now : List Happened) (n : ℕ) (caller : List ℕ) (asked : Asked) (answered : Answered) (made : Option Happened)
    → 0 < length log → n ≤ last log → GoesOn now seen → answered ≡ (step_at log caller asked).answer → (step_at log caller asked).change ≡ made → now ≡ log ++ option_to_list made
    → AskedBy seen n caller asked answered (gained log now) (last now)
stepped_by seen log now n caller asked answered None some low on is ch goes =
    let same : now ≡ log = goes ∙ append-nil log in
    let here : GoesOn log seen = subst (λ (xs : List Happened). GoesOn xs seen) same on in
    same_asked seen log now n caller asked answered answered refl same
    (told.reads (last log) answered low (place_on log seen some here) (behind_on log seen caller asked some here ∙ pair_of (step_at log caller asked) answered None is ch))
stepped_by seen log now n caller asked answered (Some e) some low on is ch goes =
    let all : GoesOn (log ++ e ∷ []) seen = subst (λ (xs : List Happened). GoesOn xs seen) goes on in
    let here : GoesOn log seen = goes_through log (log ++ e ∷ []) seen (e ∷ [], refl) all in
    let at : last (log ++ e ∷ []) ≡ last log + 1 = omega (arith, begin_more log (e ∷ []) some, length-append log (e ∷ [])) in
    let most : last (log ++ e ∷ []) ≤ last seen = place_on (log ++ e ∷ []) seen (omega (arith, length-append log (e ∷ []))) all in
    subst (λ (xs : List Happened). AskedBy seen n caller asked answered (gained log xs) (last xs)) (sym goes)
    (subst (λ (places : List ℕ). AskedBy seen n caller asked answered places (last (log ++ e ∷ []))) (sym (gained_more log e))
    (subst (λ (k : ℕ). AskedBy seen n caller asked answered (k ∷ []) k) (sym at)
    (told.changes (last log) answered e low (omega (arith, at, most)) (behind_on log seen caller asked some here ∙ pair_of (step_at log caller asked) answered (Some e) is ch) (change_on log seen e some all))))

-- a request is answered by what the history is that is seen behind it, and by each that goes on from it
asked_by : (seen log now : List Happened) (n : ℕ) (caller : List ℕ) (asked : Asked) (answered : Answered)
    → 0 < length log → n ≤ last log → GoesOn now seen → IsStep log caller asked answered now → AskedBy seen n caller asked answered (gained log now) (last now)
asked_by seen log now n caller asked answered some low on (steps is goes room) =
    stepped_by seen log now n caller asked answered (step_at log caller asked).change some low on is refl goes
asked_by seen log now n caller asked answered some low on (wants_memory is goes) =
    let here : GoesOn log seen = subst (λ (xs : List Happened). GoesOn xs seen) goes on in
    same_asked seen log now n caller asked answered (Refused no.Memory []) is goes (told.wants_memory (last log) low (place_on log seen some here))
asked_by seen log now n caller asked answered some low on (is_not_kept is goes makes room) =
    let here : GoesOn log seen = subst (λ (xs : List Happened). GoesOn xs seen) goes on in
    same_asked seen log now n caller asked answered (Refused no.Keeper []) is goes
    (told.fails (last log) low (place_on log seen some here)
    (λ none. makes_some (step_at log caller asked).change makes (ap (λ (s : Step). s.change) (sym (behind_on log seen caller asked some here)) ∙ none)))

-- a desk that is handed out is a change of one's own
handed_gained : (log now : List Happened) (caller doc : List ℕ) (asked : Asked) (out : Out) → desk_asked asked ≡ Some doc → IsStep log caller asked (HandedOut out) now → gained log now ≡ last now ∷ []
handed_gained log now caller doc asked out d (steps is goes room) =
    let made : (e : Happened) × ((step_at log caller asked).change ≡ Some e) = made_out (after log) caller doc asked out d is in
    let grown : now ≡ log ++ made.0 ∷ [] = goes ∙ ap (λ (o : Option Happened). log ++ option_to_list o) made.1 in
    subst (λ (xs : List Happened). gained log xs ≡ last xs ∷ []) (sym grown) (gained_more log made.0)
handed_gained log now caller doc asked out d (wants_memory is goes) = absurd (let f : HandedOut out ≡ Refused no.Memory [] = is in cc)
handed_gained log now caller doc asked out d (is_not_kept is goes makes room) = absurd (let f : HandedOut out ≡ Refused no.Keeper [] = is in cc)

-- what a visitor sees goes on
visited_on : (old new : Visiting) (caller : List ℕ) (asked : Asked) (answered : Answered) → Visited old new caller asked answered → GoesOn old.seen new.seen
visited_on old new caller asked answered visited = by_step visited.replied.others visited.replied.stepped
  where
    by_step : (others : List Happened) → IsStep (old.seen ++ others) caller asked answered new.seen → GoesOn old.seen new.seen
    by_step others (steps is goes room) = (others ++ option_to_list (step_at (old.seen ++ others) caller asked).change, goes ∙ append_assoc old.seen others _)
    by_step others (wants_memory is goes) = (others, goes)
    by_step others (is_not_kept is goes makes room) = (others, goes)

some_more : (seen others : List Happened) → 0 < length seen → 0 < length (seen ++ others)
some_more seen others some = omega (arith, length-append seen others)

place_more : (seen others : List Happened) → 0 < length seen → last seen ≤ last (seen ++ others)
place_more seen others some = omega (arith, begin_more seen others some, length-append seen others)

-- a request of a visitor
visited_by : (seen : List Happened) (old new : Visiting) (caller : List ℕ) (asked : Asked) (answered : Answered) → IsLegal old.seen → GoesOn new.seen seen
    → (visited : Visited old new caller asked answered) → AskedBy seen (last old.seen) caller asked answered (gained (old.seen ++ visited.replied.others) new.seen) (last new.seen)
visited_by seen old new caller asked answered legal on visited =
    let some : 0 < length old.seen = legal_some old.seen legal in
    asked_by seen (old.seen ++ visited.replied.others) new.seen (last old.seen) caller asked answered (some_more old.seen visited.replied.others some)
    (place_more old.seen visited.replied.others some) on visited.replied.stepped

-- ---- one message

as_given : (P : Given → Type 0) (answer : Answer) (place n : ℕ) (failed wanted : Bool) → place ≡ n → failed ≡ wanted
    → P (record { answer = answer; place = n; failed = wanted }) → P (record { answer = answer; place = place; failed = failed })
as_given P answer place n failed wanted e f p =
    subst (λ (b : Bool). P (record { answer = answer; place = place; failed = b })) (sym f) (subst (λ (k : ℕ). P (record { answer = answer; place = k; failed = wanted })) (sym e) p)

-- the places of the changes that one message made
abbrev own_of : (plan : Plan) (c c_next : Connection) (old new : Visiting) (answer : Answer) (failed : Bool) → Carried plan c old answer c_next new failed → List ℕ
own_of plan c c_next old new answer failed (exchange.is_at_once p same kept) = []
own_of plan c c_next old new answer failed (exchange.asks route caller asked answered p visited is goes kept) = gained (old.seen ++ visited.replied.others) new.seen
own_of plan c c_next old new answer failed (exchange.loses route caller doc asked out p d visited is goes kept) = gained (old.seen ++ visited.replied.others) new.seen
own_of plan c c_next old new answer failed (exchange.is_unable is goes same kept) = []

carried_mine : (plan : Plan) (c c_next : Connection) (old new : Visiting) (answer : Answer) (failed : Bool) (carried : Carried plan c old answer c_next new failed)
    → new.mine ≡ old.mine ++ own_of plan c c_next old new answer failed carried
carried_mine plan c c_next old new answer failed (exchange.is_at_once p same kept) = ap (λ (v : Visiting). v.mine) same ∙ sym (append-nil old.mine)
carried_mine plan c c_next old new answer failed (exchange.asks route caller asked answered p visited is goes kept) = visited.replied.mine_is
carried_mine plan c c_next old new answer failed (exchange.loses route caller doc asked out p d visited is goes kept) = visited.replied.mine_is
carried_mine plan c c_next old new answer failed (exchange.is_unable is goes same kept) = ap (λ (v : Visiting). v.mine) same ∙ sym (append-nil old.mine)

carried_told : (seen : List Happened) (c c_next c_now : Connection) (old new : Visiting) (n_now place : ℕ) (m : Message) (answer : Answer) (failed : Bool) (ms : List Message) (gs : List Given) (own : List ℕ)
    → IsLegal old.seen → GoesOn new.seen seen → place ≡ last new.seen → (carried : Carried (planned c m) c old answer c_next new failed)
    → ToldBy seen c_next (last new.seen) ms gs own c_now n_now
    → ToldBy seen c (last old.seen) (m ∷ ms) (record { answer = answer; place = place; failed = failed } ∷ gs) (own_of (planned c m) c c_next old new answer failed carried ++ own) c_now n_now
carried_told seen c c_next c_now old new n_now place m answer failed ms gs own legal on at (exchange.is_at_once p same kept) rest =
    as_given (λ (g : Given). ToldBy seen c (last old.seen) (m ∷ ms) (g ∷ gs) own c_now n_now) answer place (last old.seen) failed false (at ∙ ap (λ (v : Visiting). last v.seen) same) kept
    (told.is_at_once c c_next c_now (last old.seen) n_now m answer ms gs own p (subst (λ (v : Visiting). ToldBy seen c_next (last v.seen) ms gs own c_now n_now) same rest))
carried_told seen c c_next c_now old new n_now place m answer failed ms gs own legal on at (exchange.asks route caller asked answered p visited is goes kept) rest =
    let made : List ℕ = gained (old.seen ++ visited.replied.others) new.seen in
    subst (λ (a : Answer). ToldBy seen c (last old.seen) (m ∷ ms) (record { answer = a; place = place; failed = failed } ∷ gs) (made ++ own) c_now n_now) (sym is)
    (as_given (λ (g : Given). ToldBy seen c (last old.seen) (m ∷ ms) (g ∷ gs) (made ++ own) c_now n_now) (answer_on route answered) place (last new.seen) failed (exchange.is_not_kept answered) at kept
    (told.asks c c_now (last old.seen) (last new.seen) n_now m route caller asked answered ms gs made own p (visited_by seen old new caller asked answered legal on visited)
    (subst (λ (x : Connection). ToldBy seen x (last new.seen) ms gs own c_now n_now) goes rest)))
carried_told seen c c_next c_now old new n_now place m answer failed ms gs own legal on at (exchange.loses route caller doc asked out p d visited is goes kept) rest =
    let made : List ℕ = gained (old.seen ++ visited.replied.others) new.seen in
    let one : made ≡ last new.seen ∷ [] = handed_gained (old.seen ++ visited.replied.others) new.seen caller doc asked out d visited.replied.stepped in
    subst (λ (a : Answer). ToldBy seen c (last old.seen) (m ∷ ms) (record { answer = a; place = place; failed = failed } ∷ gs) (made ++ own) c_now n_now) (sym is)
    (as_given (λ (g : Given). ToldBy seen c (last old.seen) (m ∷ ms) (g ∷ gs) (made ++ own) c_now n_now) no_memory place (last new.seen) failed false at kept
    (subst (λ (places : List ℕ). ToldBy seen c (last old.seen) (m ∷ ms) (given_at (last new.seen) no_memory ∷ gs) (places ++ own) c_now n_now) (sym one)
    (told.loses c c_now (last old.seen) (last new.seen) n_now m route caller doc asked out ms gs own p d
    (subst (λ (places : List ℕ). AskedBy seen (last old.seen) caller asked (HandedOut out) places (last new.seen)) one (visited_by seen old new caller asked (HandedOut out) legal on visited))
    (subst (λ (x : Connection). ToldBy seen x (last new.seen) ms gs own c_now n_now) goes rest))))
carried_told seen c c_next c_now old new n_now place m answer failed ms gs own legal on at (exchange.is_unable is goes same kept) rest =
    subst (λ (a : Answer). ToldBy seen c (last old.seen) (m ∷ ms) (record { answer = a; place = place; failed = failed } ∷ gs) own c_now n_now) (sym is)
    (as_given (λ (g : Given). ToldBy seen c (last old.seen) (m ∷ ms) (g ∷ gs) own c_now n_now) no_memory place (last old.seen) failed false (at ∙ ap (λ (v : Visiting). last v.seen) same) kept
    (told.is_unable c c_now (last old.seen) n_now m ms gs own
    (subst (λ (x : Connection). ToldBy seen x (last old.seen) ms gs own c_now n_now) goes (subst (λ (v : Visiting). ToldBy seen c_next (last v.seen) ms gs own c_now n_now) same rest))))

-- what is seen behind one message
carried_on : (plan : Plan) (c c_next : Connection) (old new : Visiting) (answer : Answer) (failed : Bool) → Carried plan c old answer c_next new failed → GoesOn old.seen new.seen
carried_on plan c c_next old new answer failed (exchange.is_at_once p same kept) = ([], ap (λ (v : Visiting). v.seen) same ∙ sym (append-nil old.seen))
carried_on plan c c_next old new answer failed (exchange.asks route caller asked answered p visited is goes kept) = visited_on old new caller asked answered visited
carried_on plan c c_next old new answer failed (exchange.loses route caller doc asked out p d visited is goes kept) = visited_on old new caller asked (HandedOut out) visited
carried_on plan c c_next old new answer failed (exchange.is_unable is goes same kept) = ([], ap (λ (v : Visiting). v.seen) same ∙ sym (append-nil old.seen))

carried_legal : (plan : Plan) (c c_next : Connection) (old new : Visiting) (answer : Answer) (failed : Bool) → Carried plan c old answer c_next new failed → IsLegal old.seen → IsLegal new.seen
carried_legal plan c c_next old new answer failed (exchange.is_at_once p same kept) legal = subst (λ (v : Visiting). IsLegal v.seen) (sym same) legal
carried_legal plan c c_next old new answer failed (exchange.asks route caller asked answered p visited is goes kept) legal = visited.legal legal
carried_legal plan c c_next old new answer failed (exchange.loses route caller doc asked out p d visited is goes kept) legal = visited.legal legal
carried_legal plan c c_next old new answer failed (exchange.is_unable is goes same kept) legal = subst (λ (v : Visiting). IsLegal v.seen) (sym same) legal

-- ---- all messages

-- what is seen goes on
run_on : (old new : Serving) (ms : List Message) (gs : List Given) → Run old ms gs new → GoesOn old.visiting.seen new.visiting.seen
run_on old new [] [] same = ([], ap (λ (s : Serving). s.visiting.seen) same ∙ sym (append-nil old.visiting.seen))
run_on old new (m ∷ ms) (g ∷ gs) (middle, step, run) =
    goes_through old.visiting.seen middle.visiting.seen new.visiting.seen
    (carried_on (planned old.connection m) old.connection middle.connection old.visiting middle.visiting g.answer g.failed step.carried) (run_on middle new ms gs run)
run_on old new [] (g ∷ gs) run = absurd run
run_on old new (m ∷ ms) [] run = absurd run

-- and stays legal
run_legal : (old new : Serving) (ms : List Message) (gs : List Given) → Run old ms gs new → IsLegal old.visiting.seen → IsLegal new.visiting.seen
run_legal old new [] [] same legal = subst (λ (s : Serving). IsLegal s.visiting.seen) (sym same) legal
run_legal old new (m ∷ ms) (g ∷ gs) (middle, step, run) legal =
    run_legal middle new ms gs run (carried_legal (planned old.connection m) old.connection middle.connection old.visiting middle.visiting g.answer g.failed step.carried legal)
run_legal old new [] (g ∷ gs) run legal = absurd run
run_legal old new (m ∷ ms) [] run legal = absurd run

-- the places of the changes that the messages made
abbrev run_own : (old new : Serving) (ms : List Message) (gs : List Given) → Run old ms gs new → List ℕ
run_own old new [] [] same = []
run_own old new (m ∷ ms) (g ∷ gs) (middle, step, run) =
    own_of (planned old.connection m) old.connection middle.connection old.visiting middle.visiting g.answer g.failed step.carried ++ run_own middle new ms gs run
run_own old new [] (g ∷ gs) run = absurd run
run_own old new (m ∷ ms) [] run = absurd run

run_mine : (old new : Serving) (ms : List Message) (gs : List Given) (run : Run old ms gs new) → new.visiting.mine ≡ old.visiting.mine ++ run_own old new ms gs run
run_mine old new [] [] same = ap (λ (s : Serving). s.visiting.mine) same ∙ sym (append-nil old.visiting.mine)
run_mine old new (m ∷ ms) (g ∷ gs) (middle, step, run) =
    run_mine middle new ms gs run
    ∙ (ap (λ (places : List ℕ). places ++ run_own middle new ms gs run)
    (carried_mine (planned old.connection m) old.connection middle.connection old.visiting middle.visiting g.answer g.failed step.carried)
    ∙ append_assoc old.visiting.mine (own_of (planned old.connection m) old.connection middle.connection old.visiting middle.visiting g.answer g.failed step.carried) (run_own middle new ms gs run))
run_mine old new [] (g ∷ gs) run = absurd run
run_mine old new (m ∷ ms) [] run = absurd run

-- messages that are answered in turn are answered by the history that is seen at the end, and by each that goes on from it
run_told : (seen : List Happened) (old new : Serving) (ms : List Message) (gs : List Given) → IsLegal old.visiting.seen → GoesOn new.visiting.seen seen → (run : Run old ms gs new)
    → ToldBy seen old.connection (place_of old) ms gs (run_own old new ms gs run) new.connection (place_of new)
run_told seen old new [] [] legal on same = subst (λ (s : Serving). ToldBy seen old.connection (place_of old) [] [] [] s.connection (place_of s)) (sym same) (told.is_over old.connection (place_of old))
run_told seen old new (m ∷ ms) (g ∷ gs) legal on (middle, step, run) =
    carried_told seen old.connection middle.connection new.connection old.visiting middle.visiting (place_of new) g.place m g.answer g.failed ms gs (run_own middle new ms gs run) legal
    (goes_through middle.visiting.seen new.visiting.seen seen (run_on middle new ms gs run) on) step.place step.carried
    (run_told seen middle new ms gs (carried_legal (planned old.connection m) old.connection middle.connection old.visiting middle.visiting g.answer g.failed step.carried legal) on run)
run_told seen old new [] (g ∷ gs) legal on run = absurd run
run_told seen old new (m ∷ ms) [] legal on run = absurd run

pub tells_one_history : (old new : Serving) (more : List Happened) (ms : List Message) (gs : List Given) → IsLegal old.visiting.seen → Run old ms gs new
    → RunToldBy (new.visiting.seen ++ more) old ms gs new
tells_one_history old new more ms gs legal run = record {
  own = run_own old new ms gs run;
  told = run_told (new.visiting.seen ++ more) old new ms gs legal (more, refl) run;
  mine = run_mine old new ms gs run;
}

-- ---- the last park

park_on : (faultless : Type 0) (c : Connection) (old new : Visiting) → IsLastPark faultless c old new → GoesOn old.seen new.seen
park_on faultless Bare old new same = ([], ap (λ (v : Visiting). v.seen) same ∙ sym (append-nil old.seen))
park_on faultless (Holds held) old new (answered, visited, quiet) = visited_on old new held.who (Park held.doc held.hold held.desk.done held.desk.undone) answered visited

abbrev park_own : (faultless : Type 0) (c : Connection) (old new : Visiting) → IsLastPark faultless c old new → List ℕ
park_own faultless Bare old new same = []
park_own faultless (Holds held) old new (answered, visited, quiet) = gained (old.seen ++ visited.replied.others) new.seen

park_mine : (faultless : Type 0) (c : Connection) (old new : Visiting) (parked : IsLastPark faultless c old new) → new.mine ≡ old.mine ++ park_own faultless c old new parked
park_mine faultless Bare old new same = ap (λ (v : Visiting). v.mine) same ∙ sym (append-nil old.mine)
park_mine faultless (Holds held) old new (answered, visited, quiet) = visited.replied.mine_is

park_told : (seen : List Happened) (faultless : Type 0) (c : Connection) (old new : Visiting) → IsLegal old.seen → GoesOn new.seen seen → (parked : IsLastPark faultless c old new)
    → ParkedBy seen (last old.seen) c (park_own faultless c old new parked) (last new.seen)
park_told seen faultless Bare old new legal on same = subst (λ (v : Visiting). ParkedBy seen (last old.seen) Bare [] (last v.seen)) (sym same) told.holds_none
park_told seen faultless (Holds held) old new legal on (answered, visited, quiet) =
    told.is_asked held answered (gained (old.seen ++ visited.replied.others) new.seen) (last new.seen)
    (visited_by seen old new held.who (Park held.doc held.hold held.desk.done held.desk.undone) answered legal on visited)

-- ---- a whole connection

-- its messages, the last one too, and the last park are told by the history that is seen at the end, and by each that goes on from it
whole_told : (more : List Happened) (faultless : Type 0) (start : Connection) (old new : Visiting) (ms : List Message) (gs : List Given) (behind : Serving)
    → IsLegal old.seen → Run (serving start old) ms gs behind → IsLastPark faultless behind.connection behind.visiting new
    → ConnectionToldBy (new.seen ++ more) start old new (place_of behind) (record { messages = ms; answers = gs })
whole_told more faultless start old new ms gs behind legal run parked =
    let first : Serving = serving start old in
    let on : GoesOn behind.visiting.seen new.seen = park_on faultless behind.connection behind.visiting new parked in
    let all : GoesOn old.seen new.seen = goes_through old.seen behind.visiting.seen new.seen (run_on first behind ms gs run) on in
    record {
      behind = behind.connection;
      own = run_own first behind ms gs run;
      told = run_told (new.seen ++ more) first behind ms gs legal (goes_through behind.visiting.seen new.seen (new.seen ++ more) on (more, refl)) run;
      made = park_own faultless behind.connection behind.visiting new parked;
      parked = park_told (new.seen ++ more) faultless behind.connection behind.visiting new (run_legal first behind ms gs run legal) (more, refl) parked;
      mine =
          park_mine faultless behind.connection behind.visiting new parked
          ∙ (ap (λ (places : List ℕ). places ++ park_own faultless behind.connection behind.visiting new parked) (run_mine first behind ms gs run)
          ∙ append_assoc old.mine (run_own first behind ms gs run) (park_own faultless behind.connection behind.visiting new parked));
      others = all.0;
      grown = all.1;
    }

pub connection_tells_one_history : (faultless : Type 0) (start : Connection) (old new : Visiting) (left now before written : Option (List ℕ)) (end : Ending) (more : List Happened)
    (whole : ConnectionTold faultless start old new left now before written end) → IsLegal old.seen → ConnectionToldBy (new.seen ++ more) start old new (place_of whole.behind) (talk_of whole)
connection_tells_one_history faultless start old new left now before written end more whole legal =
    whole_told more faultless start old new (talk_of whole).messages (talk_of whole).answers whole.behind legal
    (ended_run faultless (serving start old) whole.behind left whole.session.held now before written end whole.session.ends) whole.parked
