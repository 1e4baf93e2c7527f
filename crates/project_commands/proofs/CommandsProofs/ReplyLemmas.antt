-- Whatever is asked, the answer is that of what is granted, or a refusal, and a refusal changes nothing.
use Rattle.std.specs.Prelude.{IsErrOf, is_some}
use Rattle.mark_base.proofs.FaultLemmas.{told_as}
use Rattle.project_book.specs.Keeping.{TellsKeeper}
use Rattle.std.proofs.Common.{Result, Ok, Err, ◌≡◌, ◌⊎◌, ℕ, Bool, true, false, List, [], Option, Some, None, nat_lt, refl, sym, ◌∙◌, ap, subst, inl, inr, if◌then◌else◌}
use Rattle.project_machine.specs.declared.book_refusal.BookRefusal.{BookRefusal}
use Rattle.project_machine.specs.declared.book_refusal.BookRefusal.TheVariants as no
use Rattle.project_machine.specs.ProjectState.{ProjectState}
use Rattle.project_machine.specs.Requests.{Asked, ReadConf, ListDocs, ReadText, AddText, Checkout, TakeOver, Commit, Park, Finish, ReadLayer, Reopen, Ignore, Readmit, Snap, TakeSnapshot, Decide, Undecide, ReadPairs, ReadAlpha, ReadReport, Answered, Conf, Docs, Text, Added, HandedOut, Committed, Parked, Finished, Layer, Ignored, Snapped, Taken, Decided, Pairs, Alpha, Table, Refused, Happened}
use Rattle.project_machine.specs.Machine.{Step, change, of_text, refusal, refused, reply, size_in, step, unless}
use Rattle.project_machine.specs.History.{after}
use Rattle.project_machine.specs.Asking.{IsStep, steps, wants_memory, is_not_kept, step_at}
use Rattle.program_inputs.specs.declared.trouble.Trouble.{Trouble}
use Rattle.program_inputs.specs.declared.trouble.Trouble.TheVariants as trouble
use Rattle.project_commands.specs.Commands.Requests.{Grants, IsGranted, IsReplied, RefusesTo, refuses, lacks_memory, fails_to_keep, is_refused, named_in, refusal_in, trouble_of}

-- what is granted is no refusal
reply_granted : (s : ProjectState) (caller : List ℕ) (asked : Asked) → is_refused (reply s caller asked) ≡ false
reply_granted s caller ReadConf = refl
reply_granted s caller ListDocs = refl
reply_granted s caller (ReadText name) = refl
reply_granted s caller (AddText name text) = refl
reply_granted s caller (Checkout name) = refl
reply_granted s caller (TakeOver name) = refl
reply_granted s caller (Commit name hold layer) = refl
reply_granted s caller (Park name hold done undone) = refl
reply_granted s caller (Finish name) = refl
reply_granted s caller (ReadLayer name who) = refl
reply_granted s caller (Reopen name who) = refl
reply_granted s caller (Ignore name who) = refl
reply_granted s caller (Readmit name who) = refl
reply_granted s caller (Snap name) = refl
reply_granted s caller (TakeSnapshot number) = refl
reply_granted s caller (Decide number holder id verdict) = refl
reply_granted s caller (Undecide number holder id) = refl
reply_granted s caller ReadPairs = refl
reply_granted s caller ReadAlpha = refl
reply_granted s caller (ReadReport report) = refl

true_false : {A : Type 0} → ◌≡◌ {A = Bool} true false → A
true_false {A} e = cc

-- ---- the answer of a step

bounded_replies : (long : Bool) (s : ProjectState) (asked : Asked) (bytes : ℕ) (answer : Answered) (happened : Option Happened)
    → ((if◌then◌else◌ {A = Step} long (refused s asked (no.EntryTooLong bytes)) (record { answer = answer; change = happened })).answer ≡ answer)
    ⊎ (is_refused (if◌then◌else◌ {A = Step} long (refused s asked (no.EntryTooLong bytes)) (record { answer = answer; change = happened })).answer ≡ true)
bounded_replies true s asked bytes answer happened = inr refl
bounded_replies false s asked bytes answer happened = inl refl

unless_replies : (s : ProjectState) (asked : Asked) (o : Option BookRefusal) (answer : Answered) (happened : Option Happened)
    → ((unless s asked o answer happened).answer ≡ answer) ⊎ (is_refused (unless s asked o answer happened).answer ≡ true)
unless_replies s asked (Some r) answer happened = inr refl
unless_replies s asked None answer None = inl refl
unless_replies s asked None answer (Some happened) = bounded_replies (nat_lt 16777216 (size_in s happened)) s asked (size_in s happened) answer (Some happened)

pub step_replies : (s : ProjectState) (caller : List ℕ) (asked : Asked) → ((step s caller asked).answer ≡ reply s caller asked) ⊎ (is_refused (step s caller asked).answer ≡ true)
step_replies s caller asked = unless_replies s asked (refusal s caller asked) (reply s caller asked) (change s caller asked)

bounded_stays : (long : Bool) (s : ProjectState) (asked : Asked) (bytes : ℕ) (answer : Answered) (happened : Option Happened) → is_refused answer ≡ false
    → is_refused (if◌then◌else◌ {A = Step} long (refused s asked (no.EntryTooLong bytes)) (record { answer = answer; change = happened })).answer ≡ true
    → (if◌then◌else◌ {A = Step} long (refused s asked (no.EntryTooLong bytes)) (record { answer = answer; change = happened })).change ≡ None
bounded_stays true s asked bytes answer happened granted is = refl
bounded_stays false s asked bytes answer happened granted is = true_false (sym is ∙ granted)

unless_stays : (s : ProjectState) (asked : Asked) (o : Option BookRefusal) (answer : Answered) (happened : Option Happened) → is_refused answer ≡ false
    → is_refused (unless s asked o answer happened).answer ≡ true → (unless s asked o answer happened).change ≡ None
unless_stays s asked (Some r) answer happened granted is = refl
unless_stays s asked None answer None granted is = refl
unless_stays s asked None answer (Some happened) granted is = bounded_stays (nat_lt 16777216 (size_in s happened)) s asked (size_in s happened) answer (Some happened) granted is

pub step_stays : (s : ProjectState) (caller : List ℕ) (asked : Asked) → is_refused (step s caller asked).answer ≡ true → (step s caller asked).change ≡ None
step_stays s caller asked is = unless_stays s asked (refusal s caller asked) (reply s caller asked) (change s caller asked) (reply_granted s caller asked) is

-- ---- a request of a book

-- what is true of the answer of the step, and of both other refusals, is true of the answer
pub step_answer : (P : Answered → Type 0) (log : List Happened) (caller : List ℕ) (asked : Asked) (answer : Answered) (now : List Happened)
    → IsStep log caller asked answer now → P (step_at log caller asked).answer → P (Refused no.Memory []) → P (Refused no.Keeper []) → P answer
step_answer P log caller asked answer now (steps is now_is room) of_step of_memory of_keeper = subst P (sym is) of_step
step_answer P log caller asked answer now (wants_memory is now_is) of_step of_memory of_keeper = subst P (sym is) of_memory
step_answer P log caller asked answer now (is_not_kept is now_is some room) of_step of_memory of_keeper = subst P (sym is) of_keeper

-- a request that is not refused is granted
pub granted : (log : List Happened) (caller : List ℕ) (asked : Asked) (answer : Answered) (now : List Happened) → IsStep log caller asked answer now → is_refused answer ≡ false
    → Grants log caller asked answer now
granted log caller asked answer now (steps is now_is room) free = record { answered = sym is; history = now_is }
granted log caller asked answer now (wants_memory is now_is) free = true_false (sym (ap is_refused is) ∙ free)
granted log caller asked answer now (is_not_kept is now_is some room) free = true_false (sym (ap is_refused is) ∙ free)

-- ---- a refusal

none_some : {X A : Type 0} (x : X) → ◌≡◌ {A = Option X} None (Some x) → A
none_some {X} {A} x e = cc

-- an answer with a refusal is that refusal
refused_as : (answer : Answered) (r : BookRefusal) → refusal_in answer ≡ Some r → answer ≡ Refused r (named_in answer)
refused_as (Refused other named) r is = let e : other ≡ r = cc in ap (λ x. Refused x named) e
refused_as (Conf conf) r is = none_some r is
refused_as (Docs lines) r is = none_some r is
refused_as (Text text) r is = none_some r is
refused_as (Added tokens) r is = none_some r is
refused_as (HandedOut out) r is = none_some r is
refused_as (Committed revision) r is = none_some r is
refused_as Parked r is = none_some r is
refused_as (Finished finished) r is = none_some r is
refused_as (Layer layer text conf) r is = none_some r is
refused_as (Ignored ignored) r is = none_some r is
refused_as (Snapped number layers) r is = none_some r is
refused_as (Taken view) r is = none_some r is
refused_as (Decided count) r is = none_some r is
refused_as (Pairs names lines) r is = none_some r is
refused_as (Alpha line) r is = none_some r is
refused_as (Table bytes) r is = none_some r is

-- an answer without a refusal is none
not_refused : (answer : Answered) → refusal_in answer ≡ None → is_refused answer ≡ false
not_refused answer is = ap is_some is

-- what a refusal of a project names is what such a refusal names
renamed : ProjectState → Asked → Answered → Answered
renamed s asked (Refused r named) = Refused r (of_text s asked r)
renamed s asked answer = answer

unrefused_renamed : (s : ProjectState) (asked : Asked) (answer : Answered) → is_refused answer ≡ false → renamed s asked answer ≡ answer
unfolding renamed
unrefused_renamed s asked (Refused r named) free = true_false free
unrefused_renamed s asked (Conf conf) free = refl
unrefused_renamed s asked (Docs lines) free = refl
unrefused_renamed s asked (Text text) free = refl
unrefused_renamed s asked (Added tokens) free = refl
unrefused_renamed s asked (HandedOut out) free = refl
unrefused_renamed s asked (Committed revision) free = refl
unrefused_renamed s asked Parked free = refl
unrefused_renamed s asked (Finished finished) free = refl
unrefused_renamed s asked (Layer layer text conf) free = refl
unrefused_renamed s asked (Ignored ignored) free = refl
unrefused_renamed s asked (Snapped number layers) free = refl
unrefused_renamed s asked (Taken view) free = refl
unrefused_renamed s asked (Decided count) free = refl
unrefused_renamed s asked (Pairs names lines) free = refl
unrefused_renamed s asked (Alpha line) free = refl
unrefused_renamed s asked (Table bytes) free = refl

bounded_renamed : (long : Bool) (s : ProjectState) (asked : Asked) (bytes : ℕ) (answer : Answered) (happened : Option Happened) → is_refused answer ≡ false
    → renamed s asked (if◌then◌else◌ {A = Step} long (refused s asked (no.EntryTooLong bytes)) (record { answer = answer; change = happened })).answer
    ≡ (if◌then◌else◌ {A = Step} long (refused s asked (no.EntryTooLong bytes)) (record { answer = answer; change = happened })).answer
unfolding renamed
bounded_renamed true s asked bytes answer happened free = refl
bounded_renamed false s asked bytes answer happened free = unrefused_renamed s asked answer free

unless_renamed : (s : ProjectState) (asked : Asked) (o : Option BookRefusal) (answer : Answered) (happened : Option Happened) → is_refused answer ≡ false
    → renamed s asked (unless s asked o answer happened).answer ≡ (unless s asked o answer happened).answer
unfolding renamed
unless_renamed s asked (Some r) answer happened free = refl
unless_renamed s asked None answer None free = unrefused_renamed s asked answer free
unless_renamed s asked None answer (Some happened) free = bounded_renamed (nat_lt 16777216 (size_in s happened)) s asked (size_in s happened) answer (Some happened) free

step_renamed : (s : ProjectState) (caller : List ℕ) (asked : Asked) → renamed s asked (step s caller asked).answer ≡ (step s caller asked).answer
step_renamed s caller asked = unless_renamed s asked (refusal s caller asked) (reply s caller asked) (change s caller asked) (reply_granted s caller asked)

-- that the keeper failed names nothing
keeper_names : (log : List Happened) (caller : List ℕ) (asked : Asked) (named : List ℕ) (now : List Happened) → IsStep log caller asked (Refused no.Keeper named) now
    → Refused no.Keeper named ≡ Refused no.Keeper []
unfolding renamed
keeper_names log caller asked named now (steps is now_is room) = is ∙ (sym (step_renamed (after log) caller asked) ∙ sym (ap (renamed (after log) asked) is))
keeper_names log caller asked named now (wants_memory is now_is) = cc
keeper_names log caller asked named now (is_not_kept is now_is some room) = is

-- what an answer comes to where it is a refusal
trouble_in : Answered → Trouble
trouble_in (Refused r named) = trouble_of r named
trouble_in answer = trouble.Memory

refuses_to : (log : List Happened) (caller : List ℕ) (asked : Asked) (r : BookRefusal) (named : List ℕ) (now : List Happened) → IsStep log caller asked (Refused r named) now
    → RefusesTo log caller asked (trouble_of r named)
unfolding trouble_in
refuses_to log caller asked r named now (steps is now_is room) = refuses r named (sym is) refl
refuses_to log caller asked r named now (wants_memory is now_is) = lacks_memory (ap trouble_in is)
refuses_to log caller asked r named now (is_not_kept is now_is some room) = fails_to_keep some (ap trouble_in is)

-- why a refused request ends a command
pub refused_by : (log : List Happened) (caller : List ℕ) (asked : Asked) (answer : Answered) (r : BookRefusal) (now : List Happened) → IsStep log caller asked answer now
    → refusal_in answer ≡ Some r → RefusesTo log caller asked (trouble_of r (named_in answer))
refused_by log caller asked answer r now stepped is =
    refuses_to log caller asked r (named_in answer) now (subst (λ a. IsStep log caller asked a now) (refused_as answer r is) stepped)

-- a disk is at fault exactly where the keeper failed
is_keeper : (r : BookRefusal) (named : List ℕ) → trouble_of r named ≡ trouble.DiskFailed → r ≡ no.Keeper
is_keeper no.Keeper named is = refl
is_keeper (no.NotAllowed policy) named is = cc
is_keeper no.NoDocument named is = cc
is_keeper no.NoLayer named is = cc
is_keeper no.NoSnapshot named is = cc
is_keeper no.LayerOut named is = cc
is_keeper no.NotYours named is = cc
is_keeper no.Finished named is = cc
is_keeper no.NothingCommitted named is = cc
is_keeper no.NotFinished named is = cc
is_keeper (no.TooFewFinished finished) named is = cc
is_keeper (no.Broken broken) named is = cc
is_keeper (no.Decision decision) named is = cc
is_keeper no.DocumentThere named is = cc
is_keeper no.ProjectFull named is = cc
is_keeper (no.EntryTooLong bytes) named is = cc
is_keeper no.Memory named is = cc
is_keeper no.AlreadyIgnored named is = cc
is_keeper no.NotIgnored named is = cc

failed_back : (log : List Happened) (caller : List ℕ) (asked : Asked) (answer : Answered) (r : BookRefusal) (named : List ℕ) (now : List Happened) → IsStep log caller asked answer now
    → refusal_in answer ≡ Some r → trouble_of r named ≡ trouble.DiskFailed → answer ≡ Refused no.Keeper []
failed_back log caller asked answer r named now stepped is failed =
    let as_keeper : answer ≡ Refused no.Keeper (named_in answer) = refused_as answer no.Keeper (is ∙ ap Some (is_keeper r named failed)) in
    as_keeper ∙ keeper_names log caller asked (named_in answer) now (subst (λ a. IsStep log caller asked a now) as_keeper stepped)

failed_on : (answer : Answered) (r : BookRefusal) (named : List ℕ) → refusal_in answer ≡ Some r → answer ≡ Refused no.Keeper [] → trouble_of r named ≡ trouble.DiskFailed
failed_on answer r named is kept = let e : r ≡ no.Keeper = some_same (sym is ∙ ap refusal_in kept) in ap (λ refusal. trouble_of refusal named) e
  where
    some_same : {x y : BookRefusal} → ◌≡◌ {A = Option BookRefusal} (Some x) (Some y) → x ≡ y
    some_same {x} {y} e = cc

-- what a call tells of its keeper, where it fails for the same cause
pub tells_as : {K : Type 0} (faults : K → ℕ) (faultless : K → Type 0) (old new : K) {failed other : Type 0} → (other → failed) → (failed → other)
    → TellsKeeper faults faultless old new failed → TellsKeeper faults faultless old new other
tells_as {K} faults faultless old new back on told = record {
  later = told.later;
  cause = told_as (faults old) (faults new) back on told.cause;
  stays = told.stays;
  never = λ sure is. told.never sure (back is);
}

err_same : {X : Type 0} {x y : Trouble} → ◌≡◌ {A = Result X Trouble} (Err x) (Err y) → x ≡ y
err_same {X} {x} {y} e = cc

ok_err : {X A : Type 0} {value : X} {y : Trouble} → ◌≡◌ {A = Result X Trouble} (Ok value) (Err y) → A
ok_err {X} {A} {value} {y} e = cc

-- a refused request failed where its keeper did
pub tells_refused : {K X : Type 0} (faults : K → ℕ) (faultless : K → Type 0) (old new : K) (log : List Happened) (caller : List ℕ) (asked : Asked) (answer : Answered) (r : BookRefusal) (named : List ℕ) (now : List Happened)
    → IsStep log caller asked answer now → refusal_in answer ≡ Some r → TellsKeeper faults faultless old new (answer ≡ Refused no.Keeper [])
    → TellsKeeper faults faultless old new (IsErrOf {T = X} (Err (trouble_of r named)) trouble.DiskFailed)
tells_refused {K} {X} faults faultless old new log caller asked answer r named now stepped is =
    tells_as faults faultless old new (λ failed. failed_back log caller asked answer r named now stepped is (err_same failed)) (λ kept. ap (λ why. Err why) (failed_on answer r named is kept))

-- a granted request did not fail
pub tells_granted : {K X : Type 0} (faults : K → ℕ) (faultless : K → Type 0) (old new : K) (answer : Answered) (value : X) → refusal_in answer ≡ None
    → TellsKeeper faults faultless old new (answer ≡ Refused no.Keeper []) → TellsKeeper faults faultless old new (IsErrOf {T = X} (Ok value) trouble.DiskFailed)
tells_granted {K} {X} faults faultless old new answer value is =
    tells_as faults faultless old new (λ failed. ok_err failed) (λ kept. none_some no.Keeper (sym is ∙ ap refusal_in kept))

-- an answer that is no refusal is what is granted
pub is_granted : (log : List Happened) (caller : List ℕ) (asked : Asked) (answer : Answered) (now : List Happened) → IsStep log caller asked answer now → IsReplied log caller asked answer
    → refusal_in answer ≡ None → IsGranted log caller asked answer now
is_granted log caller asked answer now stepped (inl same) free = record { answer_is = same; grants = granted log caller asked answer now stepped (not_refused answer free) }
is_granted log caller asked answer now stepped (inr refused) free = true_false (sym refused ∙ not_refused answer free)
