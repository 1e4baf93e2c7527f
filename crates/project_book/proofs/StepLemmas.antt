-- No step answers that the keeper failed.
use Rattle.std.proofs.Common.{◌≡◌, ◌≢◌, ℕ, ◌==◌, ◌||◌, Bool, true, false, not, List, [], ◌∷◌, length, nat_lt, bytes_eq, is_some, Option, Some, None, option_map, refl, sym, ◌∙◌, ap, if◌then◌else◌}
use Rattle.std.specs.Prelude.{⊤}
use Rattle.std.specs.Option.{option_map_or, option_or}
use Rattle.project_machine.specs.declared.book_refusal.BookRefusal.{BookRefusal}
use Rattle.project_machine.specs.declared.book_refusal.BookRefusal.TheVariants as no
use Rattle.project_machine.specs.declared.book_refusal.Policy.TheVariants as policy
use Rattle.project_machine.specs.declared.report.Report.TheVariants as report
use Rattle.curator_decisions.specs.declared.decision_fault.DecisionFault.{DecisionFault}
use Rattle.curator_decisions.specs.declared.decision_fault.DecisionFault.TheVariants as fault
use Rattle.curator_decisions.specs.DecisionFaults.{decide_fault, undecide_fault}
use Rattle.unanimous_merge.specs.Readings.{readings}
use Rattle.layer_model.specs.Annotations.{Annotations}
use Rattle.layer_model.specs.declared.rule.Rule.{Rule}
use Rattle.project_machine.specs.ProjectState.{Row, Snapshot, ProjectState, is_annotator, is_curator, is_there, number_of, row_in, finished_rows, is_untaken, snapshot, text_of, is_holder, item_in}
use Rattle.project_machine.specs.Requests.{Asked, ReadConf, ListDocs, ReadText, AddText, Checkout, TakeOver, Commit, Park, Finish, ReadLayer, Reopen, Ignore, Readmit, Snap, TakeSnapshot, Decide, Undecide, ReadPairs, ReadAlpha, ReadReport, Answered, Refused, Happened}
use Rattle.project_machine.specs.Machine.{Step, annotators_only, commit_rule, curators_only, enough, has_layer, held, holds, is_full, of_text, park_rule, size_of, taken, there, when, first_of, policies, tests, refusal, refused, reply, change, bounded, unless, size_in, step}

-- it is the keeper that fails
abbrev is_keeper : Option BookRefusal → Bool
is_keeper (Some no.Keeper) = true
is_keeper refusal = false

-- an answer says that the keeper failed
abbrev says_keeper : Answered → Bool
says_keeper (Refused no.Keeper named) = true
says_keeper answer = false

when_not : (met : Bool) (r : BookRefusal) → is_keeper (Some r) ≡ false → is_keeper (when met r) ≡ false
when_not true r e = e
when_not false r e = refl

broken_not : (o : Option Rule) → is_keeper (option_map no.Broken o) ≡ false
broken_not None = refl
broken_not (Some r) = refl

decision_not : (o : Option DecisionFault) → is_keeper (option_map no.Decision o) ≡ false
decision_not None = refl
decision_not (Some r) = refl

or_not : (a b : Option BookRefusal) → is_keeper a ≡ false → is_keeper b ≡ false → is_keeper (option_or a b) ≡ false
or_not None b first second = second
or_not (Some r) b first second = first

-- no refusal of some says that the keeper failed
abbrev NoneKeeper : List (Option BookRefusal) → Type 0
NoneKeeper [] = ⊤
NoneKeeper (o ∷ os) = (is_keeper o ≡ false) × NoneKeeper os

first_not : (os : List (Option BookRefusal)) → NoneKeeper os → is_keeper (first_of os) ≡ false
first_not [] none = refl
first_not (o ∷ os) none = or_not o (first_of os) none.0 (first_not os none.1)

there_not : (s : ProjectState) (name : List ℕ) → is_keeper (there s name) ≡ false
there_not s name = when_not (not (is_there s name)) no.NoDocument refl

layer_not : (s : ProjectState) (who : List ℕ) → is_keeper (has_layer s who) ≡ false
layer_not s who = when_not (not (is_annotator s who)) no.NoLayer refl

held_not : (r : Row) (hold : ℕ) → is_keeper (held r hold) ≡ false
held_not r hold = when_not (not (option_map_or (λ out. out == hold) r.hold false)) no.NotYours refl

enough_not : (finished : List (List ℕ × Annotations)) → is_keeper (enough finished) ≡ false
enough_not finished = when_not (nat_lt (length finished) 2) (no.TooFewFinished (length finished)) refl

taken_not : (s : ProjectState) (number : ℕ) → is_keeper (taken s number) ≡ false
taken_not s number = when_not (is_untaken s number) no.NoSnapshot refl

holds_not : (shot : Snapshot) (who : List ℕ) → is_keeper (holds shot who) ≡ false
holds_not shot who = when_not (not (is_holder shot who)) (no.Decision fault.NoItem) refl

annotators_not : (s : ProjectState) (caller : List ℕ) → is_keeper (annotators_only s caller) ≡ false
annotators_not s caller = when_not (not (is_annotator s caller)) (no.NotAllowed policy.Annotator) refl

curators_not : (s : ProjectState) (caller : List ℕ) → is_keeper (curators_only s caller) ≡ false
curators_not s caller = when_not (not (is_curator s caller)) (no.NotAllowed policy.Curator) refl

policies_not : (s : ProjectState) (caller : List ℕ) (asked : Asked) → is_keeper (policies s caller asked) ≡ false
policies_not s caller ReadConf = refl
policies_not s caller ListDocs = refl
policies_not s caller (ReadText name) = refl
policies_not s caller (AddText name text) = curators_not s caller
policies_not s caller (Checkout name) = annotators_not s caller
policies_not s caller (TakeOver name) = annotators_not s caller
policies_not s caller (Commit name hold layer) = annotators_not s caller
policies_not s caller (Park name hold done undone) = annotators_not s caller
policies_not s caller (Finish name) = annotators_not s caller
policies_not s caller (ReadLayer name who) = when_not (not (is_curator s caller || bytes_eq caller who)) (no.NotAllowed policy.Own) refl
policies_not s caller (Reopen name who) = curators_not s caller
policies_not s caller (Ignore name who) = curators_not s caller
policies_not s caller (Readmit name who) = curators_not s caller
policies_not s caller (Snap name) = curators_not s caller
policies_not s caller (TakeSnapshot number) = curators_not s caller
policies_not s caller (Decide number holder id verdict) = curators_not s caller
policies_not s caller (Undecide number holder id) = curators_not s caller
policies_not s caller ReadPairs = curators_not s caller
policies_not s caller ReadAlpha = curators_not s caller
policies_not s caller (ReadReport report.Progress) = refl
policies_not s caller (ReadReport report.Snapshots) = curators_not s caller
policies_not s caller (ReadReport report.Roster) = curators_not s caller

tests_none : (s : ProjectState) (caller : List ℕ) (asked : Asked) → NoneKeeper (tests s caller asked)
tests_none s caller ReadConf = tt
tests_none s caller ListDocs = tt
tests_none s caller (ReadText name) = (there_not s name, tt)
tests_none s caller (AddText name text) = (when_not ((is_there s name)) no.DocumentThere refl, (when_not ((is_full s text)) no.ProjectFull refl, tt))
tests_none s caller (Checkout name) = (there_not s name, (when_not ((row_in s name caller).finished) no.Finished refl, (when_not ((is_some (row_in s name caller).hold)) no.LayerOut refl, tt)))
tests_none s caller (TakeOver name) = (there_not s name, (when_not ((row_in s name caller).finished) no.Finished refl, tt))
tests_none s caller (Commit name hold layer) = (there_not s name, (held_not (row_in s name caller) hold, (broken_not (commit_rule s.conf (size_of s name) layer), tt)))
tests_none s caller (Park name hold done undone) = (there_not s name, (held_not (row_in s name caller) hold, (broken_not (park_rule s.conf (size_of s name) (row_in s name caller).layer done undone), tt)))
tests_none s caller (Finish name) = (there_not s name, (when_not ((is_some (row_in s name caller).hold)) no.LayerOut refl, (when_not ((row_in s name caller).finished) no.Finished refl, (when_not (((row_in s name caller).revision == 0)) no.NothingCommitted refl, tt))))
tests_none s caller (ReadLayer name who) = (there_not s name, (layer_not s who, (when_not (((row_in s name who).revision == 0)) no.NoLayer refl, tt)))
tests_none s caller (Reopen name who) = (there_not s name, (layer_not s who, (when_not ((not (row_in s name who).finished)) no.NotFinished refl, tt)))
tests_none s caller (Ignore name who) = (there_not s name, (layer_not s who, (when_not (((row_in s name who).revision == 0)) no.NothingCommitted refl, (when_not ((row_in s name who).ignored) no.AlreadyIgnored refl, tt))))
tests_none s caller (Readmit name who) = (there_not s name, (layer_not s who, (when_not ((not (row_in s name who).ignored)) no.NotIgnored refl, tt)))
tests_none s caller (Snap name) = (there_not s name, (enough_not (finished_rows s (number_of s name)), tt))
tests_none s caller (TakeSnapshot number) = (taken_not s number, tt)
tests_none s caller (Decide number holder id verdict) = (taken_not s number, (holds_not (snapshot s number) holder, (decision_not (decide_fault s.conf (length (text_of s (snapshot s number))) (readings (snapshot s number).holders) (snapshot s number).verdicts (item_in (snapshot s number) holder id) verdict), tt)))
tests_none s caller (Undecide number holder id) = (taken_not s number, (holds_not (snapshot s number) holder, (decision_not (undecide_fault s.conf (length (text_of s (snapshot s number))) (readings (snapshot s number).holders) (snapshot s number).verdicts (item_in (snapshot s number) holder id)), tt)))
tests_none s caller ReadPairs = tt
tests_none s caller ReadAlpha = tt
tests_none s caller (ReadReport report) = tt

tests_not : (s : ProjectState) (caller : List ℕ) (asked : Asked) → is_keeper (first_of (tests s caller asked)) ≡ false
tests_not s caller asked = first_not (tests s caller asked) (tests_none s caller asked)

roster_not : is_keeper (Some (no.NotAllowed policy.Roster)) ≡ false
roster_not = refl

refusal_not : (s : ProjectState) (caller : List ℕ) (asked : Asked) → is_keeper (refusal s caller asked) ≡ false
refusal_not s caller asked =
    or_not (when (not (is_annotator s caller || is_curator s caller)) (no.NotAllowed policy.Roster)) (option_or (policies s caller asked) (first_of (tests s caller asked)))
    (when_not (not (is_annotator s caller || is_curator s caller)) (no.NotAllowed policy.Roster) roster_not)
    (or_not (policies s caller asked) (first_of (tests s caller asked)) (policies_not s caller asked) (tests_not s caller asked))

reply_not : (s : ProjectState) (caller : List ℕ) (asked : Asked) → says_keeper (reply s caller asked) ≡ false
reply_not s caller ReadConf = refl
reply_not s caller ListDocs = refl
reply_not s caller (ReadText name) = refl
reply_not s caller (AddText name text) = refl
reply_not s caller (Checkout name) = refl
reply_not s caller (TakeOver name) = refl
reply_not s caller (Commit name hold layer) = refl
reply_not s caller (Park name hold done undone) = refl
reply_not s caller (Finish name) = refl
reply_not s caller (ReadLayer name who) = refl
reply_not s caller (Reopen name who) = refl
reply_not s caller (Ignore name who) = refl
reply_not s caller (Readmit name who) = refl
reply_not s caller (Snap name) = refl
reply_not s caller (TakeSnapshot number) = refl
reply_not s caller (Decide number holder id verdict) = refl
reply_not s caller (Undecide number holder id) = refl
reply_not s caller ReadPairs = refl
reply_not s caller ReadAlpha = refl
reply_not s caller (ReadReport report) = refl

refused_not : (r : BookRefusal) (named : List ℕ) → is_keeper (Some r) ≡ false → says_keeper (Refused r named) ≡ false
refused_not no.Keeper named e = e
refused_not r named e = refl

long_not : (n : ℕ) → is_keeper (Some (no.EntryTooLong n)) ≡ false
long_not n = refl

bounded_by : (s : ProjectState) (asked : Asked) (answer : Answered) (h : Happened) (long : Bool) → says_keeper answer ≡ false
    → says_keeper (if long then refused s asked (no.EntryTooLong (size_in s h)) else (let granted : Step = record { answer = answer; change = Some h } in granted)).answer ≡ false
bounded_by s asked answer h true e = refused_not (no.EntryTooLong (size_in s h)) (of_text s asked (no.EntryTooLong (size_in s h))) (long_not (size_in s h))
bounded_by s asked answer h false e = e

bounded_not : (s : ProjectState) (asked : Asked) (answer : Answered) (c : Option Happened) → says_keeper answer ≡ false → says_keeper (bounded s asked answer c).answer ≡ false
bounded_not s asked answer None e = e
bounded_not s asked answer (Some h) e = bounded_by s asked answer h (nat_lt 16777216 (size_in s h)) e

unless_not : (s : ProjectState) (asked : Asked) (o : Option BookRefusal) (answer : Answered) (c : Option Happened) → is_keeper o ≡ false → says_keeper answer ≡ false → says_keeper (unless s asked o answer c).answer ≡ false
unless_not s asked None answer c free e = bounded_not s asked answer c e
unless_not s asked (Some r) answer c free e = refused_not r (of_text s asked r) free

step_not : (s : ProjectState) (caller : List ℕ) (asked : Asked) → says_keeper (step s caller asked).answer ≡ false
step_not s caller asked = unless_not s asked (refusal s caller asked) (reply s caller asked) (change s caller asked) (refusal_not s caller asked) (reply_not s caller asked)

true_false : true ≡ false → ⊥
true_false e = cc

said : (named : List ℕ) → says_keeper (Refused no.Keeper named) ≡ true
said named = refl

-- no step answers that the keeper failed
pub never_keeper : (s : ProjectState) (caller : List ℕ) (asked : Asked) (named : List ℕ) → (step s caller asked).answer ≢ Refused no.Keeper named
never_keeper s caller asked named e = true_false (sym (said named) ∙ (sym (ap says_keeper e) ∙ step_not s caller asked))
