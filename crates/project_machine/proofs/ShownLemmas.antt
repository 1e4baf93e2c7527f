-- An annotator is shown the same where all rows of others are blank.
use Rattle.std.proofs.Common.{◌≡◌, ℕ, ◌+◌, ◌==◌, ◌||◌, Bool, true, false, not, cond, List, [], ◌∷◌, ◌++◌, length, map, bytes_eq, nat_lt, Option, Some, None, refl, sym, ◌∙◌, ap, subst, is_some, if◌then◌else◌}
use Rattle.std.specs.List.{filter, flat_map, list_any, position_or_len, slice_get}
use Rattle.std.specs.Option.{option_map, option_map_or, option_or}
use Rattle.agreement_report.specs.Report as csv
use Rattle.std.proofs.lemmas.Slice.Eq.{bytes_eq-Decides}
use Rattle.entry_bytes.specs.declared.person.Person.{Person}
use Rattle.entry_bytes.specs.declared.entry.Entry.TheVariants as entry
use Rattle.entry_bytes.specs.Entries.{entry_bytes}
use Rattle.ann_writer.specs.AnnOf.{ann_of}
use Rattle.command_bytes.specs.CommandBytes.{scripts_bytes}
use Rattle.project_machine.proofs.LegalLemmas.{none_some, some_same}
use Rattle.layer_model.specs.Annotations.{Annotations}
use Rattle.layer_core.specs.declared.command.Command.{Command}
use Rattle.project_machine.specs.declared.book_refusal.BookRefusal.{BookRefusal}
use Rattle.project_machine.specs.declared.book_refusal.BookRefusal.TheVariants as no
use Rattle.project_machine.specs.declared.book_refusal.Policy.TheVariants as policy
use Rattle.project_machine.specs.ProjectState.{Row, Document, ProjectState, document, row, row_in, rater_of, is_there, number_of, is_annotator, is_curator}
use Rattle.project_machine.specs.Requests.{Asked, ReadConf, ListDocs, Table, ReadText, AddText, Checkout, TakeOver, Commit, Park, Finish, ReadLayer, Reopen, Ignore, Readmit, Snap, TakeSnapshot, Decide, Undecide, ReadPairs, ReadAlpha, ReadReport, Answered, Committed, Docs, HandedOut, Layer, Refused, Text, Happened, CheckedOut, LayerCommitted, LayerFinished, LayerParked, TakenOver}
use Rattle.project_machine.specs.Machine.{Step, annotators_only, bounded, change, commit_rule, curators_only, has_layer, held, park_rule, decided_snapshot, fault_text, first_of, line_of, of_text, policies, refusal, refused, reply, size_in, step, tests, unless, when}
use Rattle.project_machine.specs.History.{after, after_places, unfounded}
use Rattle.project_machine.specs.Legal.{IsLegal}
use Rattle.project_machine.specs.Own.{IsPrivate, only_row, own, shown}
use Rattle.project_machine.specs.declared.report.Report.TheVariants as report
use Rattle.project_machine.specs.ProgressTable.{own_progress, own_row, progress_fields, progress_header, progress_table, shown_progress}
use Rattle.project_machine.proofs.OneRowLemmas.{alone_there, any_alone, row_alone, text_alone}
use Rattle.project_machine.proofs.PrivateLemmas.{mine, own_state}

-- ---- refusals by the policy

curators_refused : (s : ProjectState) (who : List ℕ) (asked : Asked) → is_annotator s who ≡ true → is_curator s who ≡ false → policies s who asked ≡ curators_only s who → step s who asked ≡ refused s asked (no.NotAllowed policy.Curator)
curators_refused s who asked is lay only =
    ap (λ o. unless s asked o (reply s who asked) (change s who asked))
    (ap (λ p. option_or (when (not (is_annotator s who || is_curator s who)) (no.NotAllowed policy.Roster)) (option_or p (first_of (tests s who asked)))) only
    ∙ (ap (λ c. option_or (when (not (is_annotator s who || is_curator s who)) (no.NotAllowed policy.Roster)) (option_or (when (not c) (no.NotAllowed policy.Curator)) (first_of (tests s who asked)))) lay
    ∙ ap (λ a. option_or (when (not (a || is_curator s who)) (no.NotAllowed policy.Roster)) (Some (no.NotAllowed policy.Curator))) is))

-- what curators may ask is refused in both
both_refused : (s : ProjectState) (who : List ℕ) (asked : Asked) → is_annotator s who ≡ true → is_curator s who ≡ false → policies s who asked ≡ curators_only s who → policies (mine who s) who asked ≡ curators_only (mine who s) who
    → shown (step s who asked).answer ≡ shown (step (mine who s) who asked).answer
both_refused s who asked is lay only also =
    ap (λ (st : Step). shown st.answer) (curators_refused s who asked is lay only) ∙ sym (ap (λ (st : Step). shown st.answer) (curators_refused (mine who s) who asked is lay also))

-- ---- what refusals name

of_same : (s : ProjectState) (who : List ℕ) (asked : Asked) (r : BookRefusal) → decided_snapshot s asked ≡ decided_snapshot (mine who s) asked → of_text s asked r ≡ of_text (mine who s) asked r
of_same s who asked (no.Decision d) same = ap (λ shot. fault_text s.conf shot d) same
of_same s who asked r same = refl

long_same : (s : ProjectState) (who : List ℕ) (asked : Asked) (answer other : Answered) (h : Happened) (n : ℕ) (long : Bool) → shown answer ≡ shown other
    → shown (if long then refused s asked (no.EntryTooLong n) else (let granted : Step = record { answer = answer; change = Some h } in granted)).answer
    ≡ shown (if long then refused (mine who s) asked (no.EntryTooLong n) else (let granted : Step = record { answer = other; change = Some h } in granted)).answer
long_same s who asked answer other h n true same = refl
long_same s who asked answer other h n false same = same

bounded_same : (s : ProjectState) (who : List ℕ) (asked : Asked) (answer other : Answered) (c : Option Happened) → shown answer ≡ shown other → ((h : Happened) → c ≡ Some h → size_in s h ≡ size_in (mine who s) h)
    → shown (bounded s asked answer c).answer ≡ shown (bounded (mine who s) asked other c).answer
bounded_same s who asked answer other None same size = same
bounded_same s who asked answer other (Some h) same size =
    long_same s who asked answer other h (size_in s h) (nat_lt 16777216 (size_in s h)) same
    ∙ ap (λ n. shown (if nat_lt 16777216 n then refused (mine who s) asked (no.EntryTooLong n) else (let granted : Step = record { answer = other; change = Some h } in granted)).answer) (size h refl)

unless_same : (s : ProjectState) (who : List ℕ) (asked : Asked) (o : Option BookRefusal) (answer other : Answered) (c : Option Happened) → decided_snapshot s asked ≡ decided_snapshot (mine who s) asked → shown answer ≡ shown other
    → ((h : Happened) → c ≡ Some h → size_in s h ≡ size_in (mine who s) h) → shown (unless s asked o answer c).answer ≡ shown (unless (mine who s) asked o other c).answer
unless_same s who asked (Some r) answer other c decided same size = ap (Refused r) (of_same s who asked r decided)
unless_same s who asked None answer other c decided same size = bounded_same s who asked answer other c same size

-- where refusals, replies and changes agree, so does what is shown
step_same : (s : ProjectState) (who : List ℕ) (asked : Asked) → decided_snapshot s asked ≡ decided_snapshot (mine who s) asked → refusal (mine who s) who asked ≡ refusal s who asked → change (mine who s) who asked ≡ change s who asked
    → shown (reply s who asked) ≡ shown (reply (mine who s) who asked) → ((h : Happened) → change s who asked ≡ Some h → size_in s h ≡ size_in (mine who s) h) → shown (step s who asked).answer ≡ shown (step (mine who s) who asked).answer
step_same s who asked decided refused_same changed replied size =
    unless_same s who asked (refusal s who asked) (reply s who asked) (reply (mine who s) who asked) (change s who asked) decided replied size
    ∙ (ap (λ o. shown (unless (mine who s) asked o (reply (mine who s) who asked) (change s who asked)).answer) (sym refused_same)
    ∙ ap (λ c. shown (unless (mine who s) asked (refusal (mine who s) who asked) (reply (mine who s) who asked) c).answer) (sym changed))

-- ---- documents

number_alone : (i : ℕ) (name : List ℕ) (ds : List Document) → position_or_len (λ (d : Document). bytes_eq d.name name) (map (only_row i) ds) ≡ position_or_len (λ (d : Document). bytes_eq d.name name) ds
number_alone i name [] = refl
number_alone i name (d ∷ ds) = ap (λ n. cond (not (bytes_eq d.name name)) (1 + n) 0) (number_alone i name ds)

lines_alone : (i : ℕ) (ds : List Document) → map line_of (map (only_row i) ds) ≡ map line_of ds
lines_alone i [] = refl
lines_alone i (d ∷ ds) = ap (λ rest. line_of d ∷ rest) (lines_alone i ds)

-- an annotator's own rows are the same where the others' are blank
rows_alone : (i : ℕ) (who : List ℕ) (ds : List Document) → flat_map (own_row i who) (map (only_row i) ds) ≡ flat_map (own_row i who) ds
rows_alone i who [] = refl
rows_alone i who (d ∷ ds) =
    ap (λ (r : Option Row). option_map_or (λ (it : Row). csv.row (progress_fields d.name who it)) r [] ++ flat_map (own_row i who) (map (only_row i) ds)) (alone_there i d.rows)
    ∙ ap (λ rest. own_row i who d ++ rest) (rows_alone i who ds)

own_same : (s : ProjectState) (who : List ℕ) → is_curator s who ≡ false → shown_progress s who ≡ shown_progress (mine who s) who
own_same s who lay =
    ap (λ b. if◌then◌else◌ b (progress_table s) (own_progress s who)) lay
    ∙ (ap (λ rows. csv.row progress_header ++ rows) (sym (rows_alone (rater_of s who) who s.documents))
    ∙ sym (ap (λ b. if◌then◌else◌ b (progress_table (mine who s)) (own_progress (mine who s) who)) lay))

same_number : (s : ProjectState) (who name : List ℕ) → number_of (mine who s) name ≡ number_of s name
same_number s who name = number_alone (rater_of s who) name s.documents

same_there : (s : ProjectState) (who name : List ℕ) → is_there (mine who s) name ≡ is_there s name
same_there s who name = any_alone (rater_of s who) name s.documents

same_row : (s : ProjectState) (who name : List ℕ) → row_in (mine who s) name who ≡ row_in s name who
same_row s who name = ap (λ n. row (mine who s) n who) (same_number s who name) ∙ row_alone (rater_of s who) (number_of s name) s.documents

same_text : (s : ProjectState) (who name : List ℕ) → (document (mine who s) (number_of (mine who s) name)).text ≡ (document s (number_of s name)).text
same_text s who name = ap (λ n. (document (mine who s) n).text) (same_number s who name) ∙ text_alone (rater_of s who) (number_of s name) s.documents

no_change : (s : ProjectState) (t : ProjectState) (h : Happened) → None ≡ Some h → size_in s h ≡ size_in t h
no_change s t h e = absurd (none_some h e)

-- ---- the tests of each request, by what they look at

-- the caller must be on the roster
abbrev roster : ProjectState → List ℕ → Option BookRefusal
roster s who = when (not (is_annotator s who || is_curator s who)) (no.NotAllowed policy.Roster)

abbrev checkout_tests : Bool → Row → Option BookRefusal
checkout_tests there r = first_of (when (not there) no.NoDocument ∷ when r.finished no.Finished ∷ when (is_some r.hold) no.LayerOut ∷ [])

abbrev takeover_tests : Bool → Row → Option BookRefusal
takeover_tests there r = first_of (when (not there) no.NoDocument ∷ when r.finished no.Finished ∷ [])

abbrev commit_tests : ProjectState → Annotations → ℕ → Bool → Row → List ℕ → Option BookRefusal
commit_tests s layer hold there r text = first_of (when (not there) no.NoDocument ∷ held r hold ∷ option_map no.Broken (commit_rule s.conf (length text) layer) ∷ [])

abbrev park_tests : ProjectState → List Command → List Command → ℕ → Bool → Row → List ℕ → Option BookRefusal
park_tests s done undone hold there r text = first_of (when (not there) no.NoDocument ∷ held r hold ∷ option_map no.Broken (park_rule s.conf (length text) r.layer done undone) ∷ [])

abbrev finish_tests : Bool → Row → Option BookRefusal
finish_tests there r = first_of (when (not there) no.NoDocument ∷ when (is_some r.hold) no.LayerOut ∷ when r.finished no.Finished ∷ when (r.revision == 0) no.NothingCommitted ∷ [])

abbrev read_tests : ProjectState → List ℕ → Bool → Row → Option BookRefusal
read_tests s who there r = first_of (when (not there) no.NoDocument ∷ has_layer s who ∷ when (r.revision == 0) no.NoLayer ∷ [])

-- a layer that is handed out is shown the same but for its hold
handed_same : (s : ProjectState) (who name : List ℕ) → shown (reply s who (Checkout name)) ≡ shown (reply (mine who s) who (Checkout name))
handed_same s who name =
    ap (λ (r : Row). HandedOut (record { hold = 0; revision = r.revision; base = r.layer; done = r.done; undone = r.undone; text = (document s (number_of s name)).text; conf = s.conf })) (sym (same_row s who name))
    ∙ ap (λ text. HandedOut (record { hold = 0; revision = (row_in (mine who s) name who).revision; base = (row_in (mine who s) name who).layer; done = (row_in (mine who s) name who).done; undone = (row_in (mine who s) name who).undone; text = text; conf = s.conf })) (sym (same_text s who name))

-- another's layer is refused in both
other_refused : (s : ProjectState) (who name whose : List ℕ) → is_annotator s who ≡ true → is_curator s who ≡ false → bytes_eq who whose ≡ false → step s who (ReadLayer name whose) ≡ refused s (ReadLayer name whose) (no.NotAllowed policy.Own)
other_refused s who name whose is lay other =
    ap (λ o. unless s (ReadLayer name whose) o (reply s who (ReadLayer name whose)) (change s who (ReadLayer name whose)))
    (ap (λ b. option_or (roster s who) (option_or (when (not (is_curator s who || b)) (no.NotAllowed policy.Own)) (first_of (tests s who (ReadLayer name whose))))) other
    ∙ (ap (λ c. option_or (roster s who) (option_or (when (not (c || false)) (no.NotAllowed policy.Own)) (first_of (tests s who (ReadLayer name whose))))) lay
    ∙ ap (λ a. option_or (when (not (a || is_curator s who)) (no.NotAllowed policy.Roster)) (Some (no.NotAllowed policy.Own))) is))

own_read : (s : ProjectState) (who name : List ℕ) → shown (step s who (ReadLayer name who)).answer ≡ shown (step (mine who s) who (ReadLayer name who)).answer
own_read s who name =
    step_same s who (ReadLayer name who) refl
    (ap (λ b. option_or (roster s who) (option_or (policies s who (ReadLayer name who)) (read_tests s who b (row_in (mine who s) name who)))) (same_there s who name)
    ∙ ap (λ r. option_or (roster s who) (option_or (policies s who (ReadLayer name who)) (read_tests s who (is_there s name) r))) (same_row s who name))
    refl
    (ap (λ (r : Row). Layer r.layer (document s (number_of s name)).text s.conf) (sym (same_row s who name)) ∙ ap (λ text. Layer (row_in (mine who s) name who).layer text s.conf) (sym (same_text s who name)))
    (λ h e. no_change s (mine who s) h e)

read_same : (s : ProjectState) (who name whose : List ℕ) → is_annotator s who ≡ true → is_curator s who ≡ false → (b : Bool) → bytes_eq who whose ≡ b → shown (step s who (ReadLayer name whose)).answer ≡ shown (step (mine who s) who (ReadLayer name whose)).answer
read_same s who name whose is lay true same =
    subst (λ w. shown (step s who (ReadLayer name w)).answer ≡ shown (step (mine who s) who (ReadLayer name w)).answer) ((bytes_eq-Decides who whose).0 same) (own_read s who name)
read_same s who name whose is lay false other =
    ap (λ (st : Step). shown st.answer) (other_refused s who name whose is lay other) ∙ sym (ap (λ (st : Step). shown st.answer) (other_refused (mine who s) who name whose is lay other))

-- somebody is an annotator of people, or a curator
abbrev annotates_among : List Person → List ℕ → Bool
annotates_among people who = list_any (bytes_eq who) (map (λ (person : Person). person.name) (filter (λ (person : Person). not person.curator) people))

abbrev curates_among : List Person → List ℕ → Bool
curates_among people who = list_any (bytes_eq who) (map (λ (person : Person). person.name) (filter (λ (person : Person). person.curator) people))

-- ---- each request

shown_alone : (s : ProjectState) (who : List ℕ) (asked : Asked) → is_annotator s who ≡ true → is_curator s who ≡ false → shown (step s who asked).answer ≡ shown (step (mine who s) who asked).answer
shown_alone s who ReadConf is lay = step_same s who ReadConf refl refl refl refl (λ h e. no_change s (mine who s) h e)
shown_alone s who ListDocs is lay = step_same s who ListDocs refl refl refl (ap Docs (sym (lines_alone (rater_of s who) s.documents))) (λ h e. no_change s (mine who s) h e)
shown_alone s who (ReadText name) is lay =
    step_same s who (ReadText name) refl (ap (λ b. option_or (roster s who) (option_or (when (not b) no.NoDocument) None)) (same_there s who name)) refl (ap Text (sym (same_text s who name))) (λ h e. no_change s (mine who s) h e)
shown_alone s who (AddText name text) is lay = both_refused s who (AddText name text) is lay refl refl
shown_alone s who (Reopen name whose) is lay = both_refused s who (Reopen name whose) is lay refl refl
shown_alone s who (Ignore name whose) is lay = both_refused s who (Ignore name whose) is lay refl refl
shown_alone s who (Readmit name whose) is lay = both_refused s who (Readmit name whose) is lay refl refl
shown_alone s who (Snap name) is lay = both_refused s who (Snap name) is lay refl refl
shown_alone s who (TakeSnapshot number) is lay = both_refused s who (TakeSnapshot number) is lay refl refl
shown_alone s who (Decide number holder id verdict) is lay = both_refused s who (Decide number holder id verdict) is lay refl refl
shown_alone s who (Undecide number holder id) is lay = both_refused s who (Undecide number holder id) is lay refl refl
shown_alone s who ReadPairs is lay = both_refused s who ReadPairs is lay refl refl
shown_alone s who ReadAlpha is lay = both_refused s who ReadAlpha is lay refl refl
shown_alone s who (ReadReport report.Progress) is lay =
    step_same s who (ReadReport report.Progress) refl refl refl (ap Table (own_same s who lay)) (λ h e. no_change s (mine who s) h e)
shown_alone s who (ReadReport report.Snapshots) is lay = both_refused s who (ReadReport report.Snapshots) is lay refl refl
shown_alone s who (ReadReport report.Roster) is lay = both_refused s who (ReadReport report.Roster) is lay refl refl
shown_alone s who (Checkout name) is lay =
    step_same s who (Checkout name) refl
    (ap (λ b. option_or (roster s who) (option_or (annotators_only s who) (checkout_tests b (row_in (mine who s) name who)))) (same_there s who name)
    ∙ ap (λ r. option_or (roster s who) (option_or (annotators_only s who) (checkout_tests (is_there s name) r))) (same_row s who name))
    (ap (λ n. Some (CheckedOut who n)) (same_number s who name))
    (handed_same s who name)
    (λ h e. subst (λ x. size_in s x ≡ size_in (mine who s) x) (some_same (CheckedOut who (number_of s name)) h e) refl)
shown_alone s who (TakeOver name) is lay =
    step_same s who (TakeOver name) refl
    (ap (λ b. option_or (roster s who) (option_or (annotators_only s who) (takeover_tests b (row_in (mine who s) name who)))) (same_there s who name)
    ∙ ap (λ r. option_or (roster s who) (option_or (annotators_only s who) (takeover_tests (is_there s name) r))) (same_row s who name))
    (ap (λ n. Some (TakenOver who n)) (same_number s who name))
    (handed_same s who name)
    (λ h e. subst (λ x. size_in s x ≡ size_in (mine who s) x) (some_same (TakenOver who (number_of s name)) h e) refl)
shown_alone s who (Commit name hold layer) is lay =
    step_same s who (Commit name hold layer) refl
    (ap (λ b. option_or (roster s who) (option_or (annotators_only s who) (commit_tests s layer hold b (row_in (mine who s) name who) (document (mine who s) (number_of (mine who s) name)).text))) (same_there s who name)
    ∙ (ap (λ r. option_or (roster s who) (option_or (annotators_only s who) (commit_tests s layer hold (is_there s name) r (document (mine who s) (number_of (mine who s) name)).text))) (same_row s who name)
    ∙ ap (λ text. option_or (roster s who) (option_or (annotators_only s who) (commit_tests s layer hold (is_there s name) (row_in s name who) text))) (same_text s who name)))
    (ap (λ n. Some (LayerCommitted who n hold layer)) (same_number s who name))
    (ap (λ (r : Row). Committed (r.revision + 1)) (sym (same_row s who name)))
    (λ h e. subst (λ x. size_in s x ≡ size_in (mine who s) x) (some_same (LayerCommitted who (number_of s name) hold layer) h e)
    (ap (λ text. length (entry_bytes (entry.Commit who (number_of s name) hold (ann_of s.conf text layer)))) (sym (text_alone (rater_of s who) (number_of s name) s.documents))))
shown_alone s who (Park name hold done undone) is lay =
    step_same s who (Park name hold done undone) refl
    (ap (λ b. option_or (roster s who) (option_or (annotators_only s who) (park_tests s done undone hold b (row_in (mine who s) name who) (document (mine who s) (number_of (mine who s) name)).text))) (same_there s who name)
    ∙ (ap (λ r. option_or (roster s who) (option_or (annotators_only s who) (park_tests s done undone hold (is_there s name) r (document (mine who s) (number_of (mine who s) name)).text))) (same_row s who name)
    ∙ ap (λ text. option_or (roster s who) (option_or (annotators_only s who) (park_tests s done undone hold (is_there s name) (row_in s name who) text))) (same_text s who name)))
    (ap (λ n. Some (LayerParked who n hold done undone)) (same_number s who name))
    refl
    (λ h e. subst (λ x. size_in s x ≡ size_in (mine who s) x) (some_same (LayerParked who (number_of s name) hold done undone) h e)
    (ap (λ text. length (entry_bytes (entry.Park who (number_of s name) hold (scripts_bytes s.conf text done undone)))) (sym (text_alone (rater_of s who) (number_of s name) s.documents))))
shown_alone s who (Finish name) is lay =
    step_same s who (Finish name) refl
    (ap (λ b. option_or (roster s who) (option_or (annotators_only s who) (finish_tests b (row_in (mine who s) name who)))) (same_there s who name)
    ∙ ap (λ r. option_or (roster s who) (option_or (annotators_only s who) (finish_tests (is_there s name) r))) (same_row s who name))
    (ap (λ n. Some (LayerFinished who n)) (same_number s who name))
    refl
    (λ h e. subst (λ x. size_in s x ≡ size_in (mine who s) x) (some_same (LayerFinished who (number_of s name)) h e) refl)
shown_alone s who (ReadLayer name whose) is lay = read_same s who name whose is lay (bytes_eq who whose) refl

-- what is shown to an annotator follows from the own history
pub private : (log : List Happened) (who : List ℕ) (asked : Asked) → IsLegal log → IsPrivate log who asked
private log who asked legal is lay =
    let t : ProjectState = after_places unfounded (own who log) in
    let alike : mine who (after log) ≡ mine who t = own_state who log legal lay in
    let people : (after log).people ≡ t.people = ap (λ (s : ProjectState). s.people) alike in
    shown_alone (after log) who asked is lay
    ∙ (ap (λ s. shown (step s who asked).answer) alike
    ∙ sym (shown_alone t who asked (subst (λ all. annotates_among all who ≡ true) people is) (subst (λ all. curates_among all who ≡ false) people lay)))
