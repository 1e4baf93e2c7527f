-- The request that a change tells is the one that made it.
use Rattle.std.proofs.Common.{◌≡◌, ℕ, ◌<◌, Bool, true, false, List, [], ◌∷◌, ◌++◌, length, if◌then◌else◌, bytes_eq, Option, Some, None, refl, ◌∙◌, ap, subst}
use Rattle.std.specs.Option.{option_and_then, option_or}
use Rattle.std.proofs.lemmas.List.Sums.{passes_at_first}
use Rattle.std.proofs.lemmas.Slice.Eq.{bytes_eq-Decides}
use Rattle.layer_model.specs.Annotations.{Annotations, no_marks}
use Rattle.curator_decisions.specs.declared.decision_fault.DecisionFault.TheVariants as fault
use Rattle.project_machine.specs.declared.book_refusal.BookRefusal.{BookRefusal}
use Rattle.project_machine.specs.declared.book_refusal.BookRefusal.TheVariants as no
use Rattle.project_machine.specs.ProjectState.{Document, Snapshot, ProjectState, no_document, document, is_some_out, is_there, number_of, snapshot, is_holder, holder_of, holder_name}
use Rattle.project_machine.specs.Requests.{Asked, ReadConf, ListDocs, ReadText, AddText, Checkout, TakeOver, Commit, Park, Finish, ReadLayer, Reopen, Ignore, Readmit, Snap, TakeSnapshot, Decide, Undecide, ReadPairs, ReadAlpha, ReadReport, Happened, Founded, TextAdded, CheckedOut, TakenOver, LayerCommitted, LayerParked, LayerFinished, LayerReopened, LayerIgnored, LayerReadmitted, SnapshotTaken, ItemDecided, ItemUndecided, AllFreed, Restored}
use Rattle.project_machine.specs.AskedFor.{asked_for, made_by, next_by, IsOfTyped}
use Rattle.project_machine.specs.History.{after}
use Rattle.project_machine.specs.Legal.{IsLegal, legal_step, legal_freeing}
use Rattle.project_machine.specs.Machine.{holds, refusal, change, step, taken, there}
use Rattle.project_machine.proofs.HistoryLemmas.{granted}
use Rattle.project_machine.proofs.RowLemmas.{or_first, or_second}
use Rattle.project_machine.proofs.KeptLemmas.{any_within, tests_free, unmet}
use Rattle.project_machine.proofs.LegalLemmas.{none_some, some_same}

none_asking : (asking : List ℕ × Asked) → None ≡ Some asking → ⊥
none_asking asking e = cc

-- a document that is there has the name by which it is found
there_name : (s : ProjectState) (name : List ℕ) → is_there s name ≡ true → (document s (number_of s name)).name ≡ name
there_name s name is =
    let within : number_of s name < length s.documents = any_within (λ (d : Document). bytes_eq d.name name) s.documents is in
    let same : bytes_eq (document s (number_of s name)).name name ≡ true = passes_at_first (λ (d : Document). bytes_eq d.name name) s.documents no_document within in
    (bytes_eq-Decides (document s (number_of s name)).name name).0 same

-- and so has a holder that is there
holder_there : (shot : Snapshot) (who : List ℕ) → is_holder shot who ≡ true → holder_name shot (holder_of shot who) ≡ who
holder_there shot who is =
    let within : holder_of shot who < length shot.holders = any_within (λ (held : List ℕ × Annotations). bytes_eq held.0 who) shot.holders is in
    let same : bytes_eq (holder_name shot (holder_of shot who)) who ≡ true = passes_at_first (λ (held : List ℕ × Annotations). bytes_eq held.0 who) shot.holders ([], no_marks) within in
    (bytes_eq-Decides (holder_name shot (holder_of shot who)) who).0 same

-- where the first test of a request is that its document is there
named : (s : ProjectState) (caller name : List ℕ) (more : Option BookRefusal) → option_or (there s name) more ≡ None → (document s (number_of s name)).name ≡ name
named s caller name more e = there_name s name (unmet (is_there s name) no.NoDocument (or_first (there s name) more e))

held_by : (s : ProjectState) (number : ℕ) (holder : List ℕ) (more : Option BookRefusal) → option_or (taken s number) (option_or (holds (snapshot s number) holder) more) ≡ None
    → holder_name (snapshot s number) (holder_of (snapshot s number) holder) ≡ holder
held_by s number holder more e =
    holder_there (snapshot s number) holder
    (unmet (is_holder (snapshot s number) holder) (no.Decision fault.NoItem) (or_first (holds (snapshot s number) holder) more (or_second (taken s number) (option_or (holds (snapshot s number) holder) more) e)))

told : (s : ProjectState) (caller : List ℕ) (asked : Asked) (e : Happened) → refusal s caller asked ≡ None → change s caller asked ≡ Some e → asked_for s e ≡ Some (caller, asked)
told s caller ReadConf e free made = absurd (none_some e made)
told s caller ListDocs e free made = absurd (none_some e made)
told s caller (ReadText name) e free made = absurd (none_some e made)
told s caller (ReadLayer name who) e free made = absurd (none_some e made)
told s caller (TakeSnapshot number) e free made = absurd (none_some e made)
told s caller ReadPairs e free made = absurd (none_some e made)
told s caller ReadAlpha e free made = absurd (none_some e made)
told s caller (ReadReport report) e free made = absurd (none_some e made)
told s caller (AddText name text) e free made = subst (λ x. asked_for s x ≡ Some (caller, AddText name text)) (some_same (TextAdded caller name text) e made) refl
told s caller (Checkout name) e free made =
    subst (λ x. asked_for s x ≡ Some (caller, Checkout name)) (some_same (CheckedOut caller (number_of s name)) e made)
    (ap (λ n. Some (caller, Checkout n)) (named s caller name _ (tests_free s caller (Checkout name) free)))
told s caller (TakeOver name) e free made =
    subst (λ x. asked_for s x ≡ Some (caller, TakeOver name)) (some_same (TakenOver caller (number_of s name)) e made)
    (ap (λ n. Some (caller, TakeOver n)) (named s caller name _ (tests_free s caller (TakeOver name) free)))
told s caller (Commit name hold layer) e free made =
    subst (λ x. asked_for s x ≡ Some (caller, Commit name hold layer)) (some_same (LayerCommitted caller (number_of s name) hold layer) e made)
    (ap (λ n. Some (caller, Commit n hold layer)) (named s caller name _ (tests_free s caller (Commit name hold layer) free)))
told s caller (Park name hold done undone) e free made =
    subst (λ x. asked_for s x ≡ Some (caller, Park name hold done undone)) (some_same (LayerParked caller (number_of s name) hold done undone) e made)
    (ap (λ n. Some (caller, Park n hold done undone)) (named s caller name _ (tests_free s caller (Park name hold done undone) free)))
told s caller (Finish name) e free made =
    subst (λ x. asked_for s x ≡ Some (caller, Finish name)) (some_same (LayerFinished caller (number_of s name)) e made)
    (ap (λ n. Some (caller, Finish n)) (named s caller name _ (tests_free s caller (Finish name) free)))
told s caller (Reopen name who) e free made =
    subst (λ x. asked_for s x ≡ Some (caller, Reopen name who)) (some_same (LayerReopened caller (number_of s name) who) e made)
    (ap (λ n. Some (caller, Reopen n who)) (named s caller name _ (tests_free s caller (Reopen name who) free)))
told s caller (Ignore name who) e free made =
    subst (λ x. asked_for s x ≡ Some (caller, Ignore name who)) (some_same (LayerIgnored caller (number_of s name) who) e made)
    (ap (λ n. Some (caller, Ignore n who)) (named s caller name _ (tests_free s caller (Ignore name who) free)))
told s caller (Readmit name who) e free made =
    subst (λ x. asked_for s x ≡ Some (caller, Readmit name who)) (some_same (LayerReadmitted caller (number_of s name) who) e made)
    (ap (λ n. Some (caller, Readmit n who)) (named s caller name _ (tests_free s caller (Readmit name who) free)))
told s caller (Snap name) e free made =
    subst (λ x. asked_for s x ≡ Some (caller, Snap name)) (some_same (SnapshotTaken caller (number_of s name)) e made)
    (ap (λ n. Some (caller, Snap n)) (named s caller name _ (tests_free s caller (Snap name) free)))
told s caller (Decide number holder id verdict) e free made =
    subst (λ x. asked_for s x ≡ Some (caller, Decide number holder id verdict)) (some_same (ItemDecided caller number (holder_of (snapshot s number) holder) id verdict) e made)
    (ap (λ n. Some (caller, Decide number n id verdict)) (held_by s number holder _ (tests_free s caller (Decide number holder id verdict) free)))
told s caller (Undecide number holder id) e free made =
    subst (λ x. asked_for s x ≡ Some (caller, Undecide number holder id)) (some_same (ItemUndecided caller number (holder_of (snapshot s number) holder) id) e made)
    (ap (λ n. Some (caller, Undecide number n id)) (held_by s number holder _ (tests_free s caller (Undecide number holder id) free)))

-- a change tells the request that made it
pub tells_request : (s : ProjectState) (caller : List ℕ) (asked : Asked) (e : Happened) → (step s caller asked).change ≡ Some e → asked_for s e ≡ Some (caller, asked)
tells_request s caller asked e is = told s caller asked e (granted s caller asked e is).free (granted s caller asked e is).made

asked_makes : (s : ProjectState) (e : Happened) (asking : List ℕ × Asked) → asked_for s e ≡ Some asking → next_by s e ≡ made_by s asking
asked_makes s (Founded conf level people) asking is = absurd (none_asking asking is)
asked_makes s (TextAdded by name text) asking is = ap (option_and_then (made_by s)) is
asked_makes s (CheckedOut by doc) asking is = ap (option_and_then (made_by s)) is
asked_makes s (TakenOver by doc) asking is = ap (option_and_then (made_by s)) is
asked_makes s (LayerCommitted by doc hold layer) asking is = ap (option_and_then (made_by s)) is
asked_makes s (LayerParked by doc hold done undone) asking is = ap (option_and_then (made_by s)) is
asked_makes s (LayerFinished by doc) asking is = ap (option_and_then (made_by s)) is
asked_makes s (LayerReopened by doc who) asking is = ap (option_and_then (made_by s)) is
asked_makes s (LayerIgnored by doc who) asking is = ap (option_and_then (made_by s)) is
asked_makes s (LayerReadmitted by doc who) asking is = ap (option_and_then (made_by s)) is
asked_makes s (SnapshotTaken by doc) asking is = ap (option_and_then (made_by s)) is
asked_makes s (ItemDecided by number holder id verdict) asking is = ap (option_and_then (made_by s)) is
asked_makes s (ItemUndecided by number holder id) asking is = ap (option_and_then (made_by s)) is
asked_makes s AllFreed asking is = absurd (none_asking asking is)
asked_makes s (Restored place state) asking is = absurd (none_asking asking is)

-- and that request makes it
pub request_makes : (s : ProjectState) (caller : List ℕ) (asked : Asked) (e : Happened) → (step s caller asked).change ≡ Some e → next_by s e ≡ Some e
request_makes s caller asked e is = asked_makes s e (caller, asked) (tells_request s caller asked e is) ∙ is

-- ---- a change that is put to the test by its own request

out_of : (out : Bool) → (if out then Some AllFreed else None) ≡ Some AllFreed → out ≡ true
out_of true is = refl
out_of false is = absurd (none_some AllFreed is)

-- by a request of typed values, and a freeing by the layers that are out, it goes on a history
pub next_legal : (log : List Happened) (e : Happened) → IsLegal log → IsOfTyped (after log) e → next_by (after log) e ≡ Some e → IsLegal (log ++ e ∷ [])
next_legal log (Founded conf level people) l typed is = absurd (none_some _ is)
next_legal log (TextAdded by name text) l typed is = legal_step log by (AddText name text) _ l typed is
next_legal log (CheckedOut by doc) l typed is = legal_step log by (Checkout (document (after log) doc).name) _ l typed is
next_legal log (TakenOver by doc) l typed is = legal_step log by (TakeOver (document (after log) doc).name) _ l typed is
next_legal log (LayerCommitted by doc hold layer) l typed is = legal_step log by (Commit (document (after log) doc).name hold layer) _ l typed is
next_legal log (LayerParked by doc hold done undone) l typed is = legal_step log by (Park (document (after log) doc).name hold done undone) _ l typed is
next_legal log (LayerFinished by doc) l typed is = legal_step log by (Finish (document (after log) doc).name) _ l typed is
next_legal log (LayerReopened by doc who) l typed is = legal_step log by (Reopen (document (after log) doc).name who) _ l typed is
next_legal log (LayerIgnored by doc who) l typed is = legal_step log by (Ignore (document (after log) doc).name who) _ l typed is
next_legal log (LayerReadmitted by doc who) l typed is = legal_step log by (Readmit (document (after log) doc).name who) _ l typed is
next_legal log (SnapshotTaken by doc) l typed is = legal_step log by (Snap (document (after log) doc).name) _ l typed is
next_legal log (ItemDecided by number holder id verdict) l typed is = legal_step log by (Decide number (holder_name (snapshot (after log) number) holder) id verdict) _ l typed is
next_legal log (ItemUndecided by number holder id) l typed is = legal_step log by (Undecide number (holder_name (snapshot (after log) number) holder) id) _ l typed is
next_legal log AllFreed l typed is = legal_freeing log l (out_of (is_some_out (after log)) is)
next_legal log (Restored place state) l typed is = absurd (none_some _ is)
