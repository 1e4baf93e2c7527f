-- What each history keeps of a project.
use Rattle.std.proofs.Common.{◌≡◌, ℕ, ◌+◌, ◌<◌, ◌≤◌, true, false, List, [], length, get_or, bytes_eq, Option, Some, None, refl, sym, subst, arith}
use Rattle.std.specs.List.{All}
use Rattle.std.specs.Option.{option_or}
use Rattle.project_machine.specs.declared.book_refusal.BookRefusal.{BookRefusal}
use Rattle.project_machine.specs.declared.book_refusal.BookRefusal.TheVariants as no
use Rattle.project_machine.specs.ProjectState.{Document, ProjectState, document, row_in, number_of, annotators, is_annotator, snapshot, holder_of, item_in}
use Rattle.command_bytes.specs.CommandBytes.{scripts_bytes}
use Rattle.project_machine.specs.Requests.{Asked, ReadConf, ListDocs, ReadText, AddText, Checkout, TakeOver, Commit, Park, Finish, ReadLayer, Reopen, Ignore, Readmit, Snap, TakeSnapshot, Decide, Undecide, ReadPairs, ReadAlpha, ReadReport, Happened, TextAdded, CheckedOut, TakenOver, LayerCommitted, LayerParked, LayerFinished, LayerReopened, LayerIgnored, LayerReadmitted, SnapshotTaken, ItemDecided, ItemUndecided, AllFreed}
use Rattle.project_machine.specs.RequestValues.{IsAsked}
use Rattle.project_machine.specs.Entries.{lines_in}
use Rattle.project_machine.specs.Machine.{has_layer, size_in, size_of, there}
use Rattle.project_machine.specs.History.{after, effect, last, place_behind, under_hold, with_commit, with_draft, with_finished, with_ignored, with_decision, without_decision}
use Rattle.project_machine.specs.Legal.{IsKept, IsLegal, LayersObey, legal_founding, legal_restored, legal_step, legal_freeing}
use Rattle.project_machine.proofs.HistoryLemmas.{IsGranted, after_more, granted, legal_some, place_last, step_next}
use Rattle.project_machine.proofs.SizeLemmas.{commit_short, draft_short}
use Rattle.project_machine.proofs.RowLemmas.{Flawless, committed_kept, finished_kept, held_kept, ignored_kept, or_first, or_second, parked_kept, rule_obeys}
use Rattle.project_machine.proofs.KeptLemmas.{add_new, add_room, allowed, annotates, any_within, commit_free, finish_free, ignore_free, later_row, park_free, row_kept, tests_free, unmet}
use Rattle.project_machine.proofs.StepLemmas.{add_kept, freed_kept, set_kept}
use Rattle.project_machine.proofs.SnapshotLemmas.{decide_kept, on_snapshot_kept, snap_enough, snap_kept, snap_there, undecide_kept}

pub some_same : (a b : Happened) → Some a ≡ Some b → a ≡ b
some_same a b e = cc

pub none_some : (x : Happened) → None ≡ Some x → ⊥
none_some x e = cc

-- whose row is changed by a curator is an annotator
pub names_annotator : (s : ProjectState) (name who : List ℕ) (more : Option BookRefusal) → option_or (there s name) (option_or (has_layer s who) more) ≡ None → is_annotator s who ≡ true
names_annotator s name who more e = unmet (is_annotator s who) no.NoLayer (or_first (has_layer s who) more (or_second (there s name) (option_or (has_layer s who) more) e))

-- what a request makes happen where it is not refused, at the next place
pub change_kept : (s : ProjectState) (caller : List ℕ) (asked : Asked) (e : Happened) (place : ℕ) → Flawless → s.place + 1 ≤ place → IsKept s → IsAsked asked → IsGranted s caller asked e → IsKept (effect place e s)
change_kept s caller ReadConf e place flawless h k typed g = absurd (none_some e g.made)
change_kept s caller ListDocs e place flawless h k typed g = absurd (none_some e g.made)
change_kept s caller (ReadText name) e place flawless h k typed g = absurd (none_some e g.made)
change_kept s caller (ReadLayer name who) e place flawless h k typed g = absurd (none_some e g.made)
change_kept s caller (TakeSnapshot number) e place flawless h k typed g = absurd (none_some e g.made)
change_kept s caller ReadPairs e place flawless h k typed g = absurd (none_some e g.made)
change_kept s caller ReadAlpha e place flawless h k typed g = absurd (none_some e g.made)
change_kept s caller (ReadReport report) e place flawless h k typed g = absurd (none_some e g.made)
change_kept s caller (AddText name text) e place flawless h k typed g =
    subst (λ x. IsKept (effect place x s)) (some_same (TextAdded caller name text) e g.made)
    (add_kept s caller name text place (omega arith) flawless k typed.0 typed.1 (add_new s caller name text g.free) (add_room s caller name text g.free))
change_kept s caller (Checkout name) e place flawless h k typed g =
    let is : is_annotator s caller ≡ true = annotates s caller (allowed s caller (Checkout name) g.free) in
    subst (λ x. IsKept (effect place x s)) (some_same (CheckedOut caller (number_of s name)) e g.made)
    (set_kept s (number_of s name) place caller (under_hold (Some place)) (omega arith) k is
    (held_kept s.conf (document s (number_of s name)).text place caller (Some place) (row_in s name caller) (omega arith) (later_row s (number_of s name) caller place (omega arith) flawless k is)))
change_kept s caller (TakeOver name) e place flawless h k typed g =
    let is : is_annotator s caller ≡ true = annotates s caller (allowed s caller (TakeOver name) g.free) in
    subst (λ x. IsKept (effect place x s)) (some_same (TakenOver caller (number_of s name)) e g.made)
    (set_kept s (number_of s name) place caller (under_hold (Some place)) (omega arith) k is
    (held_kept s.conf (document s (number_of s name)).text place caller (Some place) (row_in s name caller) (omega arith) (later_row s (number_of s name) caller place (omega arith) flawless k is)))
change_kept s caller (Commit name hold layer) e place flawless h k typed g =
    let is : is_annotator s caller ≡ true = annotates s caller (allowed s caller (Commit name hold layer) g.free) in
    let same : LayerCommitted caller (number_of s name) hold layer ≡ e = some_same (LayerCommitted caller (number_of s name) hold layer) e g.made in
    subst (λ x. IsKept (effect place x s)) same
    (set_kept s (number_of s name) place caller (with_commit layer) (omega arith) k is
    (committed_kept s.conf (document s (number_of s name)).text s.place place caller layer (row_in s name caller) h
    (record { typed = typed.2; obeys = rule_obeys s.conf (size_of s name) layer flawless (commit_free s caller name hold layer g.free) })
    (commit_short caller (number_of s name) hold (lines_in s (number_of s name) layer) (subst (λ x. size_in s x ≤ 16777216) (sym same) g.short))
    (row_kept s (number_of s name) caller flawless k is)))
change_kept s caller (Park name hold done undone) e place flawless h k typed g =
    let is : is_annotator s caller ≡ true = annotates s caller (allowed s caller (Park name hold done undone) g.free) in
    let same : LayerParked caller (number_of s name) hold done undone ≡ e = some_same (LayerParked caller (number_of s name) hold done undone) e g.made in
    subst (λ x. IsKept (effect place x s)) same
    (set_kept s (number_of s name) place caller (with_draft done undone) (omega arith) k is
    (parked_kept s.conf (document s (number_of s name)).text place caller done undone (row_in s name caller) (typed.2, typed.3) (park_free s caller name hold done undone g.free)
    (draft_short caller (number_of s name) hold (scripts_bytes s.conf (document s (number_of s name)).text done undone) (subst (λ x. size_in s x ≤ 16777216) (sym same) g.short))
    (later_row s (number_of s name) caller place (omega arith) flawless k is)))
change_kept s caller (Finish name) e place flawless h k typed g =
    let is : is_annotator s caller ≡ true = annotates s caller (allowed s caller (Finish name) g.free) in
    subst (λ x. IsKept (effect place x s)) (some_same (LayerFinished caller (number_of s name)) e g.made)
    (set_kept s (number_of s name) place caller (with_finished true) (omega arith) k is
    (finished_kept s.conf (document s (number_of s name)).text place caller true (row_in s name caller) (finish_free s caller name g.free) (later_row s (number_of s name) caller place (omega arith) flawless k is)))
change_kept s caller (Reopen name who) e place flawless h k typed g =
    let is : is_annotator s who ≡ true = names_annotator s name who _ (tests_free s caller (Reopen name who) g.free) in
    subst (λ x. IsKept (effect place x s)) (some_same (LayerReopened caller (number_of s name) who) e g.made)
    (set_kept s (number_of s name) place who (with_finished false) (omega arith) k is
    (finished_kept s.conf (document s (number_of s name)).text place who false (row_in s name who) (λ _. refl) (later_row s (number_of s name) who place (omega arith) flawless k is)))
change_kept s caller (Ignore name who) e place flawless h k typed g =
    let is : is_annotator s who ≡ true = names_annotator s name who _ (tests_free s caller (Ignore name who) g.free) in
    subst (λ x. IsKept (effect place x s)) (some_same (LayerIgnored caller (number_of s name) who) e g.made)
    (set_kept s (number_of s name) place who (with_ignored true) (omega arith) k is
    (ignored_kept s.conf (document s (number_of s name)).text place who true (row_in s name who) (ignore_free s caller name who g.free) (later_row s (number_of s name) who place (omega arith) flawless k is)))
change_kept s caller (Readmit name who) e place flawless h k typed g =
    let is : is_annotator s who ≡ true = names_annotator s name who _ (tests_free s caller (Readmit name who) g.free) in
    subst (λ x. IsKept (effect place x s)) (some_same (LayerReadmitted caller (number_of s name) who) e g.made)
    (set_kept s (number_of s name) place who (with_ignored false) (omega arith) k is
    (ignored_kept s.conf (document s (number_of s name)).text place who false (row_in s name who) (λ _. refl) (later_row s (number_of s name) who place (omega arith) flawless k is)))
change_kept s caller (Snap name) e place flawless h k typed g =
    subst (λ x. IsKept (effect place x s)) (some_same (SnapshotTaken caller (number_of s name)) e g.made)
    (snap_kept s caller (number_of s name) place (omega arith) k (any_within (λ (d : Document). bytes_eq d.name name) s.documents (snap_there s caller name g.free)) (snap_enough s caller name g.free))
change_kept s caller (Decide number holder id verdict) e place flawless h k typed g =
    subst (λ x. IsKept (effect place x s)) (some_same (ItemDecided caller number (holder_of (snapshot s number) holder) id verdict) e g.made)
    (on_snapshot_kept s number place (with_decision (item_in (snapshot s number) holder id) verdict) (omega arith) k (decide_kept s (item_in (snapshot s number) holder id) verdict))
change_kept s caller (Undecide number holder id) e place flawless h k typed g =
    subst (λ x. IsKept (effect place x s)) (some_same (ItemUndecided caller number (holder_of (snapshot s number) holder) id) e g.made)
    (on_snapshot_kept s number place (without_decision (item_in (snapshot s number) holder id)) (omega arith) k (undecide_kept s (item_in (snapshot s number) holder id)))

none_all : {X : Type 0} (P : X → Type 0) → All P []
none_all P k d within = absurd (omega arith)

-- each history keeps its project
pub legal_kept : (log : List Happened) → Flawless → IsLegal log → IsKept (after log)
legal_kept _ flawless (legal_founding conf level people is) = record {
  founding = is;
  few = omega arith;
  total = omega arith;
  names = λ i j before within. absurd (omega arith);
  documents = none_all _;
  snapshots = none_all _;
  taken = omega arith;
}
legal_kept _ flawless (legal_restored state sound) = sound.kept
legal_kept _ flawless (legal_step log caller asked e l typed is) =
    let next : place_behind e (after log).place ≡ (after log).place + 1 = step_next (after log) caller asked e (after log).place is in
    subst IsKept (sym (after_more log e))
    (change_kept (after log) caller asked e (place_behind e (after log).place) flawless (omega arith) (legal_kept log flawless l) typed (granted (after log) caller asked e is))
legal_kept _ flawless (legal_freeing log l is) =
    subst IsKept (sym (after_more log AllFreed)) (freed_kept (after log) ((after log).place + 1) (omega arith) (legal_kept log flawless l))

-- a history stands at a place above 0
pub place_some : (log : List Happened) → IsLegal log → 0 < (after log).place
place_some log l =
    let place : (after log).place ≡ last log = place_last log l in
    let some : 0 < length log = legal_some log l in
    omega arith

-- each layer of a project that is kept obeys its configuration
pub kept_obeys : (s : ProjectState) → IsKept s → LayersObey s
kept_obeys s k i d within j r inside =
    let are : length (get_or s.documents i d).rows ≡ length (annotators s) = (k.documents i d within).rows_are in
    ((k.documents i d within).rows_kept j [] r (omega arith)).layer.obeys
