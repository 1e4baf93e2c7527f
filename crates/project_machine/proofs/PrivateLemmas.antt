-- What is shown to an annotator follows from the annotator's own history.
use Rattle.std.proofs.Common.{◌≡◌, ◌≢◌, ℕ, ◌+◌, ◌||◌, Bool, true, false, not, List, [], ◌∷◌, ◌++◌, map, bytes_eq, Option, Some, None, refl, sym, ◌∙◌, ap, subst}
use Rattle.entry_bytes.specs.declared.person.Person.{Person}
use Rattle.std.specs.List.{cons_option, filter, filter_map, list_any}
use Rattle.std.specs.Option.{option_map}
use Rattle.std.proofs.lemmas.List.{map-append}
use Rattle.std.proofs.lemmas.Slice.Eq.{bytes_eq-Decides}
use Rattle.project_machine.specs.declared.book_refusal.BookRefusal.TheVariants as no
use Rattle.project_machine.specs.declared.book_refusal.Policy.TheVariants as policy
use Rattle.project_machine.specs.ProjectState.{Row, Document, ProjectState, new_document, row, rater_of, annotators, number_of, is_annotator, is_curator, snapshot, holder_of}
use Rattle.project_machine.specs.Requests.{Asked, ReadConf, ListDocs, ReadText, AddText, Checkout, TakeOver, Commit, Park, Finish, ReadLayer, Reopen, Ignore, Readmit, Snap, TakeSnapshot, Decide, Undecide, ReadPairs, ReadAlpha, ReadReport, Happened, Founded, TextAdded, CheckedOut, TakenOver, LayerCommitted, LayerParked, LayerFinished, LayerReopened, LayerIgnored, LayerReadmitted, SnapshotTaken, ItemDecided, ItemUndecided, AllFreed, Restored}
use Rattle.project_machine.specs.Machine.{change, refusal, when}
use Rattle.project_machine.specs.History.{after, after_places, effect, numbered_from, on_row, place_behind, unfounded, under_hold, with_commit, with_draft, with_finished, with_ignored}
use Rattle.project_machine.specs.Legal.{IsLegal, legal_founding, legal_restored, legal_step, legal_freeing}
use Rattle.project_machine.specs.Own.{only_row, only_rows, own, own_change, own_placed, where_so}
use Rattle.project_machine.proofs.HistoryLemmas.{IsGranted, after_more, granted}
use Rattle.project_machine.proofs.StayLemmas.{IsLater, change_later}
use Rattle.project_machine.proofs.KeptLemmas.{allowed, annotates, false_true, tests_free, unmet}
use Rattle.project_machine.proofs.LegalLemmas.{names_annotator, none_some, some_same}
use Rattle.project_machine.proofs.OwnLemmas.{raters_same}
use Rattle.project_machine.proofs.OneRowLemmas.{all_twice, documents_free, documents_other, documents_set}

-- a project with one annotator's rows alone, at no place
abbrev pub mine : List ℕ → ProjectState → ProjectState
mine who s = record (only_rows who s) { place = 0 }

-- the same with other documents
abbrev with_documents : ProjectState → List Document → ProjectState
with_documents s ds = record { conf = s.conf; level = s.level; people = s.people; place = 0; documents = ds; snapshots = [] }

-- a change that may be left out
abbrev follow : ℕ → Option Happened → ProjectState → ProjectState
follow place None t = t
follow place (Some e) t = effect place e t

-- another row of an annotator, at a place
abbrev row_at_place : ProjectState → ℕ → ℕ → List ℕ → (Row → Row) → ProjectState
row_at_place s place doc whose changed = record (on_row s doc whose changed) { place = place }

own_row : (who : List ℕ) (s : ProjectState) (place doc : ℕ) (changed : Row → Row) → mine who (row_at_place s place doc who changed) ≡ mine who (row_at_place (mine who s) place doc who changed)
own_row who s place doc changed = ap (with_documents s) (documents_set (rater_of s who) doc s.documents changed)

other_row : (who whose : List ℕ) (s : ProjectState) (place doc : ℕ) (changed : Row → Row) → is_annotator s whose ≡ true → who ≢ whose → mine who (row_at_place s place doc whose changed) ≡ mine who s
other_row who whose s place doc changed is other =
    ap (with_documents s) (documents_other (rater_of s who) (rater_of s whose) doc s.documents (changed (row s doc whose)) (λ same. other (raters_same (annotators s) whose who is same)))

-- a change of a row is in the annotator's own history exactly where the row is the annotator's
touch : (who whose : List ℕ) (s t : ProjectState) (place doc : ℕ) (e : Happened) (changed : Row → Row) → ((u : ProjectState) → effect place e u ≡ row_at_place u place doc whose changed) → is_annotator s whose ≡ true
    → mine who s ≡ mine who t → (b : Bool) → bytes_eq whose who ≡ b → mine who (effect place e s) ≡ mine who (follow place (where_so b e) t)
touch who whose s t place doc e changed acts is alike true same =
    let here : whose ≡ who = (bytes_eq-Decides whose who).0 same in
    let by : (u : ProjectState) → effect place e u ≡ row_at_place u place doc who changed = λ u. acts u ∙ ap (λ w. row_at_place u place doc w changed) here in
    ap (mine who) (by s) ∙ (own_row who s place doc changed
    ∙ (ap (λ u. mine who (row_at_place u place doc who changed)) alike ∙ (sym (own_row who t place doc changed) ∙ sym (ap (mine who) (by t)))))
touch who whose s t place doc e changed acts is alike false same =
    ap (mine who) (acts s) ∙ (other_row who whose s place doc changed is (λ here. false_true (sym same ∙ (bytes_eq-Decides whose who).1 (sym here))) ∙ alike)

own_text : (who name text : List ℕ) (s : ProjectState) → mine who (record s { documents = s.documents ++ new_document s name text ∷ [] }) ≡ mine who (record (mine who s) { documents = (mine who s).documents ++ new_document s name text ∷ [] })
own_text who name text s =
    ap (with_documents s) (map-append (only_row (rater_of s who)) s.documents (new_document s name text ∷ [])
    ∙ (ap (λ ds. ds ++ only_row (rater_of s who) (new_document s name text) ∷ []) (sym (all_twice (rater_of s who) s.documents))
    ∙ sym (map-append (only_row (rater_of s who)) (map (only_row (rater_of s who)) s.documents) (new_document s name text ∷ []))))

text_follows : (who by name text : List ℕ) (s t : ProjectState) (place : ℕ) → mine who s ≡ mine who t → mine who (effect place (TextAdded by name text) s) ≡ mine who (effect place (TextAdded by name text) t)
text_follows who by name text s t place alike =
    own_text who name text s ∙ (ap (λ (u : ProjectState). mine who (record u { documents = u.documents ++ new_document u name text ∷ [] })) alike ∙ sym (own_text who name text t))

free_follows : (who : List ℕ) (s t : ProjectState) (place : ℕ) → mine who s ≡ mine who t → mine who (effect place AllFreed s) ≡ mine who (effect place AllFreed t)
free_follows who s t place alike =
    ap (with_documents s) (documents_free (rater_of s who) s.documents) ∙ (ap (λ u. mine who (effect place AllFreed u)) alike ∙ sym (ap (with_documents t) (documents_free (rater_of t who) t.documents)))

-- a curator is not the annotator who is none
other_curator : (s : ProjectState) (caller who : List ℕ) → is_curator s caller ≡ true → is_curator s who ≡ false → bytes_eq caller who ≡ false
other_curator s caller who is lay = by (bytes_eq caller who) refl
  where
    by : (b : Bool) → bytes_eq caller who ≡ b → b ≡ false
    by true same = absurd (false_true (sym lay ∙ (ap (is_curator s) (sym ((bytes_eq-Decides caller who).0 same)) ∙ is)))
    by false same = refl

curates : (s : ProjectState) (caller : List ℕ) → when (not (is_curator s caller)) (no.NotAllowed policy.Curator) ≡ None → is_curator s caller ≡ true
curates s caller e = unmet (is_curator s caller) (no.NotAllowed policy.Curator) e

-- what a curator does to a row is in the history of the row's annotator alone
curated : (who caller whose : List ℕ) (s t : ProjectState) (place doc : ℕ) (e : Happened) (changed : Row → Row) → ((u : ProjectState) → effect place e u ≡ row_at_place u place doc whose changed) → is_annotator s whose ≡ true
    → is_curator s caller ≡ true → is_curator s who ≡ false → mine who s ≡ mine who t → mine who (effect place e s) ≡ mine who (follow place (where_so (bytes_eq caller who || bytes_eq whose who) e) t)
curated who caller whose s t place doc e changed acts is curator lay alike =
    touch who whose s t place doc e changed acts is alike (bytes_eq whose who) refl
    ∙ ap (λ b. mine who (follow place (where_so (b || bytes_eq whose who) e) t)) (sym (other_curator s caller who curator lay))

-- what a curator does to snapshots is in no annotator's history
decided : (who caller : List ℕ) (s t : ProjectState) (place : ℕ) (e : Happened) → mine who (effect place e s) ≡ mine who s → is_curator s caller ≡ true → is_curator s who ≡ false → mine who s ≡ mine who t
    → mine who (effect place e s) ≡ mine who (follow place (where_so (bytes_eq caller who) e) t)
decided who caller s t place e stays curator lay alike =
    stays ∙ (alike ∙ ap (λ b. mine who (follow place (where_so b e) t)) (sym (other_curator s caller who curator lay)))

-- what a granted request makes happen keeps the annotator's part, with or without it in the own history
abbrev Follows : List ℕ → ProjectState → ProjectState → ℕ → Happened → Type 0
Follows who s t place e = mine who (effect place e s) ≡ mine who (follow place (own_change who e) t)

follows : (who : List ℕ) (s t : ProjectState) (place : ℕ) (caller : List ℕ) (asked : Asked) (e : Happened) → is_curator s who ≡ false → mine who s ≡ mine who t → refusal s caller asked ≡ None → change s caller asked ≡ Some e → Follows who s t place e
follows who s t place caller ReadConf e lay alike free made = absurd (none_some e made)
follows who s t place caller ListDocs e lay alike free made = absurd (none_some e made)
follows who s t place caller (ReadText name) e lay alike free made = absurd (none_some e made)
follows who s t place caller (ReadLayer name whose) e lay alike free made = absurd (none_some e made)
follows who s t place caller (TakeSnapshot number) e lay alike free made = absurd (none_some e made)
follows who s t place caller ReadPairs e lay alike free made = absurd (none_some e made)
follows who s t place caller ReadAlpha e lay alike free made = absurd (none_some e made)
follows who s t place caller (ReadReport report) e lay alike free made = absurd (none_some e made)
follows who s t place caller (AddText name text) e lay alike free made =
    subst (Follows who s t place) (some_same (TextAdded caller name text) e made) (text_follows who caller name text s t place alike)
follows who s t place caller (Checkout name) e lay alike free made =
    subst (Follows who s t place) (some_same (CheckedOut caller (number_of s name)) e made)
    (touch who caller s t place (number_of s name) (CheckedOut caller (number_of s name)) (under_hold (Some place)) (λ u. refl) (annotates s caller (allowed s caller (Checkout name) free)) alike (bytes_eq caller who) refl)
follows who s t place caller (TakeOver name) e lay alike free made =
    subst (Follows who s t place) (some_same (TakenOver caller (number_of s name)) e made)
    (touch who caller s t place (number_of s name) (TakenOver caller (number_of s name)) (under_hold (Some place)) (λ u. refl) (annotates s caller (allowed s caller (TakeOver name) free)) alike (bytes_eq caller who) refl)
follows who s t place caller (Commit name hold layer) e lay alike free made =
    subst (Follows who s t place) (some_same (LayerCommitted caller (number_of s name) hold layer) e made)
    (touch who caller s t place (number_of s name) (LayerCommitted caller (number_of s name) hold layer) (with_commit layer) (λ u. refl) (annotates s caller (allowed s caller (Commit name hold layer) free)) alike (bytes_eq caller who) refl)
follows who s t place caller (Park name hold done undone) e lay alike free made =
    subst (Follows who s t place) (some_same (LayerParked caller (number_of s name) hold done undone) e made)
    (touch who caller s t place (number_of s name) (LayerParked caller (number_of s name) hold done undone) (with_draft done undone) (λ u. refl) (annotates s caller (allowed s caller (Park name hold done undone) free)) alike (bytes_eq caller who) refl)
follows who s t place caller (Finish name) e lay alike free made =
    subst (Follows who s t place) (some_same (LayerFinished caller (number_of s name)) e made)
    (touch who caller s t place (number_of s name) (LayerFinished caller (number_of s name)) (with_finished true) (λ u. refl) (annotates s caller (allowed s caller (Finish name) free)) alike (bytes_eq caller who) refl)
follows who s t place caller (Reopen name whose) e lay alike free made =
    subst (Follows who s t place) (some_same (LayerReopened caller (number_of s name) whose) e made)
    (curated who caller whose s t place (number_of s name) (LayerReopened caller (number_of s name) whose) (with_finished false) (λ u. refl) (names_annotator s name whose _ (tests_free s caller (Reopen name whose) free))
    (curates s caller (allowed s caller (Reopen name whose) free)) lay alike)
follows who s t place caller (Ignore name whose) e lay alike free made =
    subst (Follows who s t place) (some_same (LayerIgnored caller (number_of s name) whose) e made)
    (curated who caller whose s t place (number_of s name) (LayerIgnored caller (number_of s name) whose) (with_ignored true) (λ u. refl) (names_annotator s name whose _ (tests_free s caller (Ignore name whose) free))
    (curates s caller (allowed s caller (Ignore name whose) free)) lay alike)
follows who s t place caller (Readmit name whose) e lay alike free made =
    subst (Follows who s t place) (some_same (LayerReadmitted caller (number_of s name) whose) e made)
    (curated who caller whose s t place (number_of s name) (LayerReadmitted caller (number_of s name) whose) (with_ignored false) (λ u. refl) (names_annotator s name whose _ (tests_free s caller (Readmit name whose) free))
    (curates s caller (allowed s caller (Readmit name whose) free)) lay alike)
follows who s t place caller (Snap name) e lay alike free made =
    subst (Follows who s t place) (some_same (SnapshotTaken caller (number_of s name)) e made)
    (decided who caller s t place (SnapshotTaken caller (number_of s name)) refl (curates s caller (allowed s caller (Snap name) free)) lay alike)
follows who s t place caller (Decide number holder id verdict) e lay alike free made =
    subst (Follows who s t place) (some_same (ItemDecided caller number (holder_of (snapshot s number) holder) id verdict) e made)
    (decided who caller s t place (ItemDecided caller number (holder_of (snapshot s number) holder) id verdict) refl (curates s caller (allowed s caller (Decide number holder id verdict) free)) lay alike)
follows who s t place caller (Undecide number holder id) e lay alike free made =
    subst (Follows who s t place) (some_same (ItemUndecided caller number (holder_of (snapshot s number) holder) id) e made)
    (decided who caller s t place (ItemUndecided caller number (holder_of (snapshot s number) holder) id) refl (curates s caller (allowed s caller (Undecide number holder id) free)) lay alike)

-- ---- along a history

-- a state, and what of a change an own history has at a place
own_next : (who : List ℕ) (u : ProjectState) (place : ℕ) (e : Happened) (o : Option Happened) → after_places u (cons_option (option_map (λ h. (place, h)) o) []) ≡ follow place o u
own_next who u place e None = refl
own_next who u place e (Some h) = refl

own_first : (who : List ℕ) (u : ProjectState) (place : ℕ) (o : Option Happened) (rest : List (ℕ × Happened)) → after_places u (cons_option (option_map (λ h. (place, h)) o) rest) ≡ after_places (follow place o u) rest
own_first who u place None rest = refl
own_first who u place (Some h) rest = refl

own_more : (who : List ℕ) (u s : ProjectState) (before : ℕ) (log : List Happened) (e : Happened) → s.place ≡ before
    → after_places u (filter_map (own_placed who) (numbered_from before (log ++ e ∷ [])))
    ≡ follow (place_behind e (after_places s (numbered_from before log)).place) (own_change who e) (after_places u (filter_map (own_placed who) (numbered_from before log)))
own_more who u s before [] e same = own_next who u (place_behind e before) e (own_change who e) ∙ ap (λ n. follow (place_behind e n) (own_change who e) u) (sym same)
own_more who u s before (x ∷ xs) e same =
    own_first who u (place_behind x before) (own_change who x) (filter_map (own_placed who) (numbered_from (place_behind x before) (xs ++ e ∷ [])))
    ∙ (own_more who (follow (place_behind x before) (own_change who x) u) (effect (place_behind x before) x s) (place_behind x before) xs e refl
    ∙ ap (follow (place_behind e (after_places (effect (place_behind x before) x s) (numbered_from (place_behind x before) xs)).place) (own_change who e))
    (sym (own_first who u (place_behind x before) (own_change who x) (filter_map (own_placed who) (numbered_from (place_behind x before) xs)))))

people_stay : (s : ProjectState) (place : ℕ) (e : Happened) → IsLater e → (effect place e s).people ≡ s.people
people_stay s place (Founded conf level people) is = absurd is
people_stay s place (Restored at state) is = absurd is
people_stay s place (TextAdded by name text) is = refl
people_stay s place (CheckedOut by doc) is = refl
people_stay s place (TakenOver by doc) is = refl
people_stay s place (LayerCommitted by doc hold layer) is = refl
people_stay s place (LayerParked by doc hold done undone) is = refl
people_stay s place (LayerFinished by doc) is = refl
people_stay s place (LayerReopened by doc who) is = refl
people_stay s place (LayerIgnored by doc who) is = refl
people_stay s place (LayerReadmitted by doc who) is = refl
people_stay s place (SnapshotTaken by doc) is = refl
people_stay s place (ItemDecided by number holder id verdict) is = refl
people_stay s place (ItemUndecided by number holder id) is = refl
people_stay s place AllFreed is = refl

-- somebody is a curator of people
abbrev curates_among : List Person → List ℕ → Bool
curates_among people who = list_any (bytes_eq who) (map (λ (person : Person). person.name) (filter (λ (person : Person). person.curator) people))

lay_before : (log : List Happened) (e : Happened) (who : List ℕ) → IsLater e → is_curator (after (log ++ e ∷ [])) who ≡ false → is_curator (after log) who ≡ false
lay_before log e who later lay =
    ap (λ people. curates_among people who) (sym (people_stay (after log) (place_behind e (after log).place) e later)) ∙ (ap (λ (s : ProjectState). curates_among s.people who) (sym (after_more log e)) ∙ lay)

-- the annotator's part of a project is that of the own history
pub own_state : (who : List ℕ) (log : List Happened) → IsLegal log → is_curator (after log) who ≡ false → mine who (after log) ≡ mine who (after_places unfounded (own who log))
own_state who _ (legal_founding conf level people is) lay = refl
own_state who _ (legal_restored state sound) lay = ap (with_documents state) (sym (all_twice (rater_of state who) state.documents))
own_state who _ (legal_step log caller asked e l typed is) lay =
    let g : IsGranted (after log) caller asked e = granted (after log) caller asked e is in
    let before : is_curator (after log) who ≡ false = lay_before log e who (change_later (after log) caller asked e g.made) lay in
    ap (mine who) (after_more log e)
    ∙ (follows who (after log) (after_places unfounded (own who log)) (place_behind e (after log).place) caller asked e before (own_state who log l before) g.free g.made
    ∙ sym (ap (mine who) (own_more who unfounded unfounded 0 log e refl)))
own_state who _ (legal_freeing log l is) lay =
    ap (mine who) (after_more log AllFreed)
    ∙ (free_follows who (after log) (after_places unfounded (own who log)) ((after log).place + 1) (own_state who log l (lay_before log AllFreed who tt lay))
    ∙ sym (ap (mine who) (own_more who unfounded unfounded 0 log AllFreed refl)))
