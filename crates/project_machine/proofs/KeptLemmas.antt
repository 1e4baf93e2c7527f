-- What steps keep of a project.
use Rattle.std.proofs.Common.{◌≡◌, ℕ, ◌+◌, ◌<◌, ◌≤◌, ◌==◌, ◌||◌, Bool, true, false, not, cond, List, [], ◌∷◌, length, map, get_or, bytes_eq, Some, None, zero, suc, refl, sym, ◌∙◌, ap, subst, arith, inl, inr, is_some}
use Rattle.std.specs.List.{All, list_any, position_or_len}
use Rattle.std.specs.Option.{option_map, option_or}
use Rattle.std.proofs.lemmas.List.{get_or_past, length-set, set_past, get_or-set_other}
use Rattle.std.proofs.lemmas.Grind.{get_or-set_at}
use Rattle.std.proofs.lemmas.List.Elements.{All-set}
use Rattle.std.proofs.lemmas.List.Sums.{passes_at_first}
use Rattle.std.proofs.lemmas.Bool.{cases_lt}
use Rattle.std.proofs.lemmas.Slice.Eq.{bytes_eq-Decides}
use Rattle.std.proofs.Math.Seq.{map-set_same}
use Rattle.layer_core.specs.declared.command.Command.{Command}
use Rattle.layer_model.specs.Annotations.{Annotations}
use Rattle.layer_model.specs.declared.rule.Rule.{Rule}
use Rattle.layer_undo.specs.Replays.{first_refusal}
use Rattle.project_machine.specs.declared.book_refusal.BookRefusal.{BookRefusal}
use Rattle.project_machine.specs.declared.book_refusal.BookRefusal.TheVariants as no
use Rattle.project_machine.specs.declared.book_refusal.Policy.TheVariants as policy
use Rattle.project_machine.specs.ProjectState.{Row, Document, Snapshot, ProjectState, blank_row, no_document, document, row, row_in, rater_of, with_row, annotators, is_annotator, is_curator, is_there}
use Rattle.project_machine.specs.Requests.{Asked, AddText, Commit, Park, Finish, Ignore}
use Rattle.project_machine.specs.Machine.{refusal, policies, tests, first_of, when, there, has_layer, held, is_full, park_rule, commit_rule, size_of}
use Rattle.project_machine.specs.History.{on_row}
use Rattle.project_machine.specs.Legal.{IsDocumentKept, IsKept, IsRowKept, IsSnapshotKept}
use Rattle.project_machine.proofs.RowLemmas.{Flawless, or_first, or_second, map_none, same_or, rows_set, row_later, blank_kept}

some_none : (r : BookRefusal) → Some r ≡ None → ⊥
some_none r e = cc

pub false_true : false ≡ true → ⊥
false_true e = cc

-- ---- tests that are passed

pub when_none : (b : Bool) (r : BookRefusal) → when b r ≡ None → b ≡ false
when_none true r e = absurd (some_none r e)
when_none false r e = refl

pub unmet : (b : Bool) (r : BookRefusal) → when (not b) r ≡ None → b ≡ true
unmet true r e = refl
unmet false r e = absurd (some_none r e)

not_zero : (n : ℕ) (r : BookRefusal) → when (n == 0) r ≡ None → (b : Bool) → n ≡ 0 → b ≡ false
not_zero zero r e b is = absurd (some_none r e)
not_zero (suc n) r e b is = absurd (omega arith)

-- who is not refused may ask
pub allowed : (s : ProjectState) (caller : List ℕ) (asked : Asked) → refusal s caller asked ≡ None → policies s caller asked ≡ None
allowed s caller asked e =
    or_first (policies s caller asked) (first_of (tests s caller asked))
    (or_second (when (not (is_annotator s caller || is_curator s caller)) (no.NotAllowed policy.Roster)) (option_or (policies s caller asked) (first_of (tests s caller asked))) e)

-- and passes each test
pub tests_free : (s : ProjectState) (caller : List ℕ) (asked : Asked) → refusal s caller asked ≡ None → first_of (tests s caller asked) ≡ None
tests_free s caller asked e =
    or_second (policies s caller asked) (first_of (tests s caller asked))
    (or_second (when (not (is_annotator s caller || is_curator s caller)) (no.NotAllowed policy.Roster)) (option_or (policies s caller asked) (first_of (tests s caller asked))) e)

pub annotates : (s : ProjectState) (caller : List ℕ) → when (not (is_annotator s caller)) (no.NotAllowed policy.Annotator) ≡ None → is_annotator s caller ≡ true
annotates s caller e = unmet (is_annotator s caller) (no.NotAllowed policy.Annotator) e

pub commit_free : (s : ProjectState) (caller name : List ℕ) (hold : ℕ) (layer : Annotations) → refusal s caller (Commit name hold layer) ≡ None → commit_rule s.conf (size_of s name) layer ≡ None
commit_free s caller name hold layer e =
    map_none no.Broken (commit_rule s.conf (size_of s name) layer)
    (or_first (option_map no.Broken (commit_rule s.conf (size_of s name) layer)) None
    (or_second (held (row_in s name caller) hold) _ (or_second (there s name) _ (tests_free s caller (Commit name hold layer) e))))

pub park_free : (s : ProjectState) (caller name : List ℕ) (hold : ℕ) (done undone : List Command) → refusal s caller (Park name hold done undone) ≡ None → first_refusal s.conf (size_of s name) (row_in s name caller).layer done undone ≡ None
park_free s caller name hold done undone e =
    map_none (λ (at : ℕ × Rule). at.1) (first_refusal s.conf (size_of s name) (row_in s name caller).layer done undone)
    (map_none no.Broken (park_rule s.conf (size_of s name) (row_in s name caller).layer done undone)
    (or_first (option_map no.Broken (park_rule s.conf (size_of s name) (row_in s name caller).layer done undone)) None
    (or_second (held (row_in s name caller) hold) _ (or_second (there s name) _ (tests_free s caller (Park name hold done undone) e)))))

pub finish_free : (s : ProjectState) (caller name : List ℕ) → refusal s caller (Finish name) ≡ None → (row_in s name caller).revision ≡ 0 → true ≡ false
finish_free s caller name e is =
    not_zero (row_in s name caller).revision no.NothingCommitted
    (or_first (when ((row_in s name caller).revision == 0) no.NothingCommitted) None
    (or_second (when (row_in s name caller).finished no.Finished) _
    (or_second (when (is_some (row_in s name caller).hold) no.LayerOut) _ (or_second (there s name) _ (tests_free s caller (Finish name) e))))) true is

pub ignore_free : (s : ProjectState) (caller name who : List ℕ) → refusal s caller (Ignore name who) ≡ None → (row_in s name who).revision ≡ 0 → true ≡ false
ignore_free s caller name who e is =
    not_zero (row_in s name who).revision no.NothingCommitted
    (or_first (when ((row_in s name who).revision == 0) no.NothingCommitted) (option_or (when (row_in s name who).ignored no.AlreadyIgnored) None)
    (or_second (has_layer s who) _ (or_second (there s name) _ (tests_free s caller (Ignore name who) e)))) true is

pub add_new : (s : ProjectState) (caller name text : List ℕ) → refusal s caller (AddText name text) ≡ None → is_there s name ≡ false
add_new s caller name text e =
    when_none (is_there s name) no.DocumentThere
    (or_first (when (is_there s name) no.DocumentThere) (option_or (when (is_full s text) no.ProjectFull) None) (tests_free s caller (AddText name text) e))

pub add_room : (s : ProjectState) (caller name text : List ℕ) → refusal s caller (AddText name text) ≡ None → is_full s text ≡ false
add_room s caller name text e =
    when_none (is_full s text) no.ProjectFull
    (or_first (when (is_full s text) no.ProjectFull) None
    (or_second (when (is_there s name) no.DocumentThere) (option_or (when (is_full s text) no.ProjectFull) None) (tests_free s caller (AddText name text) e)))

-- ---- places of names

within_step : (b rest : Bool) (n m : ℕ) → (b || rest) ≡ true → (rest ≡ true → n < m) → cond (not b) (1 + n) 0 < suc m
within_step true rest n m e h = omega arith
within_step false rest n m e h = let k : n < m = h e in omega arith

-- what some element passes stands at a place of the list
pub any_within : {X : Type 0} (p : X → Bool) (xs : List X) → list_any p xs ≡ true → position_or_len p xs < length xs
any_within p [] e = absurd (false_true e)
any_within p (x ∷ xs) e = within_step (p x) (list_any p xs) (position_or_len p xs) (length xs) e (any_within p xs)

-- the name at the place of an annotator is the annotator's
pub rater_name : (s : ProjectState) (who d : List ℕ) → is_annotator s who ≡ true → get_or (annotators s) (rater_of s who) d ≡ who
rater_name s who d is =
    let within : rater_of s who < length (annotators s) = any_within (bytes_eq who) (annotators s) is in
    let same : bytes_eq who (get_or (annotators s) (rater_of s who) d) ≡ true = passes_at_first (bytes_eq who) (annotators s) d within in
    sym ((bytes_eq-Decides who (get_or (annotators s) (rater_of s who) d)).0 same)

-- ---- documents and rows

-- a project at another place
abbrev pub at : ProjectState → ℕ → ProjectState
at s place = record s { place = place }

document_later : (s : ProjectState) (place : ℕ) (d : Document) → s.place ≤ place → IsDocumentKept s.conf (annotators s) s.place d → IsDocumentKept s.conf (annotators s) place d
document_later s place d h k = record {
  name = k.name;
  text = k.text;
  rows_are = k.rows_are;
  rows_kept = λ i who r within. row_later s.conf d.text s.place place (get_or (annotators s) i who) (get_or d.rows i r) h (k.rows_kept i who r within);
}

pub documents_later : (s : ProjectState) (place : ℕ) → s.place ≤ place → IsKept s → All (IsDocumentKept s.conf (annotators s) place) s.documents
documents_later s place h k i d within = document_later s place (get_or s.documents i d) h (k.documents i d within)

-- the row of an annotator is kept, whether its document is there or not
pub row_kept : (s : ProjectState) (doc : ℕ) (who : List ℕ) → Flawless → IsKept s → is_annotator s who ≡ true → IsRowKept s.conf (document s doc).text s.place who (row s doc who)
row_kept s doc who flawless k is =
    elim (cases_lt doc (length s.documents)) as (λ _. IsRowKept s.conf (document s doc).text s.place who (row s doc who)) [
      | inl within ↦ subst (λ name. IsRowKept s.conf (document s doc).text s.place name (row s doc who)) (rater_name s who [] is)
          ((k.documents doc no_document within).rows_kept (rater_of s who) [] blank_row (any_within (bytes_eq who) (annotators s) is))
      | inr past ↦ subst (λ (d : Document). IsRowKept s.conf d.text s.place who (get_or d.rows (rater_of s who) blank_row)) (sym (get_or_past s.documents doc no_document past)) (blank_kept s.conf [] s.place who flawless)
    ]

pub later_row : (s : ProjectState) (doc : ℕ) (who : List ℕ) (place : ℕ) → s.place ≤ place → Flawless → IsKept s → is_annotator s who ≡ true → IsRowKept s.conf (document s doc).text place who (row s doc who)
later_row s doc who place h flawless k is = row_later s.conf (document s doc).text s.place place who (row s doc who) h (row_kept s doc who flawless k is)

pub same_name : (s : ProjectState) (doc : ℕ) (who : List ℕ) (changed : Row → Row) → map (λ (d : Document). d.name) (on_row s doc who changed).documents ≡ map (λ (d : Document). d.name) s.documents
same_name s doc who changed = map-set_same (λ (d : Document). d.name) s.documents doc (with_row (rater_of s who) (changed (row s doc who)) (document s doc)) no_document refl

pub same_size : (s : ProjectState) (doc : ℕ) (who : List ℕ) (changed : Row → Row) → map (λ (d : Document). length d.text) (on_row s doc who changed).documents ≡ map (λ (d : Document). length d.text) s.documents
same_size s doc who changed = map-set_same (λ (d : Document). length d.text) s.documents doc (with_row (rater_of s who) (changed (row s doc who)) (document s doc)) no_document refl

-- another row leaves the text of each document
pub same_text : (s : ProjectState) (n doc : ℕ) (who : List ℕ) (changed : Row → Row) → (document (on_row s n who changed) doc).text ≡ (document s doc).text
same_text s n doc who changed =
    let new : Document = with_row (rater_of s who) (changed (row s n who)) (document s n) in
    elim (cases_lt n (length s.documents)) as (λ _. (document (on_row s n who changed) doc).text ≡ (document s doc).text) [
      | inr past ↦ ap (λ (all : List Document). (get_or all doc no_document).text) (set_past s.documents n new past)
      | inl within ↦ elim (same_or doc n) as (λ _. (document (on_row s n who changed) doc).text ≡ (document s doc).text) [
        | inl here ↦ ap (λ (d : Document). d.text) (get_or-set_at s.documents n doc new no_document here within) ∙ ap (λ k. (document s k).text) (sym here)
        | inr elsewhere ↦ ap (λ (d : Document). d.text) (get_or-set_other s.documents n doc new no_document elsewhere)
      ]
    ]

set_document : (s : ProjectState) (doc place : ℕ) (who : List ℕ) (changed : Row → Row) → is_annotator s who ≡ true → IsDocumentKept s.conf (annotators s) place (document s doc)
    → IsRowKept s.conf (document s doc).text place who (changed (row s doc who)) → IsDocumentKept s.conf (annotators s) place (with_row (rater_of s who) (changed (row s doc who)) (document s doc))
set_document s doc place who changed is old here = record {
  name = old.name;
  text = old.text;
  rows_are = length-set (document s doc).rows (rater_of s who) (changed (row s doc who)) ∙ old.rows_are;
  rows_kept = λ j d r. rows_set (λ i x. i < length (annotators s) → IsRowKept s.conf (document s doc).text place (get_or (annotators s) i d) x) (document s doc).rows (rater_of s who) (changed (row s doc who))
      (λ within. subst (λ name. IsRowKept s.conf (document s doc).text place name (changed (row s doc who))) (sym (rater_name s who d is)) here)
      (λ i x within. old.rows_kept i d x within) j r;
}

pub set_documents : (s : ProjectState) (doc place : ℕ) (who : List ℕ) (changed : Row → Row) → s.place ≤ place → IsKept s → is_annotator s who ≡ true
    → IsRowKept s.conf (document s doc).text place who (changed (row s doc who)) → All (IsDocumentKept s.conf (annotators s) place) (on_row s doc who changed).documents
set_documents s doc place who changed h k is here =
    elim (cases_lt doc (length s.documents)) as (λ _. All (IsDocumentKept s.conf (annotators s) place) (on_row s doc who changed).documents) [
      | inl within ↦
          All-set (IsDocumentKept s.conf (annotators s) place) s.documents doc (with_row (rater_of s who) (changed (row s doc who)) (document s doc))
          (set_document s doc place who changed is (documents_later s place h k doc no_document within) here) (documents_later s place h k)
      | inr past ↦
          subst (All (IsDocumentKept s.conf (annotators s) place)) (sym (set_past s.documents doc (with_row (rater_of s who) (changed (row s doc who)) (document s doc)) past)) (documents_later s place h k)
    ]

-- ---- snapshots where documents change

-- a snapshot is kept where its document stays and has the same text
pub snapshot_stays : (s t : ProjectState) (shot : Snapshot) → t.conf ≡ s.conf → annotators t ≡ annotators s → shot.doc < length t.documents → (document t shot.doc).text ≡ (document s shot.doc).text → IsSnapshotKept s shot → IsSnapshotKept t shot
snapshot_stays s t shot same people within text k = record {
  doc = within;
  holders = k.holders;
  annotate = λ i held inside. ap (λ names. list_any (bytes_eq (get_or shot.holders i held).0) names) people ∙ k.annotate i held inside;
  layers = λ i held inside. rw (same, text) (k.layers i held inside);
  short = λ i held inside. rw (same, text) (k.short i held inside);
  ascending = k.ascending;
}
