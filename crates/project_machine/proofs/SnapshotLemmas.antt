-- What is kept of snapshots where one is taken, and where a curator decides.
use Rattle.std.proofs.Common.{◌≡◌, ℕ, ◌+◌, ◌-◌, ◌<◌, ◌≤◌, ◌||◌, Bool, true, false, not, List, [], ◌∷◌, ◌++◌, length, length-append, map, set, get_or, bytes_eq, nat_lt, None, zero, suc, refl, sym, ◌∙◌, ap, subst, arith, inl, inr, count_by}
use Rattle.std.specs.List.{All, filter, list_any}
use Rattle.std.specs.Option.{option_or}
use Rattle.std.specs.List.Sorted.{IsStrictlySortedBy}
use Rattle.std.specs.Ordering.{nat_cmp}
use Rattle.std.specs.Cmp.Lexicographic.{slice_cmp}
use Rattle.std.proofs.lemmas.List.{length-map, length-set, set_past}
use Rattle.std.proofs.lemmas.List.Sums.{length-filter}
use Rattle.std.proofs.lemmas.List.Elements.{All-push, All-set}
use Rattle.std.proofs.lemmas.Bool.{cases_lt, ltb-false}
use Rattle.std.proofs.lemmas.Slice.Eq.{bytes_eq-Decides}
use Rattle.entry_bytes.specs.declared.person.Person.{Person}
use Rattle.layer_model.specs.Annotations.{Annotations}
use Rattle.unanimous_merge.specs.declared.item.ItemId.{ItemId}
use Rattle.curator_decisions.specs.declared.verdict.Verdict.{Verdict}
use Rattle.curator_decisions.specs.Decisions.{Ascend, with_verdict, without_verdict}
use Rattle.entry_bytes.specs.declared.entry.Entry.TheVariants as entry
use Rattle.ann_writer.specs.AnnOf.{ann_of}
use Rattle.project_machine.specs.declared.book_refusal.BookRefusal.TheVariants as no
use Rattle.project_machine.specs.ProjectState.{Row, Snapshot, ProjectState, no_document, no_snapshot, document, annotators, is_annotator, is_there, number_of, snapshot, finished_rows}
use Rattle.project_machine.specs.Requests.{Snap, SnapshotTaken}
use Rattle.project_machine.specs.Entries.{IsShort}
use Rattle.project_machine.specs.Machine.{refusal, there, enough}
use Rattle.project_machine.specs.History.{effect, on_snapshot, new_snapshot, with_decision, without_decision}
use Rattle.project_machine.specs.Legal.{IsDocumentKept, IsKept, IsRowKept, IsSnapshotKept, LayerObeys}
use Rattle.project_machine.proofs.NameLemmas.{IsPart, all_at, filtered_part, finished_all, finished_part, part_length, part_sorted}
use Rattle.project_machine.proofs.VerdictLemmas.{nothing_ascends, with_ascends, without_ascends}
use Rattle.project_machine.proofs.RowLemmas.{or_first, or_second}
use Rattle.project_machine.proofs.SizeLemmas.{held_short}
use Rattle.project_machine.proofs.KeptLemmas.{documents_later, false_true, snapshot_stays, tests_free, unmet, when_none}

-- ---- a snapshot that is taken

pub snap_there : (s : ProjectState) (caller name : List ℕ) → refusal s caller (Snap name) ≡ None → is_there s name ≡ true
snap_there s caller name e = unmet (is_there s name) no.NoDocument (or_first (there s name) (option_or (enough (finished_rows s (number_of s name))) None) (tests_free s caller (Snap name) e))

pub snap_enough : (s : ProjectState) (caller name : List ℕ) → refusal s caller (Snap name) ≡ None → 2 ≤ length (finished_rows s (number_of s name))
snap_enough s caller name e =
    ltb-false (length (finished_rows s (number_of s name))) 2
    (when_none (nat_lt (length (finished_rows s (number_of s name))) 2) (no.TooFewFinished (length (finished_rows s (number_of s name))))
    (or_first (enough (finished_rows s (number_of s name))) None (or_second (there s name) _ (tests_free s caller (Snap name) e))))

or_right : (a b : Bool) → b ≡ true → (a || b) ≡ true
or_right true b e = refl
or_right false b e = e

-- each name of a list is among its names
among : (names : List (List ℕ)) (k : ℕ) (d : List ℕ) → k < length names → list_any (bytes_eq (get_or names k d)) names ≡ true
among [] k d within = absurd (omega arith)
among (name ∷ names) zero d within = ap (λ b. b || list_any (bytes_eq name) names) ((bytes_eq-Decides name name).1 refl)
among (name ∷ names) (suc k) d within = or_right (bytes_eq (get_or names k d) name) (list_any (bytes_eq (get_or names k d)) names) (among names k d (omega arith))

annotators_few : (s : ProjectState) → IsKept s → length (annotators s) ≤ 16
annotators_few s k =
    let few : count_by (λ (person : Person). not person.curator) s.people ≤ 16 = k.founding.roster.sorts.few_annotators in
    let size : length (annotators s) ≡ length (filter (λ (person : Person). not person.curator) s.people) = length-map (filter (λ (person : Person). not person.curator) s.people) (λ (person : Person). person.name) in
    let count : length (filter (λ (person : Person). not person.curator) s.people) ≡ count_by (λ (person : Person). not person.curator) s.people = length-filter (λ (person : Person). not person.curator) s.people in
    omega arith

annotators_ascend : (s : ProjectState) → IsKept s → IsStrictlySortedBy (slice_cmp nat_cmp) (annotators s)
annotators_ascend s k = part_sorted (slice_cmp nat_cmp) _ _ (filtered_part (λ (person : Person). person.name) (λ (person : Person). not person.curator) s.people) k.founding.roster.ascending

some : (n : ℕ) → (n ≡ 0 → ⊥) → 0 < n
some zero not_zero = absurd (not_zero refl)
some (suc n) not_zero = omega arith

-- what holds of a layer that a snapshot of a document takes
record IsHeld (s : ProjectState) (doc : ℕ) (held : List ℕ × Annotations) : Type 0 where
  annotates : is_annotator s held.0 ≡ true
  obeys : LayerObeys s.conf (length (document s doc).text) held.1
  short : IsShort (entry.HeldLayer held.0 (ann_of s.conf (document s doc).text held.1))

row_held : (s : ProjectState) (doc : ℕ) (who : List ℕ) (r : Row) → is_annotator s who ≡ true → IsRowKept s.conf (document s doc).text s.place who r → r.finished ≡ true → IsHeld s doc (who, r.layer)
row_held s doc who r is k finished = record {
  annotates = is;
  obeys = k.layer;
  short = held_short who (ann_of s.conf (document s doc).text r.layer) (k.commit (some r.revision (λ none. false_true (sym (k.finished none) ∙ finished))));
}

finished_held : (s : ProjectState) (doc : ℕ) → IsKept s → doc < length s.documents → All (IsHeld s doc) (finished_rows s doc)
finished_held s doc k within =
    let d : IsDocumentKept s.conf (annotators s) s.place (document s doc) = k.documents doc no_document within in
    all_at (IsHeld s doc) (finished_rows s doc)
    (finished_all (IsHeld s doc) (annotators s) (document s doc).rows
    (λ i n r below inside is. row_held s doc (get_or (annotators s) i n) (get_or (document s doc).rows i r) (among (annotators s) i n below) (d.rows_kept i n r below) is))

-- a snapshot of finished layers is kept
new_kept : (s : ProjectState) (doc : ℕ) → IsKept s → doc < length s.documents → 2 ≤ length (finished_rows s doc) → IsSnapshotKept s (new_snapshot s doc)
new_kept s doc k within two =
    let held : All (IsHeld s doc) (finished_rows s doc) = finished_held s doc k within in
    let part : IsPart (map (λ (held : List ℕ × Annotations). held.0) (finished_rows s doc)) (annotators s) = finished_part (annotators s) (document s doc).rows in
    let few : length (map (λ (held : List ℕ × Annotations). held.0) (finished_rows s doc)) ≤ length (annotators s) = part_length _ _ part in
    let size : length (map (λ (held : List ℕ × Annotations). held.0) (finished_rows s doc)) ≡ length (finished_rows s doc) = length-map (finished_rows s doc) (λ (held : List ℕ × Annotations). held.0) in
    let most : length (annotators s) ≤ 16 = annotators_few s k in
    record {
      doc = within;
      holders = record { two = two; few = omega arith; ascending = part_sorted (slice_cmp nat_cmp) _ _ part (annotators_ascend s k) };
      annotate = λ i d inside. (held i d inside).annotates;
      layers = λ i d inside. (held i d inside).obeys;
      short = λ i d inside. (held i d inside).short;
      ascending = nothing_ascends;
    }

-- other snapshots are kept where documents stay
stays : (s t : ProjectState) (shot : Snapshot) → t.conf ≡ s.conf → t.people ≡ s.people → t.documents ≡ s.documents → IsSnapshotKept s shot → IsSnapshotKept t shot
stays s t shot conf people documents k =
    snapshot_stays s t shot conf (ap (λ ps. map (λ (person : Person). person.name) (filter (λ (person : Person). not person.curator) ps)) people)
    (subst (λ ds. shot.doc < length ds) (sym documents) k.doc) (ap (λ ds. (get_or ds shot.doc no_document).text) documents) k

pub snap_kept : (s : ProjectState) (by : List ℕ) (doc place : ℕ) → s.place + 1 ≤ place → IsKept s → doc < length s.documents → 2 ≤ length (finished_rows s doc) → IsKept (effect place (SnapshotTaken by doc) s)
snap_kept s by doc place h k within two =
    let t : ProjectState = effect place (SnapshotTaken by doc) s in
    let taken : length s.snapshots ≤ s.place = k.taken in
    let more : length (s.snapshots ++ new_snapshot s doc ∷ []) ≡ length s.snapshots + 1 = omega (arith, length-append s.snapshots (new_snapshot s doc ∷ [])) in
    record {
      founding = k.founding;
      few = k.few;
      total = k.total;
      names = k.names;
      documents = documents_later s place (omega arith) k;
      snapshots = All-push (IsSnapshotKept t) s.snapshots (new_snapshot s doc) (λ i d inside. stays s t (get_or s.snapshots i d) refl refl refl (k.snapshots i d inside)) (stays s t (new_snapshot s doc) refl refl refl (new_kept s doc k within two));
      taken = omega arith;
    }

-- ---- decisions

-- verdicts that ascend are kept in a snapshot
verdicts_kept : (s : ProjectState) (shot : Snapshot) (verdicts : List (ItemId × Verdict)) → Ascend verdicts → IsSnapshotKept s shot → IsSnapshotKept s (record shot { verdicts = verdicts })
verdicts_kept s shot verdicts up k = record { doc = k.doc; holders = k.holders; annotate = k.annotate; layers = k.layers; short = k.short; ascending = up }

-- a project with another snapshot of a number at a later place
abbrev decided_at : ProjectState → ℕ → (Snapshot → Snapshot) → ℕ → ProjectState
decided_at s number changed place = record (on_snapshot s number changed) { place = place }

pub on_snapshot_kept : (s : ProjectState) (number place : ℕ) (changed : Snapshot → Snapshot) → s.place ≤ place → IsKept s → ((shot : Snapshot) → IsSnapshotKept s shot → IsSnapshotKept s (changed shot)) → IsKept (decided_at s number changed place)
on_snapshot_kept s number place changed h k keeps =
    let t : ProjectState = decided_at s number changed place in
    let old : All (IsSnapshotKept t) s.snapshots = λ i d inside. stays s t (get_or s.snapshots i d) refl refl refl (k.snapshots i d inside) in
    let taken : length s.snapshots ≤ s.place = k.taken in
    let size : length (set s.snapshots (number - 1) (changed (snapshot s number))) ≡ length s.snapshots = length-set s.snapshots (number - 1) (changed (snapshot s number)) in
    record {
      founding = k.founding;
      few = k.few;
      total = k.total;
      names = k.names;
      documents = documents_later s place h k;
      snapshots = elim (cases_lt (number - 1) (length s.snapshots)) as (λ _. All (IsSnapshotKept t) (set s.snapshots (number - 1) (changed (snapshot s number)))) [
        | inl within ↦ All-set (IsSnapshotKept t) s.snapshots (number - 1) (changed (snapshot s number)) (stays s t (changed (snapshot s number)) refl refl refl (keeps (snapshot s number) (k.snapshots (number - 1) no_snapshot within))) old
        | inr past ↦ subst (All (IsSnapshotKept t)) (sym (set_past s.snapshots (number - 1) (changed (snapshot s number)) past)) old
      ];
      taken = omega arith;
    }

pub decide_kept : (s : ProjectState) (item : ItemId) (verdict : Verdict) (shot : Snapshot) → IsSnapshotKept s shot → IsSnapshotKept s (with_decision item verdict shot)
decide_kept s item verdict shot k = verdicts_kept s shot (with_verdict shot.verdicts item verdict) (with_ascends shot.verdicts item verdict k.ascending) k

pub undecide_kept : (s : ProjectState) (item : ItemId) (shot : Snapshot) → IsSnapshotKept s shot → IsSnapshotKept s (without_decision item shot)
undecide_kept s item shot k = verdicts_kept s shot (without_verdict shot.verdicts item) (without_ascends shot.verdicts item k.ascending) k
