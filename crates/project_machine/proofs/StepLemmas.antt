-- What each change keeps of a project.
use Rattle.std.proofs.Common.{◌≡◌, ◌≢◌, ℕ, ◌+◌, ◌<◌, ◌≤◌, ◌||◌, Bool, true, false, List, [], ◌∷◌, ◌++◌, length, map, sum, replicate, get_or, bytes_eq, nat_lt, nat_le, None, zero, suc, refl, sym, ◌∙◌, ap, subst, arith, inl, inr, length-append}
use Rattle.std.specs.List.{list_any}
use Rattle.std.proofs.lemmas.List.{get_or_append_left, length-map, get_or-replicate, length-replicate, length-set, map-append, get_or-map}
use Rattle.std.proofs.lemmas.Simd.{map-map}
use Rattle.std.proofs.lemmas.List.Elements.{All-push, All-map}
use Rattle.std.proofs.lemmas.List.Sums.{sum_by_push}
use Rattle.std.proofs.lemmas.Bool.{cases_lt, ltb-false, leb-false, or_parts}
use Rattle.std.proofs.lemmas.Slice.Eq.{bytes_eq-Decides}
use Rattle.entry_bytes.specs.Fields.{IsSlug}
use Rattle.project_machine.specs.ProjectState.{Row, Document, ProjectState, blank_row, no_document, new_document, document, row, annotators, is_annotator, is_there}
use Rattle.project_machine.specs.Requests.{TextAdded, AllFreed}
use Rattle.project_machine.specs.RequestValues.{IsDocText}
use Rattle.project_machine.specs.Machine.{is_full}
use Rattle.project_machine.specs.History.{effect, on_row, freed, under_hold}
use Rattle.project_machine.specs.Legal.{IsDocumentKept, IsKept, IsRowKept, NamesDiffer}
use Rattle.project_machine.proofs.RowLemmas.{Flawless, blank_kept, held_kept}
use Rattle.project_machine.proofs.KeptLemmas.{at, false_true, documents_later, same_name, same_size, same_text, set_documents, snapshot_stays}

-- ---- another row

-- another row that is kept
pub set_kept : (s : ProjectState) (doc place : ℕ) (who : List ℕ) (changed : Row → Row) → s.place ≤ place → IsKept s → is_annotator s who ≡ true
    → IsRowKept s.conf (document s doc).text place who (changed (row s doc who)) → IsKept (at (on_row s doc who changed) place)
set_kept s doc place who changed h k is here =
    let size : length (on_row s doc who changed).documents ≡ length s.documents = length-set s.documents doc _ in
    let taken : length s.snapshots ≤ s.place = k.taken in
    record {
      founding = k.founding;
      few = subst (λ n. n ≤ 4096) (sym size) k.few;
      total = subst (λ sizes. sum sizes ≤ 16777216) (sym (same_size s doc who changed)) k.total;
      names = subst NamesDiffer (sym (same_name s doc who changed)) k.names;
      documents = set_documents s doc place who changed h k is here;
      snapshots = λ i d inside. snapshot_stays s (at (on_row s doc who changed) place) (get_or s.snapshots i d) refl refl
          (subst (λ n. (get_or s.snapshots i d).doc < n) (sym size) (k.snapshots i d inside).doc) (same_text s doc (get_or s.snapshots i d).doc who changed) (k.snapshots i d inside);
      taken = omega arith;
    }

-- ---- one more document

any_none : {X : Type 0} (p : X → Bool) (xs : List X) (k : ℕ) (d : X) → list_any p xs ≡ false → k < length xs → p (get_or xs k d) ≡ false
any_none p [] k d e within = absurd (omega arith)
any_none p (x ∷ xs) zero d e within = (or_parts (p x) (list_any p xs) e).0
any_none p (x ∷ xs) (suc k) d e within = any_none p xs k d (or_parts (p x) (list_any p xs) e).1 (omega arith)

any_map : (name : List ℕ) (ds : List Document) → list_any (λ n. bytes_eq n name) (map (λ (d : Document). d.name) ds) ≡ list_any (λ (d : Document). bytes_eq d.name name) ds
any_map name [] = refl
any_map name (d ∷ ds) = ap (λ b. bytes_eq d.name name || b) (any_map name ds)

unlike : (a b : List ℕ) → bytes_eq a b ≡ false → a ≢ b
unlike a b e same = false_true (sym e ∙ (bytes_eq-Decides a b).1 same)

last_is : (names : List (List ℕ)) (name : List ℕ) → get_or (names ++ name ∷ []) (length names) [] ≡ name
last_is [] name = refl
last_is (n ∷ names) name = last_is names name

-- one more name that is not there
differ_push : (names : List (List ℕ)) (name : List ℕ) → NamesDiffer names → list_any (λ n. bytes_eq n name) names ≡ false → NamesDiffer (names ++ name ∷ [])
differ_push names name differ none i j before within =
    let size : length (names ++ name ∷ []) ≡ length names + 1 = omega (arith, length-append names (name ∷ [])) in
    elim (cases_lt j (length names)) as (λ _. get_or (names ++ name ∷ []) i [] ≢ get_or (names ++ name ∷ []) j []) [
      | inl inside ↦ λ same. differ i j before inside (sym (get_or_append_left names (name ∷ []) [] i (omega arith)) ∙ (same ∙ get_or_append_left names (name ∷ []) [] j inside))
      | inr past ↦ λ same.
          let here : length names ≡ j = omega arith in
          unlike (get_or names i []) name (any_none (λ n. bytes_eq n name) names i [] none (omega arith))
          (sym (get_or_append_left names (name ∷ []) [] i (omega arith)) ∙ (same ∙ (ap (λ k. get_or (names ++ name ∷ []) k []) (sym here) ∙ last_is names name)))
    ]

blank_rows : (n k : ℕ) (r : Row) → k < n → get_or (replicate n blank_row) k r ≡ blank_row
blank_rows n k r within = get_or-replicate n k blank_row r within

new_kept : (s : ProjectState) (place : ℕ) (name text : List ℕ) → Flawless → IsSlug name → IsDocText text → IsDocumentKept s.conf (annotators s) place (new_document s name text)
new_kept s place name text flawless slug typed = record {
  name = slug;
  text = typed;
  rows_are = length-replicate (length (annotators s)) blank_row;
  rows_kept = λ i who r within. subst (IsRowKept s.conf text place (get_or (annotators s) i who)) (sym (blank_rows (length (annotators s)) i r within)) (blank_kept s.conf text place (get_or (annotators s) i who) flawless);
}

-- one more document
pub add_kept : (s : ProjectState) (by name text : List ℕ) (place : ℕ) → s.place ≤ place → Flawless → IsKept s → IsSlug name → IsDocText text → is_there s name ≡ false → is_full s text ≡ false → IsKept (effect place (TextAdded by name text) s)
add_kept s by name text place h flawless k slug typed new room =
    let parts : (nat_le 4096 (length s.documents) ≡ false) × (nat_lt 16777216 (sum (map (λ (d : Document). length d.text) s.documents) + length text) ≡ false) = or_parts _ _ room in
    let few : length s.documents < 4096 = leb-false 4096 (length s.documents) parts.0 in
    let total : sum (map (λ (d : Document). length d.text) s.documents) + length text ≤ 16777216 = ltb-false 16777216 (sum (map (λ (d : Document). length d.text) s.documents) + length text) parts.1 in
    let size : length (s.documents ++ new_document s name text ∷ []) ≡ length s.documents + 1 = omega (arith, length-append s.documents (new_document s name text ∷ [])) in
    let taken : length s.snapshots ≤ s.place = k.taken in
    record {
      founding = k.founding;
      few = omega arith;
      total = subst (λ n. n ≤ 16777216) (sym (ap sum (map-append (λ (d : Document). length d.text) s.documents (new_document s name text ∷ [])) ∙ sum_by_push (λ n. n) (map (λ (d : Document). length d.text) s.documents) (length text))) total;
      names = subst NamesDiffer (sym (map-append (λ (d : Document). d.name) s.documents (new_document s name text ∷ [])))
          (differ_push (map (λ (d : Document). d.name) s.documents) name k.names (any_map name s.documents ∙ new));
      documents = All-push (IsDocumentKept s.conf (annotators s) place) s.documents (new_document s name text) (documents_later s place h k) (new_kept s place name text flawless slug typed);
      snapshots = λ i d inside.
          let low : (get_or s.snapshots i d).doc < length s.documents = (k.snapshots i d inside).doc in
          snapshot_stays s (effect place (TextAdded by name text) s) (get_or s.snapshots i d) refl refl (omega arith)
          (ap (λ (one : Document). one.text) (get_or_append_left s.documents (new_document s name text ∷ []) no_document (get_or s.snapshots i d).doc low)) (k.snapshots i d inside);
      taken = omega arith;
    }

-- ---- all layers are freed

freed_rows : (rows : List Row) (k : ℕ) (r : Row) → k < length rows → get_or (map (under_hold None) rows) k r ≡ under_hold None (get_or rows k r)
freed_rows rows k r within = get_or-map (under_hold None) rows k r r within

document_freed : (s : ProjectState) (place : ℕ) (d : Document) → IsDocumentKept s.conf (annotators s) place d → IsDocumentKept s.conf (annotators s) place (freed d)
document_freed s place d k = record {
  name = k.name;
  text = k.text;
  rows_are = length-map d.rows (under_hold None) ∙ k.rows_are;
  rows_kept = λ i who r within.
      let inside : i < length d.rows = (let are : length d.rows ≡ length (annotators s) = k.rows_are in omega arith) in
      subst (IsRowKept s.conf d.text place (get_or (annotators s) i who)) (sym (freed_rows d.rows i r inside))
      (held_kept s.conf d.text place (get_or (annotators s) i who) None (get_or d.rows i r) tt (k.rows_kept i who r within));
}

freed_text : (ds : List Document) (doc : ℕ) → (get_or (map freed ds) doc no_document).text ≡ (get_or ds doc no_document).text
freed_text [] doc = refl
freed_text (d ∷ ds) zero = refl
freed_text (d ∷ ds) (suc doc) = freed_text ds doc

pub freed_kept : (s : ProjectState) (place : ℕ) → s.place ≤ place → IsKept s → IsKept (effect place AllFreed s)
freed_kept s place h k =
    let size : length (map freed s.documents) ≡ length s.documents = length-map s.documents freed in
    let taken : length s.snapshots ≤ s.place = k.taken in
    record {
      founding = k.founding;
      few = subst (λ n. n ≤ 4096) (sym size) k.few;
      total = subst (λ sizes. sum sizes ≤ 16777216) (sym (map-map (λ (d : Document). length d.text) freed s.documents)) k.total;
      names = subst NamesDiffer (sym (map-map (λ (d : Document). d.name) freed s.documents)) k.names;
      documents = All-map (IsDocumentKept s.conf (annotators s) place) freed s.documents (λ i d within. document_freed s place (get_or s.documents i d) (documents_later s place h k i d within));
      snapshots = λ i d inside. snapshot_stays s (effect place AllFreed s) (get_or s.snapshots i d) refl refl
          (subst (λ n. (get_or s.snapshots i d).doc < n) (sym size) (k.snapshots i d inside).doc) (freed_text s.documents (get_or s.snapshots i d).doc) (k.snapshots i d inside);
      taken = omega arith;
    }
