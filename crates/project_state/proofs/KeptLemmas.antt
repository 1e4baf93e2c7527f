-- What an act leaves in order.
use Rattle.std.proofs.Common.{◌≡◌, ℕ, ◌<◌, ◌≤◌, ◌+◌, ◌||◌, ◌⊎◌, Bool, true, false, List, [], ◌∷◌, ◌++◌, length, map, nat_lt, get_or, sum, Some, zero, suc, refl, sym, ◌∙◌, ap, subst, bytes_eq, arith, inl, inr}
use Rattle.std.specs.Prelude.{nat_le}
use Rattle.std.specs.List.{list_any}
use Rattle.std.proofs.lemmas.Bool.{cases_lt, leb-false, ltb-false}
use Rattle.std.proofs.lemmas.Cmp.{nat_list_eq_equiv}
use Rattle.std.proofs.lemmas.List.{length-map, map-append, get_or_append_left, get_or-map}
use Rattle.std.proofs.lemmas.List.Sums.{sum_by-append}
use Rattle.std.proofs.Math.Seq.{get_or-append_seam}
use Rattle.project_machine.specs.ProjectState.{Document, ProjectState, no_document, document, is_there}
use Rattle.project_machine.specs.Machine.{is_full}
use Rattle.project_machine.specs.History.{freed}
use Rattle.project_state.specs.Stored.{IsStored, characters_in, numbered_as}

-- what the invariant of a kept project says
abbrev pub InOrder : ProjectState → List (List ℕ × ℕ) → ℕ → Type 0
InOrder s numbers total = IsStored s numbers × (total ≡ characters_in s)

abbrev pub names_of : List Document → List (List ℕ)
names_of documents = map (λ (d : Document). d.name) documents

abbrev pub sizes_of : List Document → List ℕ
sizes_of documents = map (λ (d : Document). length d.text) documents

name_at : (documents : List Document) (k : ℕ) → k < length documents → (get_or documents k no_document).name ≡ get_or (names_of documents) k []
name_at documents k within = sym (get_or-map (λ (d : Document). d.name) documents k no_document [] within)

-- a project whose documents have the names and the sizes that they had stays in order
pub same_names_keep : (s t : ProjectState) (numbers : List (List ℕ × ℕ)) (total : ℕ) → InOrder s numbers total → names_of t.documents ≡ names_of s.documents → sizes_of t.documents ≡ sizes_of s.documents → InOrder t numbers total
same_names_keep s t numbers total h names sizes =
    let count : length t.documents ≡ length s.documents =
    sym (length-map t.documents (λ (d : Document). d.name)) ∙ (ap (λ (all : List (List ℕ)). length all) names ∙ length-map s.documents (λ (d : Document). d.name)) in (
      record {
        numbered = λ k within.
            let inside : k < length s.documents = omega arith in
            let same : (document s k).name ≡ (document t k).name = name_at s.documents k inside ∙ (ap (λ (all : List (List ℕ)). get_or all k []) (sym names) ∙ sym (name_at t.documents k within)) in
            subst (λ n. numbered_as numbers n ≡ Some k) same (h.0.numbered k inside);
        few = let few = h.0.few in omega arith;
        low = subst (λ all. sum all ≤ 16777216) (sym sizes) h.0.low;
      },
      h.1 ∙ sym (ap sum sizes),
    )

freed_names : (documents : List Document) → names_of (map freed documents) ≡ names_of documents
freed_names [] = refl
freed_names (d ∷ documents) = ap (λ (all : List (List ℕ)). d.name ∷ all) (freed_names documents)

freed_sizes : (documents : List Document) → sizes_of (map freed documents) ≡ sizes_of documents
freed_sizes [] = refl
freed_sizes (d ∷ documents) = ap (λ (all : List ℕ). length d.text ∷ all) (freed_sizes documents)

-- so does one of which no row is out any more
pub freed_keep : (s t : ProjectState) (numbers : List (List ℕ × ℕ)) (total : ℕ) → InOrder s numbers total → t.documents ≡ map freed s.documents → InOrder t numbers total
freed_keep s t numbers total h e =
    same_names_keep s t numbers total h (ap names_of e ∙ freed_names s.documents) (ap sizes_of e ∙ freed_sizes s.documents)

-- ---- one more document

false_or : (a b : Bool) → (a || b) ≡ false → (a ≡ false) × (b ≡ false)
false_or true b e = cc
false_or false b e = (refl, e)

none_at : (p : Document → Bool) (documents : List Document) (k : ℕ) → list_any p documents ≡ false → k < length documents → p (get_or documents k no_document) ≡ false
none_at p [] k e within = absurd (omega arith)
none_at p (d ∷ documents) zero e within = (false_or (p d) (list_any p documents) e).0
none_at p (d ∷ documents) (suc k) e within = none_at p documents k (false_or (p d) (list_any p documents) e).1 (omega arith)

-- a project stays in order where another name gets a number
pub numbered_keep : (s t : ProjectState) (numbers new : List (List ℕ × ℕ)) (total : ℕ) (name : List ℕ) → InOrder s numbers total → t.documents ≡ s.documents → is_there s name ≡ false
    → ((other : List ℕ) → bytes_eq name other ≡ false → numbered_as new other ≡ numbered_as numbers other) → InOrder t new total
numbered_keep s t numbers new total name h e alone others =
    let kept : IsStored s new = record {
      numbered = λ k within.
          others (document s k).name
          (nat_list_eq_equiv.symm name (document s k).name ∙ none_at (λ (d : Document). bytes_eq d.name name) s.documents k alone within)
          ∙ h.0.numbered k within;
      few = h.0.few;
      low = h.0.low;
    } in
    same_names_keep s t new total (kept, h.1) (ap names_of e) (ap sizes_of e)

sizes_added : (documents : List Document) (added : Document) → sum (sizes_of (documents ++ added ∷ [])) ≡ sum (sizes_of documents) + length added.text
sizes_added documents added =
    let more : sum (sizes_of documents ++ length added.text ∷ []) ≡ sum (sizes_of documents) + (0 + length added.text) = sum_by-append (λ n. n) (sizes_of documents) (length added.text ∷ []) in
    ap sum (map-append (λ (d : Document). length d.text) documents (added ∷ [])) ∙ (more ∙ omega arith)

-- a project stays in order where a document is added that has room, and whose name stands under the next number
pub added_keep : (s t : ProjectState) (numbers : List (List ℕ × ℕ)) (total new : ℕ) (added : Document) → InOrder s numbers total → t.documents ≡ s.documents ++ added ∷ [] → new ≡ total + length added.text → is_full s added.text ≡ false
    → numbered_as numbers added.name ≡ Some (length s.documents) → InOrder t numbers new
added_keep s t numbers total new added h e counted room numbered =
    let parts : (nat_le 4096 (length s.documents) ≡ false) × (nat_lt 16777216 (characters_in s + length added.text) ≡ false) =
    false_or (nat_le 4096 (length s.documents)) (nat_lt 16777216 (characters_in s + length added.text)) room in
    let few : length s.documents < 4096 = leb-false 4096 (length s.documents) parts.0 in
    let low : characters_in s + length added.text ≤ 16777216 = ltb-false 16777216 (characters_in s + length added.text) parts.1 in
    let size : characters_in t ≡ characters_in s + length added.text = ap (λ (all : List Document). sum (sizes_of all)) e ∙ sizes_added s.documents added in
    let count : length t.documents ≡ length s.documents + 1 = ap (λ (all : List Document). length all) e ∙ length_added s.documents in (
      record {
        numbered = λ k within. subst (λ (all : List Document). numbered_as numbers (get_or all k no_document).name ≡ Some k) (sym e) (at k within (cases_lt k (length s.documents)));
        few = omega arith;
        low = omega arith;
      },
      let total_is = h.1 in omega arith,
    )
  where
    length_added : (documents : List Document) → length (documents ++ added ∷ []) ≡ length documents + 1
    length_added [] = refl
    length_added (d ∷ documents) = let more = length_added documents in omega arith

    at : (k : ℕ) → k < length t.documents → (k < length s.documents) ⊎ (length s.documents ≤ k) → numbered_as numbers (get_or (s.documents ++ added ∷ []) k no_document).name ≡ Some k
    at k within (inl before) = ap (λ (d : Document). numbered_as numbers d.name) (get_or_append_left s.documents (added ∷ []) no_document k before) ∙ h.0.numbered k before
    at k within (inr past) =
        let count : length t.documents ≡ length s.documents + 1 = ap (λ (all : List Document). length all) e ∙ length_added s.documents in
        let last : k ≡ length s.documents = omega arith in
        subst (λ n. numbered_as numbers (get_or (s.documents ++ added ∷ []) n no_document).name ≡ Some n) (sym last)
        (ap (λ (d : Document). numbered_as numbers d.name) (get_or-append_seam s.documents added [] no_document) ∙ numbered)
