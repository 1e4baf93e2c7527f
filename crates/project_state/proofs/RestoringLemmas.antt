-- Documents that are numbered one after another.
use Rattle.std.proofs.Common.{◌≡◌, ℕ, ◌<◌, ◌≤◌, ◌+◌, ◌⊎◌, Bool, true, false, List, [], ◌∷◌, length, map, get_or, sum, take, Option, Some, None, is_some, refl, zero, suc, sym, ◌∙◌, ap, subst, bytes_eq, arith, inl, inr}
use Rattle.std.specs.Prelude.{nat_le, if◌then◌else◌}
use Rattle.std.specs.List.{sum_by}
use Rattle.std.proofs.lemmas.Bool.{cases_lt, le-leb, lt-leb}
use Rattle.std.proofs.lemmas.List.{length-map, get_or-map, take_all}
use Rattle.std.proofs.lemmas.List.Sums.{sum-map, sum_by_more, sum_by-take-le}
use Rattle.std.proofs.lemmas.Slice.Eq.{bytes_eq-Decides}
use Rattle.project_machine.specs.Legal.{NamesDiffer}
use Rattle.project_machine.specs.ProjectState.{Document, no_document}
use Rattle.project_state.specs.Stored.{numbered_as}
use Rattle.project_state.specs.Restoring.{AreNumbered, CanBeKept, total_of}

some_apart : (a b : ℕ) → Some a ≡ Some b → a ≡ b
some_apart a b e = cc

none_some : (k : ℕ) → None ≡ Some k → ⊥
none_some k e = cc

-- the first documents are numbered, and no other name is
pub record NumberedSoFar (documents : List Document) (i : ℕ) (numbers : List (List ℕ × ℕ)) : Type 0 where
  pub each : (k : ℕ) → k < i → numbered_as numbers (get_or documents k no_document).name ≡ Some k
  pub only : (other : List ℕ) (k : ℕ) → numbered_as numbers other ≡ Some k → (k < i) × ((get_or documents k no_document).name ≡ other)

pub none_yet : (documents : List Document) → NumberedSoFar documents 0 []
none_yet documents = record {
  each = λ k within. absurd (omega arith);
  only = λ other k e. absurd (none_some k e);
}

any_default : (documents : List Document) (i : ℕ) (d e : Document) → i < length documents → get_or documents i d ≡ get_or documents i e
any_default [] i d e h = absurd (omega arith)
any_default (one ∷ documents) zero d e h = refl
any_default (one ∷ documents) (suc i) d e h = any_default documents i d e (omega arith)

name_here : (documents : List Document) (i : ℕ) (d : Document) (name : List ℕ) → i < length documents → d ≡ get_or documents i d → name ≡ d.name → name ≡ (get_or documents i no_document).name
name_here documents i d name within is e = e ∙ ap (λ (one : Document). one.name) (is ∙ any_default documents i d no_document within)

none_of : (o : Option ℕ) → is_some o ≡ false → o ≡ None
none_of None e = refl
none_of (Some k) e = cc

-- one more document of another name
pub one_numbered : (documents : List Document) (i : ℕ) (old new : List (List ℕ × ℕ)) (d : Document) (name : List ℕ) → NumberedSoFar documents i old → i < length documents → d ≡ get_or documents i d → name ≡ d.name → is_some (numbered_as old name) ≡ false
    → numbered_as new name ≡ Some i → ((other : List ℕ) → bytes_eq name other ≡ false → numbered_as new other ≡ numbered_as old other) → NumberedSoFar documents (i + 1) new
one_numbered documents i old new d name h inside is e none there others = record {
  each = λ k within. by k within (cases_lt k i);
  only = λ other k numbered. of other k numbered (bytes_eq name other) refl;
}
  where
    here : name ≡ (get_or documents i no_document).name
    here = name_here documents i d name inside is e

    apart : (k : ℕ) → k < i → (b : Bool) → bytes_eq name (get_or documents k no_document).name ≡ b → b ≡ false
    apart k before false e = refl
    apart k before true e =
        absurd (none_some k (sym (none_of (numbered_as old name) none) ∙ (ap (numbered_as old) ((bytes_eq-Decides name (get_or documents k no_document).name).0 e) ∙ h.each k before)))

    by : (k : ℕ) → k < i + 1 → (k < i) ⊎ (i ≤ k) → numbered_as new (get_or documents k no_document).name ≡ Some k
    by k within (inl before) = others (get_or documents k no_document).name (apart k before (bytes_eq name (get_or documents k no_document).name) refl) ∙ h.each k before
    by k within (inr past) =
        let same : k ≡ i = omega arith in
        subst (λ n. numbered_as new (get_or documents n no_document).name ≡ Some n) (sym same) (ap (numbered_as new) (sym here) ∙ there)

    of : (other : List ℕ) (k : ℕ) → numbered_as new other ≡ Some k → (b : Bool) → bytes_eq name other ≡ b → (k < i + 1) × ((get_or documents k no_document).name ≡ other)
    of other k numbered true same =
        let named : name ≡ other = (bytes_eq-Decides name other).0 same in
        let at : i ≡ k = some_apart i k (sym there ∙ (ap (numbered_as new) named ∙ numbered)) in
        (omega arith, ap (λ n. (get_or documents n no_document).name) (sym at) ∙ (sym here ∙ named))
    of other k numbered false differs =
        let before : (k < i) × ((get_or documents k no_document).name ≡ other) = h.only other k (sym (others other differs) ∙ numbered) in
        let less : k < i = before.0 in
        (omega arith, before.1)

name_in : (documents : List Document) (k : ℕ) → k < length documents → get_or (map (λ (d : Document). d.name) documents) k [] ≡ (get_or documents k no_document).name
name_in documents k within = get_or-map (λ (d : Document). d.name) documents k no_document [] within

-- a name that is numbered is that of an earlier document
pub named_twice : (documents : List Document) (i : ℕ) (numbers : List (List ℕ × ℕ)) (d : Document) (name : List ℕ) → NumberedSoFar documents i numbers → i < length documents → d ≡ get_or documents i d → name ≡ d.name → is_some (numbered_as numbers name) ≡ true
    → NamesDiffer (map (λ (d : Document). d.name) documents) → ⊥
named_twice documents i numbers d name h within is same there differ = by (numbered_as numbers name) refl there
  where
    by : (o : Option ℕ) → numbered_as numbers name ≡ o → is_some o ≡ true → ⊥
    by None e there = cc
    by (Some k) e there =
        let before : (k < i) × ((get_or documents k no_document).name ≡ name) = h.only name k e in
        let less : k < i = before.0 in
        let size : length (map (λ (d : Document). d.name) documents) ≡ length documents = length-map documents (λ (d : Document). d.name) in
        differ k i less (omega arith) (name_in documents k (omega arith) ∙ (before.1 ∙ (name_here documents i d name within is same ∙ sym (name_in documents i within))))

-- documents of which two have one name cannot be kept
pub not_kept : (documents list : List Document) → list ≡ documents → (NamesDiffer (map (λ (d : Document). d.name) list) → ⊥) → CanBeKept documents → ⊥
not_kept documents list e differ kept = differ (subst (λ (all : List Document). NamesDiffer (map (λ (d : Document). d.name) all)) (sym e) kept.names)

-- documents that are all numbered have different names
pub numbered_differ : (documents : List Document) (numbers : List (List ℕ × ℕ)) → AreNumbered documents numbers → NamesDiffer (map (λ (d : Document). d.name) documents)
numbered_differ documents numbers h i j less within same =
    let size : length (map (λ (d : Document). d.name) documents) ≡ length documents = length-map documents (λ (d : Document). d.name) in
    let j_in : j < length documents = omega arith in
    let i_in : i < length documents = omega arith in
    let one : i ≡ j = some_apart i j (sym (h i i_in) ∙ (ap (numbered_as numbers) (sym (name_in documents i i_in) ∙ (same ∙ name_in documents j j_in)) ∙ h j j_in)) in
    absurd (omega arith)

pub all_numbered : (documents : List Document) (i : ℕ) (numbers : List (List ℕ × ℕ)) → NumberedSoFar documents i numbers → length documents ≤ i → AreNumbered documents numbers
all_numbered documents i numbers h past = λ k within. h.each k (omega arith)

-- ---- characters

pub few_total : (documents : List Document) (total : ℕ) → total ≡ sum_by (λ (d : Document). length d.text) documents → total ≤ 16777216 → Some total ≡ total_of documents
few_total documents total is few =
    let all : total ≡ sum (map (λ (d : Document). length d.text) documents) = is ∙ sym (sum-map (λ (d : Document). length d.text) documents) in
    by (nat_le (sum (map (λ (d : Document). length d.text) documents)) 16777216) all (le-leb (sum (map (λ (d : Document). length d.text) documents)) 16777216 (omega arith))
  where
    by : (b : Bool) → total ≡ sum (map (λ (d : Document). length d.text) documents) → b ≡ true → Some total ≡ if b then Some (sum (map (λ (d : Document). length d.text) documents)) else None
    by true all e = ap (λ n. Some n) all
    by false all e = cc

pub total_more : (documents : List Document) (i total more : ℕ) (d : Document) → i < length documents → d ≡ get_or documents i d → total ≡ sum_by (λ (d : Document). length d.text) (take i documents) → more ≡ length d.text
    → total + more ≡ sum_by (λ (d : Document). length d.text) (take (i + 1) documents)
total_more documents i total more d within is so_far size =
    let next : sum_by (λ (d : Document). length d.text) (take (i + 1) documents) ≡ sum_by (λ (d : Document). length d.text) (take i documents) + length (get_or documents i d).text = sum_by_more (λ (d : Document). length d.text) documents i d within in
    let here : length d.text ≡ length (get_or documents i d).text = ap (λ (one : Document). length one.text) is in
    omega arith

-- documents that are past the limit already have no total
pub total_past : (documents : List Document) (i total : ℕ) → total ≡ sum_by (λ (d : Document). length d.text) (take i documents) → 16777216 < total → None ≡ total_of documents
total_past documents i total so_far past =
    let part : sum_by (λ (d : Document). length d.text) (take i documents) ≤ sum_by (λ (d : Document). length d.text) documents = sum_by-take-le (λ (d : Document). length d.text) documents i in
    let all : sum (map (λ (d : Document). length d.text) documents) ≡ sum_by (λ (d : Document). length d.text) documents = sum-map (λ (d : Document). length d.text) documents in
    by (nat_le (sum (map (λ (d : Document). length d.text) documents)) 16777216) (lt-leb (sum (map (λ (d : Document). length d.text) documents)) 16777216 (omega arith))
  where
    by : (b : Bool) → b ≡ false → None ≡ if b then Some (sum (map (λ (d : Document). length d.text) documents)) else None
    by false e = refl
    by true e = cc

pub total_there : (documents : List Document) (i total : ℕ) → total ≡ sum_by (λ (d : Document). length d.text) (take i documents) → length documents ≤ i → total ≤ 16777216 → Some total ≡ total_of documents
total_there documents i total so_far past few =
    few_total documents total (so_far ∙ ap (sum_by (λ (d : Document). length d.text)) (take_all i documents past)) few
