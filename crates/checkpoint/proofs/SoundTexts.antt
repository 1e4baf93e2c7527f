-- The documents of a project that can be restored are read.
use Rattle.std.proofs.Common.{◌≡◌, ℕ, ◌+◌, ◌-◌, ◌<◌, ◌≤◌, true, false, List, [], ◌∷◌, ◌++◌, length, map, sum, get_or, take, drop, replicate, bytes_eq, zero, suc, refl, sym, ◌∙◌, ap, subst, arith}
use Rattle.std.specs.Prelude.{chars, encode_utf8_all}
use Rattle.std.specs.List.{list_any}
use Rattle.std.proofs.lemmas.Bool.{and_from, false_from_ne_true, le-leb, lt-ltb, not_from_false, or_from}
use Rattle.std.proofs.lemmas.List.{get_or-map, get_or_default, length-map, map-append, take-append-drop}
use Rattle.std.proofs.lemmas.List.Concat.{flat_map_single}
use Rattle.std.proofs.lemmas.List.Sums.{sum_by-append, sum_by_push}
use Rattle.std.proofs.lemmas.Slice.Eq.{bytes_eq-Decides}
use Rattle.std.proofs.Math.Seq.{take-suc}
use Rattle.entry_bytes.specs.declared.entry.Entry.{Entry}
use Rattle.project_machine.specs.Entries.{document_piece}
use Rattle.project_machine.specs.Legal.{IsDocumentKept, IsKept, NamesDiffer}
use Rattle.project_machine.specs.ProjectState.{Document, ProjectState, annotators, blank_row, is_there, new_document, no_document}
use Rattle.checkpoint.specs.declared.so_far.Part.TheVariants as part
use Rattle.checkpoint.specs.declared.so_far.SoFar.{SoFar}
use Rattle.checkpoint.specs.Reading.{text_fits, with_text}
use Rattle.checkpoint.proofs.SoundEntries.{document_entered}
use Rattle.checkpoint.proofs.SoundRows.{blank_document, with_documents}
use Rattle.checkpoint.proofs.SoundWalk.{Goes, goes_one, walk}

-- how many characters the first documents have
abbrev pub size_of_first : ℕ → List Document → ℕ
size_of_first i documents = sum (map (λ (d : Document). length d.text) (take i documents))

-- what the pieces of some first documents leave
abbrev pub texted : ProjectState → List Document → ℕ → ℕ → SoFar
texted s documents texts room = record { state = with_documents s documents; texts = texts; room = room; shots = length s.snapshots; part = part.Start }

abbrev pub texts_read : ProjectState → ℕ → SoFar
texts_read s i = texted s (map blank_document (take i s.documents)) (length s.documents - i) (16777216 - size_of_first i s.documents)

-- ---- characters

size_next : (documents : List Document) (i : ℕ) (d : Document) → i < length documents → get_or documents i d ≡ d → size_of_first (suc i) documents ≡ size_of_first i documents + length d.text
size_next documents i d within is =
    ap (λ (xs : List Document). sum (map (λ (x : Document). length x.text) xs)) (take-suc documents i d within)
    ∙ (ap sum (map-append (λ (x : Document). length x.text) (take i documents) (get_or documents i d ∷ []))
    ∙ (sum_by_push (λ n. n) (map (λ (x : Document). length x.text) (take i documents)) (length (get_or documents i d).text)
    ∙ ap (λ (x : Document). size_of_first i documents + length x.text) is))

size_within : (documents : List Document) (i : ℕ) → size_of_first i documents ≤ sum (map (λ (d : Document). length d.text) documents)
size_within documents i =
    let whole : sum (map (λ (d : Document). length d.text) (take i documents ++ drop i documents)) ≡ sum (map (λ (d : Document). length d.text) documents) = ap (λ (xs : List Document). sum (map (λ (d : Document). length d.text) xs)) (take-append-drop i documents) in
    let parts : sum (map (λ (d : Document). length d.text) (take i documents ++ drop i documents)) ≡ size_of_first i documents + sum (map (λ (d : Document). length d.text) (drop i documents)) =
    ap sum (map-append (λ (d : Document). length d.text) (take i documents) (drop i documents)) ∙ sum_by-append (λ n. n) (map (λ (d : Document). length d.text) (take i documents)) (map (λ (d : Document). length d.text) (drop i documents)) in
    omega (arith, whole, parts)

-- ---- names

none_before : (documents : List Document) (i : ℕ) (name : List ℕ) → ((k : ℕ) → k < i → k < length documents → bytes_eq (get_or documents k no_document).name name ≡ false) → list_any (λ (x : Document). bytes_eq x.name name) (map blank_document (take i documents)) ≡ false
none_before documents zero name other = refl
none_before [] (suc i) name other = refl
none_before (x ∷ documents) (suc i) name other =
    or_from (bytes_eq x.name name) (list_any (λ (y : Document). bytes_eq y.name name) (map blank_document (take i documents))) (other zero (omega arith) (omega arith))
    (none_before documents i name (λ k low inside. other (suc k) (omega arith) (omega arith)))

name_at : (documents : List Document) (k : ℕ) → k < length documents → get_or (map (λ (d : Document). d.name) documents) k [] ≡ (get_or documents k no_document).name
name_at documents k within = get_or-map (λ (d : Document). d.name) documents k no_document [] within

differ_so : (documents : List Document) (k i : ℕ) (d : Document) → NamesDiffer (map (λ (x : Document). x.name) documents) → k < i → i < length (map (λ (x : Document). x.name) documents) → i < length documents → get_or documents i d ≡ d → bytes_eq (get_or documents k no_document).name d.name ≡ false
differ_so documents k i d names low many within is =
    false_from_ne_true (bytes_eq (get_or documents k no_document).name d.name)
    (λ same. names k i low many
    (name_at documents k (omega arith)
    ∙ ((bytes_eq-Decides (get_or documents k no_document).name d.name).0 same
    ∙ sym (name_at documents i within ∙ ap (λ (x : Document). x.name) (get_or_default documents i no_document d within ∙ is)))))

-- ---- one document

-- the next one with blank rows
next_document : (s : ProjectState) (i : ℕ) (d : Document) (text : List ℕ) → i < length s.documents → get_or s.documents i d ≡ d → length d.rows ≡ length (annotators s) → text ≡ d.text
    → map blank_document (take (suc i) s.documents) ≡ map blank_document (take i s.documents) ++ new_document s d.name text ∷ []
next_document s i d text within is rows words =
    ap (λ (xs : List Document). map blank_document xs) (take-suc s.documents i d within)
    ∙ (map-append blank_document (take i s.documents) (get_or s.documents i d ∷ [])
    ∙ (ap (λ (x : Document). map blank_document (take i s.documents) ++ blank_document x ∷ []) is
    ∙ (ap (λ (n : ℕ). let one : Document = record { name = d.name; text = d.text; rows = replicate n blank_row } in map blank_document (take i s.documents) ++ one ∷ []) rows
    ∙ ap (λ (w : List ℕ). map blank_document (take i s.documents) ++ new_document s d.name w ∷ []) (sym words))))

text_is_read : (s : ProjectState) (i : ℕ) (d : Document) → IsKept s → i < length s.documents → get_or s.documents i d ≡ d → IsDocumentKept s.conf (annotators s) s.place d
    → (text_fits (texts_read s i) d.name (encode_utf8_all d.text) ≡ true) × (texts_read s (suc i) ≡ with_text (texts_read s i) d.name (encode_utf8_all d.text))
text_is_read s i d k within is kept =
    let words : List ℕ = chars (encode_utf8_all d.text) in
    let same : words ≡ d.text = kept.text.characters in
    let size : length words ≡ length d.text = ap (λ (w : List ℕ). length w) same in
    let short : length d.text ≤ 200000 = kept.text.short in
    let total : sum (map (λ (x : Document). length x.text) s.documents) ≤ 16777216 = k.total in
    let next : size_of_first (suc i) s.documents ≡ size_of_first i s.documents + length d.text = size_next s.documents i d within is in
    let most : size_of_first (suc i) s.documents ≤ sum (map (λ (x : Document). length x.text) s.documents) = size_within s.documents (suc i) in
    let many : length (map (λ (x : Document). x.name) s.documents) ≡ length s.documents = length-map s.documents (λ (x : Document). x.name) in
    let new : is_there (texts_read s i).state d.name ≡ false = none_before s.documents i d.name (λ j low inside. differ_so s.documents j i d k.names low (omega (arith, many, within)) within is) in
    let short_now : length words ≤ 200000 = omega (arith, size, short) in
    let room : length words ≤ 16777216 - size_of_first i s.documents = omega (arith, size, total, next, most) in
    let wanted : 0 < length s.documents - i = omega (arith, within) in
    let texts : length s.documents - suc i ≡ length s.documents - i - 1 = omega arith in
    let rest : 16777216 - size_of_first (suc i) s.documents ≡ 16777216 - size_of_first i s.documents - length words = omega (arith, next, size) in (
      and_from _ _ (and_from _ _ (and_from _ _ (and_from _ _ refl (lt-ltb 0 (length s.documents - i) wanted)) (not_from_false (is_there (texts_read s i).state d.name) new)) (le-leb (length words) 200000 short_now)) (le-leb (length words) (16777216 - size_of_first i s.documents) room),
      ap (λ (ds : List Document). texted s ds (length s.documents - suc i) (16777216 - size_of_first (suc i) s.documents)) (next_document s i d words within is kept.rows_are same)
          ∙ (ap (λ (n : ℕ). texted s (map blank_document (take i s.documents) ++ new_document s d.name words ∷ []) n (16777216 - size_of_first (suc i) s.documents)) texts
          ∙ ap (λ (n : ℕ). texted s (map blank_document (take i s.documents) ++ new_document s d.name words ∷ []) (length s.documents - i - 1) n) rest),
    )

-- ---- all documents

texts_step : (s : ProjectState) → IsKept s → (i : ℕ) (d : Document) (so : SoFar) → i < length s.documents → get_or s.documents i d ≡ d → so ≡ texts_read s i → Goes so (document_piece d ∷ []) (λ now. now ≡ texts_read s (suc i))
texts_step s k i d so within is here =
    let kept : IsDocumentKept s.conf (annotators s) s.place d = subst (IsDocumentKept s.conf (annotators s) s.place) is (k.documents i d within) in
    subst (λ (z : SoFar). Goes z (document_piece d ∷ []) (λ now. now ≡ texts_read s (suc i))) (sym here)
    (goes_one (texts_read s i) (texts_read s (suc i)) (document_piece d) (λ now. now ≡ texts_read s (suc i)) (document_entered s d kept) (text_is_read s i d k within is kept) refl)

pub texts_walked : (s : ProjectState) → IsKept s → Goes (texts_read s zero) (map document_piece s.documents) (λ now. now ≡ texts_read s (length s.documents))
texts_walked s k =
    subst (λ (es : List Entry). Goes (texts_read s zero) es (λ now. now ≡ texts_read s (length s.documents))) (flat_map_single document_piece s.documents)
    (walk (λ (d : Document). document_piece d ∷ []) (λ i now. now ≡ texts_read s i) s.documents (texts_step s k) (texts_read s zero) refl)
