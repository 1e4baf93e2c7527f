-- The rows of a project that can be restored are read, document after document.
use Rattle.std.proofs.Common.{◌≡◌, ℕ, ◌+◌, ◌<◌, ◌≤◌, Bool, true, false, List, [], ◌∷◌, length, get_or, Option, Some, None, is_some, zero, suc, refl, sym, ◌∙◌, ap, subst, arith, inl, inr}
use Rattle.std.specs.List.{enumerate_from, flat_map, list_any, zip}
use Rattle.std.proofs.lemmas.Bool.{or_parts}
use Rattle.std.proofs.lemmas.List.{get_or_default}
use Rattle.std.proofs.lemmas.List.FromFn.{get_or-enumerate_from, length-enumerate_from}
use Rattle.std.proofs.lemmas.Slice.Zip.{get_or-zip}
use Rattle.project_machine.specs.Entries.{row_pieces, rows_pieces}
use Rattle.project_machine.specs.Legal.{IsDocumentKept, IsSound}
use Rattle.project_machine.specs.ProjectState.{Row, Document, ProjectState, annotators, blank_row, document, is_some_out, no_document, row_at}
use Rattle.checkpoint.specs.declared.so_far.SoFar.{SoFar}
use Rattle.checkpoint.proofs.SoundEntries.{WrittenIsUtf8, rater_annotates, rater_back, rater_slug}
use Rattle.checkpoint.proofs.SoundRows.{blanked_next}
use Rattle.checkpoint.proofs.SoundWalk.{Goes, goes_on_to, walk}
use Rattle.checkpoint.proofs.SoundRowPieces.{IsAt, IsBehind, IsHere, row_walked}

-- ---- the rows of a document

any_false : {X : Type 0} (p : X → Bool) (xs : List X) (i : ℕ) (d : X) → list_any p xs ≡ false → i < length xs → p (get_or xs i d) ≡ false
any_false p [] i d none within = absurd (omega arith)
any_false p (x ∷ xs) zero d none within = (or_parts (p x) (list_any p xs) none).0
any_false p (x ∷ xs) (suc i) d none within = any_false p xs i d (or_parts (p x) (list_any p xs) none).1 (omega arith)

true_false : true ≡ false → ⊥
true_false e = cc

none_held : (o : Option ℕ) → is_some o ≡ false → o ≡ None
none_held None e = refl
none_held (Some x) e = absurd (true_false e)

row_free : (s : ProjectState) (doc rater : ℕ) → is_some_out s ≡ false → doc < length s.documents → rater < length (document s doc).rows → (row_at s doc rater).hold ≡ None
row_free s doc rater free within inside =
    none_held (row_at s doc rater).hold (any_false (λ (q : Row). is_some q.hold) (document s doc).rows rater blank_row (any_false (λ (d : Document). list_any (λ (q : Row). is_some q.hold) d.rows) s.documents doc no_document free within) inside)

is_here : (s : ProjectState) (doc rater : ℕ) → IsSound s → doc < length s.documents → rater < length (annotators s) → IsHere s doc rater (get_or (annotators s) rater []) (row_at s doc rater)
is_here s doc rater sound within low =
    let d : IsDocumentKept s.conf (annotators s) s.place (document s doc) = sound.kept.documents doc no_document within in
    let many : length (document s doc).rows ≡ length (annotators s) = d.rows_are in
    let inside : rater < length (document s doc).rows = omega (arith, many, low) in
    record {
      within = within;
      low = inside;
      is = refl;
      slug = rater_slug s rater sound.kept low;
      annotates = rater_annotates s rater low;
      placed = rater_back s rater sound.kept low;
      kept = d.rows_kept rater [] blank_row low;
      free = row_free s doc rater sound.free within inside;
    }

zip_length : {A B : Type 0} (ks : List A) (vs : List B) → length vs ≡ length ks → length (zip ks vs) ≡ length ks
zip_length [] vs same = refl
zip_length (a ∷ ks) [] same = absurd (omega arith)
zip_length (a ∷ ks) (b ∷ vs) same = (let rest : length (zip ks vs) ≡ length ks = zip_length ks vs (omega arith) in omega arith)

placed_is : (s : ProjectState) (doc rater : ℕ) (placed : List ℕ × Row) → length (document s doc).rows ≡ length (annotators s) → rater < length (annotators s) → get_or (zip (annotators s) (document s doc).rows) rater placed ≡ placed
    → placed ≡ (get_or (annotators s) rater [], row_at s doc rater)
placed_is s doc rater placed many low is =
    sym is
    ∙ (get_or-zip (annotators s) (document s doc).rows rater placed low (omega (arith, many, low))
    ∙ (ap (λ (name : List ℕ). (name, get_or (document s doc).rows rater placed.1)) (get_or_default (annotators s) rater placed.0 [] low)
    ∙ ap (λ (q : Row). (get_or (annotators s) rater [], q)) (get_or_default (document s doc).rows rater placed.1 blank_row (omega (arith, many, low)))))

rows_step : WrittenIsUtf8 → (s : ProjectState) (doc : ℕ) → IsSound s → doc < length s.documents → (rater : ℕ) (placed : List ℕ × Row) (so : SoFar) → rater < length (zip (annotators s) (document s doc).rows) → get_or (zip (annotators s) (document s doc).rows) rater placed ≡ placed → IsAt s doc rater so
    → Goes so (row_pieces s doc placed) (IsAt s doc (suc rater))
rows_step written s doc sound within rater placed so inside is at =
    let many : length (document s doc).rows ≡ length (annotators s) = (sound.kept.documents doc no_document within).rows_are in
    let size : length (zip (annotators s) (document s doc).rows) ≡ length (annotators s) = zip_length (annotators s) (document s doc).rows many in
    let low : rater < length (annotators s) = omega (arith, size, inside) in
    subst (λ (p : List ℕ × Row). Goes so (row_pieces s doc p) (IsAt s doc (suc rater))) (sym (placed_is s doc rater placed many low is))
    (row_walked written s doc rater (get_or (annotators s) rater []) (row_at s doc rater) so sound (is_here s doc rater sound within low) at)

document_behind : (s : ProjectState) (doc rater : ℕ) (now : SoFar) → doc < length s.documents → length (document s doc).rows ≤ rater → IsAt s doc rater now → IsAt s (suc doc) zero now
document_behind s doc rater now within past at = record {
  texts = at.texts;
  shots = at.shots;
  told = at.told ∙ blanked_next s doc rater within past;
  whole = at.whole;
  next = λ d r behind. at.next d r (inl (later d r behind));
}
  where
    later : (d r : ℕ) → IsBehind (suc doc) zero d r → doc < d
    later d r (inl low) = omega (arith, low)
    later d r (inr same) = omega (arith, same.0)

document_walked : WrittenIsUtf8 → (s : ProjectState) (doc : ℕ) (so : SoFar) → IsSound s → doc < length s.documents → IsAt s doc zero so → Goes so (rows_pieces s (doc, document s doc)) (IsAt s (suc doc) zero)
document_walked written s doc so sound within at =
    let many : length (document s doc).rows ≡ length (annotators s) = (sound.kept.documents doc no_document within).rows_are in
    let size : length (zip (annotators s) (document s doc).rows) ≡ length (annotators s) = zip_length (annotators s) (document s doc).rows many in
    let last : ℕ = length (zip (annotators s) (document s doc).rows) in
    goes_on_to (rows_pieces s (doc, document s doc)) so (IsAt s doc last) (IsAt s (suc doc) zero) (walk (row_pieces s doc) (IsAt s doc) (zip (annotators s) (document s doc).rows) (rows_step written s doc sound within) so at)
    (λ now there. document_behind s doc last now within (omega (arith, many, size)) there)

-- ---- the rows of all documents

documents_step : WrittenIsUtf8 → (s : ProjectState) → IsSound s → (doc : ℕ) (placed : ℕ × Document) (so : SoFar) → doc < length (enumerate_from 0 s.documents) → get_or (enumerate_from 0 s.documents) doc placed ≡ placed → IsAt s doc zero so → Goes so (rows_pieces s placed) (IsAt s (suc doc) zero)
documents_step written s sound doc placed so inside is at =
    let size : length (enumerate_from 0 s.documents) ≡ length s.documents = length-enumerate_from 0 s.documents in
    let within : doc < length s.documents = omega (arith, size, inside) in
    let zeroth : 0 + doc ≡ doc = omega arith in
    let same : placed ≡ (doc, document s doc) =
    sym is
    ∙ (get_or-enumerate_from 0 s.documents doc placed within
    ∙ (ap (λ (n : ℕ). (n, get_or s.documents doc placed.1)) zeroth ∙ ap (λ (d : Document). (doc, d)) (get_or_default s.documents doc placed.1 no_document within))) in
    subst (λ (p : ℕ × Document). Goes so (rows_pieces s p) (IsAt s (suc doc) zero)) (sym same) (document_walked written s doc so sound within at)

pub rows_walked : WrittenIsUtf8 → (s : ProjectState) (so : SoFar) → IsSound s → IsAt s zero zero so → Goes so (flat_map (rows_pieces s) (enumerate_from 0 s.documents)) (IsAt s (length (enumerate_from 0 s.documents)) zero)
rows_walked written s so sound at = walk (rows_pieces s) (λ doc. IsAt s doc zero) (enumerate_from 0 s.documents) (documents_step written s sound) so at
