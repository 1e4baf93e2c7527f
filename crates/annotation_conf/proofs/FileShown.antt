-- A text has at most as many lines as bytes, and values that are seen as a file is kept show it.
use Rattle.std.proofs.Common.{◌≡◌, ℕ, ◌+◌, ◌≤◌, ◌==◌, Bool, true, false, cond, List, [], ◌∷◌, length, drop, ◌∙◌, ap, arith, map, Bor}
use Rattle.std.specs.List.{slice_split, onto_first}
use Rattle.std.specs.Str.Lines.{lines, lines_of_parts}
use Rattle.std.proofs.Math.ListN.{drop_of_length-le}
use Rattle.annotation_conf.specs.declared.file.File.{File as FileValue}
use Rattle.conf_model.specs.ConfLines.{Place, Before, lines_from, file_lines}
use Rattle.conf_model.specs.ConfNames.{File, file_of}
use Rattle.annotation_conf.specs.FileKept.{KeptFile, kept_file}
use Rattle.annotation_conf.specs.FileShows.{Shows, seen_file}
use Rattle.annotation_conf.specs.FileGrows.{nothing_kept, grown_by}
use Rattle.annotation_conf.proofs.FileLines.{grown_by-is}

lines_of-empty_first : (parts : List (List ℕ)) → length (lines_of_parts ([] ∷ parts)) ≤ length (lines_of_parts parts) + 1
lines_of-empty_first [] = omega arith
lines_of-empty_first (y ∷ more) = omega arith

at_most_one : (b : Bool) (line : List ℕ) → length (cond b [] (line ∷ [])) ≤ 1
at_most_one true line = omega arith
at_most_one false line = omega arith

lines_of-onto : (x : ℕ) (parts : List (List ℕ)) → length (lines_of_parts (onto_first x parts)) ≤ length (lines_of_parts parts) + 1
lines_of-onto x [] = omega arith
lines_of-onto x (part ∷ []) =
    let few : length (lines_of_parts (onto_first x (part ∷ []))) ≤ 1 = at_most_one (length (x ∷ part) == 0) (x ∷ part) in omega (arith, few)
lines_of-onto x (part ∷ y ∷ more) = omega arith

parts-few : (bs : List ℕ) → length (lines_of_parts (slice_split (λ b. b == 10) bs)) ≤ length bs
parts-few [] = omega arith
parts-few (x ∷ xs) =
    let P : Bool → Type 0 = λ b. length (lines_of_parts (cond b ([] ∷ slice_split (λ c. c == 10) xs) (onto_first x (slice_split (λ c. c == 10) xs)))) ≤ length (x ∷ xs) in
    elim (x == 10) as P [
      | true ↦ omega (arith, lines_of-empty_first (slice_split (λ c. c == 10) xs), parts-few xs)
      | false ↦ omega (arith, lines_of-onto x (slice_split (λ c. c == 10) xs), parts-few xs)
    ]

-- no more lines than bytes
pub lines-few : (bs : List ℕ) → length (lines bs) ≤ length bs
lines-few bs = parts-few bs

-- values that are seen as a file is kept
pub Shows-from : (values : FileValue) (file : File) → seen_file values ≡ kept_file file → Shows values file
Shows-from values file e = record {
  lines = ap (λ (f : KeptFile). f.lines) e;
  entities = ap (λ (f : KeptFile). f.entities) e;
  events = ap (λ (f : KeptFile). f.events) e;
  relations = ap (λ (f : KeptFile). f.relations) e;
  overlaps = ap (λ (f : KeptFile). f.overlaps) e;
  attributes = ap (λ (f : KeptFile). f.attributes) e;
  macros = ap (λ (f : KeptFile). f.macros) e;
}

-- where all lines of a text are read, the values show its file
pub shows-all : (text : List ℕ) (items : List (Bor (List ℕ))) (values : FileValue) (place : Place) (k : ℕ) → map (λ line. line.now) items ≡ lines text → length items ≤ k
    → grown_by (seen_file values) (lines_from (k + 1) place (map (λ line. line.now) (drop k items))) ≡ grown_by nothing_kept (lines_from 1 Before (map (λ line. line.now) items))
    → Shows values (file_of text)
unfolding file_of
shows-all text items values place k same done grows =
    let none : drop k items ≡ [] = drop_of_length-le items done in
    let old : seen_file values ≡ grown_by nothing_kept (lines_from 1 Before (map (λ line. line.now) items)) = rw none at grows in
    let new : seen_file values ≡ grown_by nothing_kept (file_lines text) = rw same at old in
    Shows-from values (file_of text) (new ∙ grown_by-is [] (file_lines text))
