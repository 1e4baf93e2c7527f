-- What the reader answers of a file, and how many lines it has.
use Rattle.std.proofs.Common.{◌≡◌, ℕ, ◌+◌, ◌<◌, ◌≤◌, ◌==◌, true, false, cond, List, [], ◌∷◌, Option, Some, None, Result, Ok, Err, IfOk, IfErr, OnOk, length, take, nat_lt, count_by, IsUtf8, sym, ◌∙◌, ap, subst, arith}
use Rattle.std.specs.List.{slice_split}
use Rattle.std.specs.Option.{option_or}
use Rattle.std.specs.Str.Lossy.{utf8_valid_len}
use Rattle.std.proofs.lemmas.Str.{utf8_valid_len-IsUtf8}
use Rattle.std.proofs.lemmas.Bool.{cond-true, cond-false, lt-ltb, le-ltb}
use Rattle.std.proofs.lemmas.List.Splits.{length-slice_split}
use Rattle.std.proofs.lemmas.List.Sums.{count_by-le-length}
use Rattle.conf_model.specs.Configurations.{Configuration}
use Rattle.layer_model.specs.Annotations.{Annotations}
use Rattle.ann_reader.specs.declared.ann_fault.AnnFault.{AnnFault}
use Rattle.ann_reader.specs.declared.ann_fault.AnnFault.TheVariants.{At, Memory}
use Rattle.ann_reader.specs.declared.ann_fault.AnnWhat.TheVariants.{NotUtf8}
use Rattle.ann_reader.specs.Lines.{Line, is_blank, lines_from, lines_of}
use Rattle.ann_reader.specs.declared.reader.Fault.{Fault as FaultValue}
use Rattle.ann_reader.specs.FaultShows.{seen_fault}
use Rattle.ann_reader.specs.LineFaults.{Fault, first_line_fault}
use Rattle.ann_reader.specs.AnnFaults.{ann_fault, lines_fault, layer_fault, first_text_fault, layer_of}
use Rattle.ann_reader.specs.AnnFiles.{IsAnn}
use Rattle.ann_reader.specs.ReadFaults.{Tells, IsFault}
use Rattle.ann_reader.proofs.FileLemmas.{read_file}

-- ---- the count of lines

from_few : (number : ℕ) (pieces : List (List ℕ)) → length (lines_from number pieces) ≤ length pieces
from_few number [] = omega arith
from_few number (bytes ∷ more) =
    let few : length (lines_from (number + 1) more) ≤ length more = from_few (number + 1) more in
    elim (is_blank bytes) as (λ b. length (cond b (lines_from (number + 1) more) (record { number = number; bytes = bytes } ∷ lines_from (number + 1) more)) ≤ length (bytes ∷ more)) [
      | true ↦ omega arith
      | false ↦ omega arith
    ]

-- a file has at most one line more than bytes
pub lines_few : (bytes : List ℕ) → length (lines_of bytes) ≤ length bytes + 1
unfolding lines_of
lines_few bytes =
    let a : length (lines_from 1 (slice_split (λ b. b == 10) bytes)) ≤ length (slice_split (λ b. b == 10) bytes) = from_few 1 (slice_split (λ b. b == 10) bytes) in
    let b : length (slice_split (λ b. b == 10) bytes) ≡ count_by (λ b. b == 10) bytes + 1 = length-slice_split (λ b. b == 10) bytes in
    let c : count_by (λ b. b == 10) bytes ≤ length bytes = count_by-le-length (λ b. b == 10) bytes in
    omega arith

-- ---- answers

-- bytes that are no text
pub bytes_faulty : (conf : Configuration) (text bytes : List ℕ) (valid count : ℕ) → valid ≡ utf8_valid_len bytes → valid < length bytes → count ≡ count_by (λ b. b == 10) (take valid bytes)
    → ann_fault conf text bytes ≡ Some (record { line = count + 1; what = NotUtf8 })
unfolding ann_fault
bytes_faulty conf text bytes valid count same less counted =
    cond-true (nat_lt (utf8_valid_len bytes) (length bytes)) _ _ (lt-ltb (utf8_valid_len bytes) (length bytes) (omega (arith, same)))
    ∙ ap (λ n. Some (record { line = count_by (λ b. b == 10) (take n bytes) + 1; what = NotUtf8 })) (sym same)
    ∙ ap (λ n. Some (record { line = n + 1; what = NotUtf8 })) (sym counted)

-- bytes that are a text
pub text_faulty : (conf : Configuration) (text bytes : List ℕ) → IsUtf8 bytes → lines_fault conf text (lines_of bytes) ≡ ann_fault conf text bytes
unfolding ann_fault
text_faulty conf text bytes valid =
    sym (cond-false (nat_lt (utf8_valid_len bytes) (length bytes)) _ _ (le-ltb (utf8_valid_len bytes) (length bytes) (omega (arith, utf8_valid_len-IsUtf8 bytes valid))))

-- a refusal of a text is one of the file
pub text_told : (conf : Configuration) (text bytes : List ℕ) (fault : AnnFault) → IsUtf8 bytes → Tells (lines_fault conf text (lines_of bytes)) fault → IsFault conf text bytes fault
text_told conf text bytes fault valid told = subst (λ f. Tells f fault) (text_faulty conf text bytes valid) told

-- a layer that is read is that of the file
pub text_read : (conf : Configuration) (text bytes : List ℕ) (layer : Annotations) → IsUtf8 bytes → lines_fault conf text (lines_of bytes) ≡ None
    → layer ≡ layer_of conf (lines_of bytes) → IsAnn conf text bytes layer
text_read conf text bytes layer valid clean same = subst (IsAnn conf text bytes) (sym same) (read_file conf text bytes valid clean)

-- what is answered of a text is answered of its bytes
pub answer_read : (conf : Configuration) (text bytes : List ℕ) (answer : Result Annotations AnnFault) → IsUtf8 bytes → OnOk answer (lines_fault conf text (lines_of bytes) ≡ None)
    → IfOk answer (λ layer. layer ≡ layer_of conf (lines_of bytes)) → IfOk answer (IsAnn conf text bytes)
answer_read conf text bytes (Ok layer) valid clean same = text_read conf text bytes layer valid clean same
answer_read conf text bytes (Err fault) valid clean same = tt

pub answer_told : (conf : Configuration) (text bytes : List ℕ) (answer : Result Annotations AnnFault) → IsUtf8 bytes → IfErr answer (Tells (lines_fault conf text (lines_of bytes)))
    → IfErr answer (IsFault conf text bytes)
answer_told conf text bytes (Ok layer) valid told = tt
answer_told conf text bytes (Err fault) valid told = text_told conf text bytes fault valid told

-- ---- one phase after the other

-- an earlier phase refuses
pub first_told : (a b : Option Fault) (fault : FaultValue) (answer : AnnFault) → Some (seen_fault fault) ≡ a → answer ≡ At fault.line fault.what → Tells (option_or a b) answer
first_told a b fault answer e same = subst (Tells (option_or a b)) (sym same) (ap (λ o. option_or o b) (sym e))

pub first_refused : (a b : Option Fault) (answer : AnnFault) → Tells a answer → Tells (option_or a b) answer
first_refused a b (At line what) e = ap (λ o. option_or o b) e
first_refused a b Memory e = tt

-- a later phase refuses
pub later_told : (a b : Option Fault) (fault : FaultValue) (answer : AnnFault) → None ≡ a → Some (seen_fault fault) ≡ b → answer ≡ At fault.line fault.what → Tells (option_or a b) answer
later_told a b fault answer none e same = subst (Tells (option_or a b)) (sym same) (ap (λ o. option_or o b) (sym none) ∙ sym e)

-- no phase refuses
pub none_told : (a b : Option Fault) → None ≡ a → None ≡ b → option_or a b ≡ None
none_told a b first second = ap (λ o. option_or o b) (sym first) ∙ sym second

-- the lines of a text are at fault
pub lines_refused : (conf : Configuration) (text : List ℕ) (known lines : List Line) (answer : AnnFault) → known ≡ lines
    → Tells (first_line_fault conf known [] known) answer → Tells (lines_fault conf text lines) answer
lines_refused conf text known lines answer same told =
    subst (λ ls. Tells (lines_fault conf text ls) answer) same
    (first_refused (first_line_fault conf known [] known) (option_or (layer_fault conf (length text) known) (first_text_fault text known)) answer told)

-- lines without a fault of their own: their layer or a text is at fault, or none
pub rest_told : (conf : Configuration) (text : List ℕ) (known lines : List Line) (answer : Result Annotations AnnFault) → known ≡ lines → None ≡ first_line_fault conf known [] known
    → IfErr answer (Tells (option_or (layer_fault conf (length text) known) (first_text_fault text known))) → IfErr answer (Tells (lines_fault conf text lines))
rest_told conf text known lines answer same none told =
    subst (λ ls. IfErr answer (Tells (lines_fault conf text ls))) same
    (subst (λ o. IfErr answer (Tells (option_or o (option_or (layer_fault conf (length text) known) (first_text_fault text known))))) none told)

pub rest_clean : (conf : Configuration) (text : List ℕ) (known lines : List Line) (answer : Result Annotations AnnFault) → known ≡ lines → None ≡ first_line_fault conf known [] known
    → OnOk answer (option_or (layer_fault conf (length text) known) (first_text_fault text known) ≡ None) → OnOk answer (lines_fault conf text lines ≡ None)
rest_clean conf text known lines answer same none clean =
    subst (λ ls. OnOk answer (lines_fault conf text ls ≡ None)) same
    (subst (λ o. OnOk answer (option_or o (option_or (layer_fault conf (length text) known) (first_text_fault text known)) ≡ None)) none clean)

pub rest_read : (conf : Configuration) (known lines : List Line) (answer : Result Annotations AnnFault) → known ≡ lines
    → IfOk answer (λ layer. layer ≡ layer_of conf known) → IfOk answer (λ layer. layer ≡ layer_of conf lines)
rest_read conf known lines answer same read = subst (λ ls. IfOk answer (λ layer. layer ≡ layer_of conf ls)) same read
