-- What a text answers by the fault that was found, and how many lines it has.
use Rattle.std.proofs.Common.{◌≡◌, ℕ, ◌+◌, ◌<◌, ◌≤◌, ◌==◌, suc, cond, List, [], ◌∷◌, Some, None, Ok, Err, length, take, map, nat_lt, count_by, IsUtf8, refl, sym, ◌∙◌, ap, arith}
use Rattle.std.specs.Option.{option_or}
use Rattle.std.specs.List.{list_any}
use Rattle.std.specs.Str.Lines.{lines}
use Rattle.std.specs.Str.Lossy.{utf8_valid_len}
use Rattle.std.proofs.lemmas.Str.{utf8_valid_len-IsUtf8}
use Rattle.std.proofs.lemmas.Bool.{cond-true, cond-false, lt-ltb, le-ltb}
use Rattle.std.proofs.lemmas.List.{length-map}
use Rattle.conf_model.specs.declared.conf_fault.ConfWhat.TheVariants.{NotUtf8, SectionMissing}
use Rattle.annotation_conf.specs.declared.faults.LineFault.{LineFault}
use Rattle.annotation_conf.specs.declared.line.Line.{Line as LineValue}
use Rattle.conf_model.specs.ConfLines.{Line, Place, Before, lines_from, Entities}
use Rattle.conf_model.specs.ConfFaults.{is_header}
use Rattle.conf_model.specs.ConfNames.{File, file_of}
use Rattle.conf_model.specs.ConfOf.{missing_fault, answer_of, conf_of, configuration_of}
use Rattle.annotation_conf.specs.FirstFaults.{soonest_fault}
use Rattle.annotation_conf.specs.FileKept.{kept_line}
use Rattle.annotation_conf.specs.FileShows.{seen_line}
use Rattle.annotation_conf.specs.FaultsFirst.{seen_fault, missing_told}
use Rattle.annotation_conf.proofs.FaultParts.{soonest_is}
use Rattle.annotation_conf.proofs.FaultFirsts.{entities_opened}
use Rattle.annotation_conf.proofs.FileShown.{lines-few}

-- a text answers by its first fault, list by list
pub text_answer : (text : List ℕ) → IsUtf8 text → conf_of text ≡ answer_of (file_of text) (option_or (soonest_fault (file_of text)) (missing_fault (file_of text)))
unfolding conf_of
text_answer text valid =
    cond-false (nat_lt (utf8_valid_len text) (length text)) _ _ (le-ltb (utf8_valid_len text) (length text) (omega (arith, utf8_valid_len-IsUtf8 text valid)))
    ∙ ap (λ o. answer_of (file_of text) (option_or o (missing_fault (file_of text)))) (sym (soonest_is text))

pub text_faulty : (text : List ℕ) (file : File) (fault : LineFault) → IsUtf8 text → file ≡ file_of text
    → Some (seen_fault fault) ≡ option_or (soonest_fault file) (missing_fault file) → conf_of text ≡ Err (record { line = fault.line; what = fault.what })
text_faulty text file fault valid same told =
    text_answer text valid ∙ ap (λ (f : File). answer_of (file_of text) (option_or (soonest_fault f) (missing_fault f))) (sym same)
    ∙ ap (answer_of (file_of text)) (sym told)

pub text_faultless : (text : List ℕ) (file : File) → IsUtf8 text → file ≡ file_of text
    → None ≡ option_or (soonest_fault file) (missing_fault file) → conf_of text ≡ Ok (configuration_of file)
text_faultless text file valid same told =
    text_answer text valid ∙ ap (λ (f : File). answer_of (file_of text) (option_or (soonest_fault f) (missing_fault f))) (sym same)
    ∙ ap (answer_of (file_of text)) (sym told) ∙ ap (λ (f : File). Ok (configuration_of f)) (sym same)

-- bytes that are no text
pub bytes_faulty : (bytes : List ℕ) (valid count : ℕ) → valid ≡ utf8_valid_len bytes → valid < length bytes → count ≡ count_by (λ b. b == 10) (take valid bytes)
    → conf_of bytes ≡ Err (record { line = count + 1; what = NotUtf8 })
unfolding conf_of
bytes_faulty bytes valid count same less counted =
    cond-true (nat_lt (utf8_valid_len bytes) (length bytes)) _ _ (lt-ltb (utf8_valid_len bytes) (length bytes) (omega (arith, same)))
    ∙ ap (λ n. Err (record { line = count_by (λ b. b == 10) (take n bytes) + 1; what = NotUtf8 })) (sym same)
    ∙ ap (λ n. Err (record { line = n + 1; what = NotUtf8 })) (sym counted)

-- a file has as many lines as its text
length_lines : (number : ℕ) (place : Place) (all : List (List ℕ)) → length (lines_from number place all) ≡ length all
length_lines number place [] = refl
length_lines number place (bytes ∷ all) = ap suc (length_lines (number + 1) _ all)

pub few_lines : (text : List ℕ) → length text ≤ 4194304 → length (file_of text).lines < 4294967295
unfolding file_of
few_lines text short = let size : length (lines_from 1 Before (lines text)) ≡ length (lines text) = length_lines 1 Before (lines text) in omega (arith, size, lines-few text)

pub missing_is : (values : List LineValue) (file : File) → map seen_line values ≡ map kept_line file.lines → missing_told values ≡ missing_fault file
missing_is values file shown =
    let size : length values ≡ length file.lines = sym (length-map values seen_line) ∙ ap length shown ∙ length-map file.lines kept_line in
    ap (λ b. cond b None (Some (record { line = length values + 1; what = SectionMissing }))) (entities_opened file.lines values shown)
    ∙ ap (λ n. cond (list_any (λ (l : Line). is_header Entities l.kind) file.lines) None (Some (record { line = n + 1; what = SectionMissing }))) size
