-- What the lines of a file say is a layer, and a file without a fault is one of that layer.
use Rattle.std.proofs.Common.{◌≡◌, ℕ, ◌+◌, ◌<◌, ◌≤◌, zero, suc, Bool, true, false, List, [], ◌∷◌, length, take, nat_lt, refl, sym, ◌∙◌, ap, subst, Option, Some, None, cond, count_by, ◌==◌, IsUtf8, arith}
use Rattle.std.specs.Str.{is_utf8}
use Rattle.std.specs.Str.Lossy.{utf8_valid_len, valid_len_up_to}
use Rattle.std.specs.List.{fold}
use Rattle.std.proofs.lemmas.Bool.{ltb-false}
use Rattle.std.proofs.lemmas.Str.{IsUtf8-from_is_utf8, IsUtf8-nil}
use Rattle.conf_model.specs.Configurations.{Configuration}
use Rattle.layer_model.specs.Annotations.{Annotations, no_marks}
use Rattle.layer_model.specs.Classes.{IsClassList}
use Rattle.layer_model.specs.Layers.{IsLayer}
use Rattle.layer_model.proofs.ClassJoin.{joined_kept}
use Rattle.ann_reader.specs.declared.ann_fault.AnnWhat.TheVariants.{NotUtf8}
use Rattle.ann_reader.specs.Lines.{Line, lines_of}
use Rattle.ann_reader.specs.LineForms.{form_of}
use Rattle.ann_reader.specs.LineIds.{own_id}
use Rattle.ann_reader.specs.LineMeanings.{Said, mark_of as mark_said, said_of}
use Rattle.ann_reader.specs.AnnFaults.{with_read, with_said, with_line, layer_of, ann_fault, lines_fault}
use Rattle.ann_reader.specs.AnnFiles.{IsAnn}
use Rattle.ann_reader.proofs.AnswerLemmas.{lines_few, text_faulty}
use Rattle.ann_reader.proofs.ClassLemmas.{form_len, form_some}
use Rattle.ann_reader.proofs.CleanLemmas.{not_some}
use Rattle.ann_reader.proofs.FileLemmas.{read_file}
use Rattle.ann_reader.proofs.FormFacts.{names_some}
use Rattle.ann_reader.proofs.SaidLemmas.{read_classes}
use Rattle.ann_reader.proofs.SameLayer.{is_layer}

-- ---- classes

-- one line more
line_kept : (conf : Configuration) (l : Annotations) (line : Line) → length l.classes < 4294967295 → IsClassList l.classes → IsClassList (with_line conf l line).classes
line_kept conf l line few all = pick (said_of conf (form_of line.bytes)) refl
  where
    pick : (said : Option Said) → said_of conf (form_of line.bytes) ≡ said → IsClassList (with_said (with_read l (own_id (form_of line.bytes)) (mark_said conf (form_of line.bytes))) said).classes
    pick None e = subst IsClassList (sym (read_classes l (own_id (form_of line.bytes)) (mark_said conf (form_of line.bytes)))) all
    pick (Some said) e =
        let same = read_classes l (own_id (form_of line.bytes)) (mark_said conf (form_of line.bytes)) in
        let count : length (with_read l (own_id (form_of line.bytes)) (mark_said conf (form_of line.bytes))).classes ≡ length l.classes = ap length same in
        joined_kept (record { n = said.kind }) said.members (with_read l (own_id (form_of line.bytes)) (mark_said conf (form_of line.bytes))).classes
        (form_some conf (form_of line.bytes) said (names_some line.bytes) e) (omega arith) (subst IsClassList (sym same) all)

lines_kept : (conf : Configuration) (l : Annotations) (lines : List Line) → length l.classes + length lines ≤ 4294967295 → IsClassList l.classes → IsClassList (fold (with_line conf) l lines).classes
lines_kept conf l [] few all = all
lines_kept conf l (line ∷ lines) few all =
    let more : length (with_line conf l line).classes ≤ length l.classes + 1 = form_len conf l (form_of line.bytes) in
    lines_kept conf (with_line conf l line) lines (omega arith) (line_kept conf l line (omega arith) all)

-- the lines of a file that may be read say a layer
pub whole_layer : (conf : Configuration) (bytes : List ℕ) → length bytes ≤ 16777216 → IsLayer (layer_of conf (lines_of bytes))
whole_layer conf bytes short =
    let few : length (lines_of bytes) ≤ length bytes + 1 = lines_few bytes in
    is_layer conf (lines_of bytes) (lines_kept conf no_marks (lines_of bytes) (omega arith) (record { few = omega arith; ordered = tt }))

-- ---- bytes

valid_low : (bytes : List ℕ) (n : ℕ) → valid_len_up_to bytes n ≤ n
valid_low bytes zero = omega arith
valid_low bytes (suc n) =
    let low : valid_len_up_to bytes n ≤ n = valid_low bytes n in
    elim (is_utf8 (take (suc n) bytes)) as (λ b. cond b (suc n) (valid_len_up_to bytes n) ≤ suc n) [ true ↦ omega arith | false ↦ omega arith ]

take_all : (bytes : List ℕ) → take (length bytes) bytes ≡ bytes
take_all [] = refl
take_all (b ∷ bytes) = ap (λ r. b ∷ r) (take_all bytes)

-- bytes of which none is left out are a text
valid_whole : (bytes : List ℕ) → length bytes ≤ utf8_valid_len bytes → IsUtf8 bytes
unfolding utf8_valid_len
valid_whole [] h = IsUtf8-nil
valid_whole (b ∷ bytes) h = pick (is_utf8 (b ∷ take (length bytes) bytes)) refl h
  where
    pick : (s : Bool) → is_utf8 (b ∷ take (length bytes) bytes) ≡ s → suc (length bytes) ≤ cond s (suc (length bytes)) (valid_len_up_to (b ∷ bytes) (length bytes)) → IsUtf8 (b ∷ bytes)
    pick true e h = IsUtf8-from_is_utf8 (b ∷ bytes) (ap (λ r. is_utf8 (b ∷ r)) (sym (take_all bytes)) ∙ e)
    pick false e h = let low : valid_len_up_to (b ∷ bytes) (length bytes) ≤ length bytes = valid_low (b ∷ bytes) (length bytes) in absurd (omega arith)

faultless_text : (conf : Configuration) (text bytes : List ℕ) → ann_fault conf text bytes ≡ None → IsUtf8 bytes
unfolding ann_fault
faultless_text conf text bytes e = pick (nat_lt (utf8_valid_len bytes) (length bytes)) refl e
  where
    pick : (s : Bool) → nat_lt (utf8_valid_len bytes) (length bytes) ≡ s → cond s (Some (record { line = count_by (λ b. b == 10) (take (utf8_valid_len bytes) bytes) + 1; what = NotUtf8 })) (lines_fault conf text (lines_of bytes)) ≡ None → IsUtf8 bytes
    pick true f g = absurd (not_some g)
    pick false f g = valid_whole bytes (ltb-false (utf8_valid_len bytes) (length bytes) f)

-- a file without a fault is one of the layer that its lines say
pub faultless_file : (conf : Configuration) (text bytes : List ℕ) → ann_fault conf text bytes ≡ None → IsAnn conf text bytes (layer_of conf (lines_of bytes))
faultless_file conf text bytes e =
    let valid = faultless_text conf text bytes e in
    read_file conf text bytes valid (text_faulty conf text bytes valid ∙ e)
