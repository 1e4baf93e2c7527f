-- The layer that the lines of a file say, and the first fault of a file: of its bytes, of its lines, of the layer, and of its texts.
use Rattle.std.specs.Prelude.{ℕ, min, ◌+◌, ◌==◌, ◌&&◌, Bool, false, List, [], ◌∷◌, length, map, take, nat_lt, bytes_eq, count_by, find, chars, slice_get, Option, Some, None, option_map, option_and_then, if◌then◌else◌}
use Rattle.std.specs.Option.{option_or, option_map_or}
use Rattle.std.specs.List.{list_any, fold, common_prefix_len}
use Rattle.std.specs.Str.Lossy.{utf8_valid_len}
use Rattle.mark_base.specs.declared.ann_id.AnnId.{AnnId}
use Rattle.char_documents.specs.Texts.{all_lie_in, reference_text}
use Rattle.conf_model.specs.Configurations.{Configuration}
use Rattle.layer_model.specs.declared.class.Class.{Class}
use Rattle.layer_model.specs.declared.flaw.Flaw.{Flaw}
use Rattle.layer_model.specs.declared.flaw.FlawPlace.{FlawPlace}
use Rattle.layer_model.specs.declared.flaw.FlawPlace.TheVariants as at
use Rattle.layer_model.specs.declared.mark.Mark.{Mark}
use Rattle.layer_model.specs.Annotations.{Annotations, no_marks}
use Rattle.layer_model.specs.Classes.{is_among, joined}
use Rattle.layer_model.specs.Layers.{has, with_mark, with_classes}
use Rattle.layer_rules.specs.WellFormed.{least_flaw}
use Rattle.ann_reader.specs.declared.ann_fault.AnnWhat.TheVariants.{NotUtf8, WrongText, Broken}
use Rattle.ann_reader.specs.Lines.{Line, lines_of}
use Rattle.ann_reader.specs.LineForms.{Form, TextForm, form_of}
use Rattle.ann_reader.specs.LineIds.{own_id}
use Rattle.ann_reader.specs.LineMeanings.{Said, mark_of, said_of}
use Rattle.ann_reader.specs.LineFaults.{Fault, headed_by, first_line_fault}

-- ---- the layer

-- with an annotation more, where it can be read and its ID is free
abbrev pub with_read : Annotations → Option AnnId → Option Mark → Annotations
with_read layer (Some id) (Some mark) = if has layer id then layer else with_mark layer id mark
with_read layer _ _ = layer

-- with a class more, joined with those of the type that share a member
abbrev pub with_said : Annotations → Option Said → Annotations
with_said layer None = layer
with_said layer (Some said) = with_classes layer (joined (record { n = said.kind }) said.members layer.classes)

-- with what a line of a form says
abbrev pub with_form : Configuration → Annotations → Form → Annotations
with_form conf layer form = with_said (with_read layer (own_id form) (mark_of conf form)) (said_of conf form)

-- with what a line says
abbrev pub with_line : Configuration → Annotations → Line → Annotations
with_line conf layer line = with_form conf layer (form_of line.bytes)

-- the layer that lines say
abbrev pub layer_of : Configuration → List Line → Annotations
layer_of conf lines = fold (with_line conf) no_marks lines

-- ---- the line of a flaw

-- the line says that members of the class are one
abbrev pub brings_some : Class → Said → Bool
brings_some class said = said.kind == class.kind.n && list_any (λ id. is_among id class.members) said.members

-- a line says that members of the class are one
abbrev pub brings : Configuration → Class → Line → Bool
brings conf class line = option_map_or (brings_some class) (said_of conf (form_of line.bytes)) false

-- the line at which something of a layer stands: the first line of an ID, and of a class the first line that brings members of it
abbrev pub line_at : Configuration → List Line → Annotations → FlawPlace → Option Line
line_at conf lines layer (at.Mark id) = headed_by id lines
line_at conf lines layer (at.Class index) = option_and_then (λ class. find (brings conf class) lines) (slice_get layer.classes index)

-- the flaw of a layer as a fault of its line
abbrev pub flaw_fault : Configuration → List Line → Annotations → Flaw → Fault
flaw_fault conf lines layer flaw =
    record { line = option_map_or (λ line. line.number) (line_at conf lines layer flaw.at) 0; what = Broken flaw.rule }

-- the fault of the layer that lines say
abbrev pub layer_fault : Configuration → ℕ → List Line → Option Fault
layer_fault conf characters lines =
    let layer = layer_of conf lines in option_map (flaw_fault conf lines layer) (least_flaw conf characters layer)

-- ---- texts

-- a carriage return is read as a space
abbrev pub as_space : ℕ → ℕ
as_space c = if c == 13 then 32 else c

-- the first place at which two texts differ, the end of the shorter one where it is a front of the other; a place above 4,294,967,295 stands for that
abbrev pub differing : List ℕ → List ℕ → Option ℕ
differing a b = if bytes_eq a b then None else Some (min (common_prefix_len (λ x y. x == y) a b) 4294967295)

-- the first place, in characters, at which the text of a line is not the reference text of its fragments, which lie in the text
abbrev pub text_differs : List ℕ → Form → Option ℕ
text_differs text (TextForm _ _ frags shown) = if all_lie_in text frags then differing (map as_space (chars shown)) (reference_text text frags) else None
text_differs text _ = None

-- the fault of the text of a line
abbrev pub text_fault : List ℕ → Line → Option Fault
text_fault text line = option_map (λ place. record { line = line.number; what = WrongText place }) (text_differs text (form_of line.bytes))

-- the fault of the first of some lines whose text differs
abbrev pub first_text_fault : List ℕ → List Line → Option Fault
first_text_fault text [] = None
first_text_fault text (line ∷ more) = option_or (text_fault text line) (first_text_fault text more)

-- ---- all

-- the first fault of lines
abbrev pub lines_fault : Configuration → List ℕ → List Line → Option Fault
lines_fault conf text lines =
    option_or (first_line_fault conf lines [] lines) (option_or (layer_fault conf (length text) lines) (first_text_fault text lines))

-- the first fault of a file, for a configuration and the characters of a text
unfoldable pub ann_fault : Configuration → List ℕ → List ℕ → Option Fault
ann_fault conf text bytes =
    if nat_lt (utf8_valid_len bytes) (length bytes)
    then Some (record { line = count_by (λ b. b == 10) (take (utf8_valid_len bytes) bytes) + 1; what = NotUtf8 })
    else lines_fault conf text (lines_of bytes)
