-- Reading commands from left to right: each field is a value and the bytes behind it.
use Rattle.std.specs.Prelude.{◌≡◌, ℕ, zero, suc, ◌==◌, ◌&&◌, Bool, List, [], ◌∷◌, length, nat_lt, bytes_eq, Option, Some, None, is_none, option_map, option_and_then, if◌then◌else◌, Result, IfOk}
use Rattle.std.specs.Str.{is_utf8}
use Rattle.mark_base.specs.declared.failed.Memory.{Memory}
use Rattle.mark_base.specs.declared.ann_id.AnnId.{AnnId}
use Rattle.mark_base.specs.declared.ann_id.Kind.{Kind}
use Rattle.mark_base.specs.declared.ann_id.Kind.TheVariants as letter
use Rattle.mark_base.specs.declared.fragments.Frag.{Frag}
use Rattle.mark_base.specs.declared.named_args.NamedArg.{NamedArg}
use Rattle.mark_base.specs.Names.{name_fault}
use Rattle.mark_base.specs.ReadIds.{id_at}
use Rattle.entry_bytes.specs.Reading.{◌&◌, made, passing, front_at, byte_at, flag_at, u32_at, text_at}
use Rattle.conf_model.specs.Configurations.{Configuration}
use Rattle.layer_model.specs.Annotations.{Annotations}
use Rattle.layer_core.specs.declared.command.Command.{Command}
use Rattle.layer_core.specs.declared.command.Command.TheVariants as ask
use Rattle.ann_reader.specs.Lines.{lines_of}
use Rattle.ann_reader.specs.AnnFaults.{ann_fault, layer_of}
use Rattle.ann_writer.specs.AnnOf.{ann_of}

-- ---- the fields of commands

-- a field that is read as a value, where it spells one
abbrev pub read_as : {A B : Type 0} → (A → Option B) → (List ℕ → Option (A × List ℕ)) → List ℕ → Option (B × List ℕ)
read_as of field bytes = option_and_then (λ x. option_map (λ value. (value, x.1)) (of x.0)) (field bytes)

-- whether bytes are the spelling of a name
abbrev pub is_name : List ℕ → Bool
is_name bytes = is_utf8 bytes && is_none (name_fault bytes)

-- bytes behind the four bytes of their number, which is 255 or more
unfoldable pub long_at : List ℕ → Option (List ℕ × List ℕ)
long_at bytes = option_and_then (λ n. front_at n.0 n.1) (passing (λ n. nat_lt 254 n) u32_at bytes)

-- so many bytes; 255 says that their number follows
unfoldable pub spelling_at : ℕ → List ℕ → Option (List ℕ × List ℕ)
spelling_at count bytes = if count == 255 then long_at bytes else front_at count bytes

-- a name behind the byte of its length
unfoldable pub name_at : List ℕ → Option (List ℕ × List ℕ)
name_at bytes = option_and_then (λ n. passing is_name (spelling_at n.0) n.1) (byte_at bytes)

-- the letter of a place among T, E, R, A, M, N and #
abbrev pub letter_at : ℕ → Option Kind
letter_at place =
    if place == 0 then Some letter.Text
    else if place == 1 then Some letter.Event
    else if place == 2 then Some letter.Relation
    else if place == 3 then Some letter.Attribute
    else if place == 4 then Some letter.Legacy
    else if place == 5 then Some letter.Normal
    else if place == 6 then Some letter.Note
    else None

-- the ID of a letter's place and a number, which is at most 999,999,999
abbrev pub id_of : ℕ × ℕ → Option AnnId
id_of parts = option_and_then (λ kind. if nat_lt 999999999 parts.1 then None else Some (id_at kind parts.1)) (letter_at parts.0)

-- an ID
unfoldable pub ann_id_at : List ℕ → Option (AnnId × List ℕ)
ann_id_at bytes = read_as id_of (byte_at & u32_at) bytes

-- the fragment of a start and an end
abbrev pub frag_of : ℕ × ℕ → Frag
frag_of ends = record { start = ends.0; end = ends.1 }

-- a fragment
unfoldable pub frag_at : List ℕ → Option (Frag × List ℕ)
frag_at bytes = made frag_of (u32_at & u32_at) bytes

-- the argument of a role and a target
abbrev pub arg_of : List ℕ × AnnId → NamedArg
arg_of parts = record { role = parts.0; target = parts.1 }

-- an argument
unfoldable pub arg_at : List ℕ → Option (NamedArg × List ℕ)
arg_at bytes = made arg_of (name_at & ann_id_at) bytes

-- so many values, one behind the other
unfoldable pub list_on : {A : Type 0} → (List ℕ → Option (A × List ℕ)) → ℕ → List ℕ → Option (List A × List ℕ)
list_on each zero bytes = Some ([], bytes)
list_on each (suc n) bytes = option_and_then (λ x. option_map (λ y. (x.0 ∷ y.0, y.1)) (list_on each n x.1)) (each bytes)

-- values behind their number
unfoldable pub list_at : {A : Type 0} → (List ℕ → Option (A × List ℕ)) → List ℕ → Option (List A × List ℕ)
list_at each bytes = option_and_then (λ n. list_on each n.0 n.1) (u32_at bytes)

-- a value behind 1, and none behind 0
unfoldable pub value_at : List ℕ → Option (Option (List ℕ) × List ℕ)
value_at bytes = option_and_then (λ given. if given.0 then made Some name_at given.1 else Some (None, given.1)) (flag_at bytes)

-- ---- commands

-- a span that is added
unfoldable pub add_span_at : List ℕ → Option (Command × List ℕ)
add_span_at bytes = made (λ x. ask.AddSpan x.0 x.1) (name_at & list_at frag_at) bytes

-- another type for a span
unfoldable pub retype_span_at : List ℕ → Option (Command × List ℕ)
retype_span_at bytes = made (λ x. ask.RetypeSpan x.0 x.1) (ann_id_at & name_at) bytes

-- other fragments for a span
unfoldable pub move_span_at : List ℕ → Option (Command × List ℕ)
move_span_at bytes = made (λ x. ask.MoveSpan x.0 x.1) (ann_id_at & list_at frag_at) bytes

-- an event that is added
unfoldable pub add_event_at : List ℕ → Option (Command × List ℕ)
add_event_at bytes = made (λ x. ask.AddEvent x.0.0 x.0.1 x.1) (name_at & ann_id_at & list_at arg_at) bytes

-- an argument that is added
unfoldable pub add_arg_at : List ℕ → Option (Command × List ℕ)
add_arg_at bytes = made (λ x. ask.AddArg x.0 x.1) (ann_id_at & arg_at) bytes

-- an argument that is taken out
unfoldable pub remove_arg_at : List ℕ → Option (Command × List ℕ)
remove_arg_at bytes = made (λ x. ask.RemoveArg x.0 x.1) (ann_id_at & arg_at) bytes

-- a relation that is added
unfoldable pub add_relation_at : List ℕ → Option (Command × List ℕ)
add_relation_at bytes = made (λ x. ask.AddRelation x.0.0 x.0.1 x.1) (name_at & ann_id_at & ann_id_at) bytes

-- an attribute that is set
unfoldable pub set_attribute_at : List ℕ → Option (Command × List ℕ)
set_attribute_at bytes = made (λ x. ask.SetAttribute x.0.0 x.0.1 x.1) (name_at & ann_id_at & value_at) bytes

-- an attribute that is taken away
unfoldable pub clear_attribute_at : List ℕ → Option (Command × List ℕ)
clear_attribute_at bytes = made ask.ClearAttribute ann_id_at bytes

-- spans that are one class
unfoldable pub equate_at : List ℕ → Option (Command × List ℕ)
equate_at bytes = made (λ x. ask.Equate x.0 x.1) (name_at & list_at ann_id_at) bytes

-- a span that is taken out of its class
unfoldable pub unequate_at : List ℕ → Option (Command × List ℕ)
unequate_at bytes = made (λ x. ask.Unequate x.0 x.1) (name_at & ann_id_at) bytes

-- a note that is set
unfoldable pub set_note_at : List ℕ → Option (Command × List ℕ)
set_note_at bytes = made (λ x. ask.SetNote x.0.0 x.0.1 x.1) (ann_id_at & name_at & text_at) bytes

-- a reference that is set
unfoldable pub set_reference_at : List ℕ → Option (Command × List ℕ)
set_reference_at bytes = made (λ x. ask.SetReference x.0.0.0 x.0.0.1 x.0.1 x.1) (ann_id_at & text_at & text_at & text_at) bytes

-- an annotation that is taken away
unfoldable pub delete_at : List ℕ → Option (Command × List ℕ)
delete_at bytes = made ask.Delete ann_id_at bytes

-- an annotation that is taken away with all that names it
unfoldable pub purge_at : List ℕ → Option (Command × List ℕ)
purge_at bytes = made ask.Purge ann_id_at bytes

-- the fields behind the number of a command that is no load
unfoldable pub plain_at : ℕ → List ℕ → Option (Command × List ℕ)
plain_at number bytes =
    if number == 1 then add_span_at bytes
    else if number == 2 then retype_span_at bytes
    else if number == 3 then move_span_at bytes
    else if number == 4 then add_event_at bytes
    else if number == 5 then add_arg_at bytes
    else if number == 6 then remove_arg_at bytes
    else if number == 7 then add_relation_at bytes
    else if number == 8 then set_attribute_at bytes
    else if number == 9 then clear_attribute_at bytes
    else if number == 10 then equate_at bytes
    else if number == 11 then unequate_at bytes
    else if number == 12 then set_note_at bytes
    else if number == 13 then set_reference_at bytes
    else if number == 14 then delete_at bytes
    else if number == 15 then purge_at bytes
    else None

-- the layer of .ann lines, for a configuration and the characters of a text: they are at most 16,777,216 bytes, they are read without a fault, and writing it again gives the same lines
unfoldable pub layer_in : Configuration → List ℕ → List ℕ → Option Annotations
layer_in conf text lines =
    let layer = layer_of conf (lines_of lines) in
    if nat_lt 16777216 (length lines) then None
    else if is_none (ann_fault conf text lines) && bytes_eq (ann_of conf text layer) lines then Some layer
    else None

-- a layer that is loaded
unfoldable pub load_at : Configuration → List ℕ → List ℕ → Option (Command × List ℕ)
load_at conf text bytes = made ask.Load (read_as (layer_in conf text) text_at) bytes

-- the fields behind the number of a command
unfoldable pub command_fields_at : Configuration → List ℕ → ℕ → List ℕ → Option (Command × List ℕ)
command_fields_at conf text number bytes = if number == 16 then load_at conf text bytes else plain_at number bytes

-- a command behind its number
unfoldable pub command_at : Configuration → List ℕ → List ℕ → Option (Command × List ℕ)
command_at conf text bytes = option_and_then (λ number. command_fields_at conf text number.0 number.1) (byte_at bytes)

-- two scripts: the commands done, and those undone
unfoldable pub scripts_at : Configuration → List ℕ → List ℕ → Option ((List Command × List Command) × List ℕ)
scripts_at conf text bytes = (list_at (command_at conf text) & list_at (command_at conf text)) bytes

-- two scripts with no byte behind them
abbrev pub scripts_alone : (List Command × List Command) × List ℕ → Option (List Command × List Command)
scripts_alone read = if length read.1 == 0 then Some read.0 else None

-- the two scripts that bytes are
unfoldable pub scripts_of : Configuration → List ℕ → List ℕ → Option (List Command × List Command)
scripts_of conf text bytes = option_and_then scripts_alone (scripts_at conf text bytes)

-- what a reader of commands answers, unless memory runs out, and where it leaves the bytes
abbrev pub ReadsCommand : (List ℕ → Option (Command × List ℕ)) → List ℕ → List ℕ → Result (Option Command) Memory → Type 0
ReadsCommand fields old new result = IfOk result (λ found. fields old ≡ option_map (λ command. (command, new)) found)
