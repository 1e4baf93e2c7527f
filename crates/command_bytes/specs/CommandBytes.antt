-- The bytes of commands, as entries hold them: a number, and the fields in order. Numbers have their low byte first.
use Rattle.std.specs.Prelude.{ℕ, List, [], ◌∷◌, ◌++◌, length, nat_lt, Option, Some, None, if◌then◌else◌}
use Rattle.std.specs.List.{flat_map}
use Rattle.mark_base.specs.declared.ann_id.AnnId.{AnnId}
use Rattle.mark_base.specs.declared.fragments.Frag.{Frag}
use Rattle.mark_base.specs.declared.named_args.NamedArg.{NamedArg}
use Rattle.entry_bytes.specs.Fields.{u32_bytes, text_bytes}
use Rattle.conf_model.specs.Configurations.{Configuration}
use Rattle.layer_model.specs.Classes.{letter_place}
use Rattle.layer_core.specs.declared.command.Command.{Command}
use Rattle.layer_core.specs.declared.command.Command.TheVariants as ask
use Rattle.ann_writer.specs.AnnOf.{ann_of}

-- a name: one byte of its length and its bytes; one of 255 bytes or more is a text behind the byte 255
abbrev pub name_bytes : List ℕ → List ℕ
name_bytes name = if nat_lt (length name) 255 then length name ∷ name else 255 ∷ text_bytes name

-- an ID: the place of its letter, and its number
abbrev pub id_bytes : AnnId → List ℕ
id_bytes id = letter_place id.kind ∷ u32_bytes id.number

-- a list: how many there are, and each
abbrev pub list_bytes : {X : Type 0} → (X → List ℕ) → List X → List ℕ
list_bytes each xs = u32_bytes (length xs) ++ flat_map each xs

-- a fragment: its start and its end
abbrev pub frag_bytes : Frag → List ℕ
frag_bytes frag = u32_bytes frag.start ++ u32_bytes frag.end

-- an argument: its role and its target
abbrev pub arg_bytes : NamedArg → List ℕ
arg_bytes arg = name_bytes arg.role ++ id_bytes arg.target

-- a value that may be absent: 0, or 1 and the value
abbrev pub value_bytes : Option (List ℕ) → List ℕ
value_bytes None = 0 ∷ []
value_bytes (Some value) = 1 ∷ name_bytes value

-- a command; a layer that is loaded stands as its .ann lines, for a configuration and the characters of a text
abbrev pub command_bytes : Configuration → List ℕ → Command → List ℕ
command_bytes conf text (ask.AddSpan kind frags) = 1 ∷ name_bytes kind ++ list_bytes frag_bytes frags
command_bytes conf text (ask.RetypeSpan id kind) = 2 ∷ id_bytes id ++ name_bytes kind
command_bytes conf text (ask.MoveSpan id frags) = 3 ∷ id_bytes id ++ list_bytes frag_bytes frags
command_bytes conf text (ask.AddEvent kind trigger args) = 4 ∷ name_bytes kind ++ id_bytes trigger ++ list_bytes arg_bytes args
command_bytes conf text (ask.AddArg id arg) = 5 ∷ id_bytes id ++ arg_bytes arg
command_bytes conf text (ask.RemoveArg id arg) = 6 ∷ id_bytes id ++ arg_bytes arg
command_bytes conf text (ask.AddRelation kind first second) = 7 ∷ name_bytes kind ++ id_bytes first ++ id_bytes second
command_bytes conf text (ask.SetAttribute kind target value) = 8 ∷ name_bytes kind ++ id_bytes target ++ value_bytes value
command_bytes conf text (ask.ClearAttribute id) = 9 ∷ id_bytes id
command_bytes conf text (ask.Equate kind members) = 10 ∷ name_bytes kind ++ list_bytes id_bytes members
command_bytes conf text (ask.Unequate kind id) = 11 ∷ name_bytes kind ++ id_bytes id
command_bytes conf text (ask.SetNote target kind note) = 12 ∷ id_bytes target ++ name_bytes kind ++ text_bytes note
command_bytes conf text (ask.SetReference target store entry shown) = 13 ∷ id_bytes target ++ text_bytes store ++ text_bytes entry ++ text_bytes shown
command_bytes conf text (ask.Delete id) = 14 ∷ id_bytes id
command_bytes conf text (ask.Purge id) = 15 ∷ id_bytes id
command_bytes conf text (ask.Load layer) = 16 ∷ text_bytes (ann_of conf text layer)

-- commands: how many there are, and each
unfoldable pub script_bytes : Configuration → List ℕ → List Command → List ℕ
script_bytes conf text commands = list_bytes (command_bytes conf text) commands

-- the commands done, and those undone
abbrev pub scripts_bytes : Configuration → List ℕ → List Command → List Command → List ℕ
scripts_bytes conf text done undone = script_bytes conf text done ++ script_bytes conf text undone
