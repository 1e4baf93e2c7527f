-- What the values of a command can be: each name is spelt as one, each text is one, and each number is in range.
use Rattle.std.specs.Prelude.{◌≡◌, ℕ, ◌<◌, ◌^◌, List, length, None, IfSome, IsUtf8, ⊤}
use Rattle.std.specs.List.{AllByRecursion}
use Rattle.mark_base.specs.declared.fragments.Frag.{Frag}
use Rattle.mark_base.specs.declared.named_args.NamedArg.{NamedArg}
use Rattle.mark_base.specs.Names.{name_fault}
use Rattle.layer_model.specs.Annotations.{Annotations}
use Rattle.layer_model.specs.Layers.{IsLayer}
use Rattle.layer_core.specs.declared.command.Command.{Command}
use Rattle.layer_core.specs.declared.command.Command.TheVariants as ask
use Rattle.ann_writer.specs.Writable.{HasTexts}

-- a layer of a program: its numbers are those of IDs, its classes stand in their order, and its texts are texts
pub record IsTypedLayer (layer : Annotations) : Type 0 where
  pub kept : IsLayer layer
  pub texts : HasTexts layer

-- a name of a type, a role or a value
pub record IsName (name : List ℕ) : Type 0 where
  pub utf8 : IsUtf8 name
  pub spelling : name_fault name ≡ None

-- a fragment
pub record IsFrag (frag : Frag) : Type 0 where
  pub start : frag.start < 2 ^ 32
  pub end : frag.end < 2 ^ 32

-- a list of fragments
abbrev pub AreFrags : List Frag → Type 0
AreFrags frags = (length frags < 2 ^ 32) × AllByRecursion IsFrag frags

-- the arguments of an event, by the names of their roles
abbrev pub AreArgs : List NamedArg → Type 0
AreArgs args = (length args < 2 ^ 32) × AllByRecursion (λ arg. IsName arg.role) args

-- a command
abbrev pub IsCommand : Command → Type 0
IsCommand (ask.AddSpan kind frags) = IsName kind × AreFrags frags
IsCommand (ask.RetypeSpan id kind) = IsName kind
IsCommand (ask.MoveSpan id frags) = AreFrags frags
IsCommand (ask.AddEvent kind trigger args) = IsName kind × AreArgs args
IsCommand (ask.AddArg id arg) = IsName arg.role
IsCommand (ask.RemoveArg id arg) = IsName arg.role
IsCommand (ask.AddRelation kind first second) = IsName kind
IsCommand (ask.SetAttribute kind target value) = IsName kind × IfSome value IsName
IsCommand (ask.ClearAttribute id) = ⊤
IsCommand (ask.Equate kind members) = IsName kind × (length members < 2 ^ 32)
IsCommand (ask.Unequate kind id) = IsName kind
IsCommand (ask.SetNote target kind text) = IsName kind × IsUtf8 text
IsCommand (ask.SetReference target store entry text) = IsUtf8 store × IsUtf8 entry × IsUtf8 text
IsCommand (ask.Delete id) = ⊤
IsCommand (ask.Purge id) = ⊤
IsCommand (ask.Load layer) = IsTypedLayer layer

-- commands
abbrev pub AreCommands : List Command → Type 0
AreCommands commands = AllByRecursion IsCommand commands
