-- Which commands can be written as bytes, and what the fields of a command that is read from bytes can be.
use Rattle.std.specs.Prelude.{◌≡◌, ℕ, ◌<◌, ◌^◌, Bool, true, false, List, length, Some, IfSome, ⊤}
use Rattle.std.specs.List.{AllByRecursion}
use Rattle.entry_bytes.specs.Fields.{IsText}
use Rattle.conf_model.specs.Configurations.{Configuration}
use Rattle.layer_model.specs.Annotations.{Annotations}
use Rattle.layer_core.specs.declared.command.Command.{Command}
use Rattle.layer_core.specs.declared.command.Command.TheVariants as ask
use Rattle.layer_rules.specs.WellFormed.{IsWellFormed}
use Rattle.ann_writer.specs.AnnOf.{ann_of}
use Rattle.command_bytes.specs.CommandReading.{layer_in}
use Rattle.command_bytes.specs.CommandValues.{IsName, AreFrags, AreArgs}

-- a command that is no load, whose bytes are the same for every configuration and text
abbrev pub is_plain : Command → Bool
is_plain (ask.Load layer) = false
is_plain _ = true

-- a command that can be written for a configuration and the characters of a text: a layer that it loads is well-formed
abbrev pub CanBeWritten : Configuration → List ℕ → Command → Type 0
CanBeWritten conf text (ask.Load layer) = IsWellFormed conf (length text) layer
CanBeWritten conf text _ = ⊤

-- a layer whose lines are a text that is read as it
pub record IsReadAgain (conf : Configuration) (text : List ℕ) (layer : Annotations) : Type 0 where
  pub lines : IsText (ann_of conf text layer)
  pub again : layer_in conf text (ann_of conf text layer) ≡ Some layer

-- what the fields of a command can be: names, lists and texts of fewer than 2 ^ 32, and a layer whose lines are read as it
abbrev pub CanBeRead : Configuration → List ℕ → Command → Type 0
CanBeRead conf text (ask.AddSpan kind frags) = IsName kind × AreFrags frags
CanBeRead conf text (ask.RetypeSpan id kind) = IsName kind
CanBeRead conf text (ask.MoveSpan id frags) = AreFrags frags
CanBeRead conf text (ask.AddEvent kind trigger args) = IsName kind × AreArgs args
CanBeRead conf text (ask.AddArg id arg) = IsName arg.role
CanBeRead conf text (ask.RemoveArg id arg) = IsName arg.role
CanBeRead conf text (ask.AddRelation kind first second) = IsName kind
CanBeRead conf text (ask.SetAttribute kind target value) = IsName kind × IfSome value IsName
CanBeRead conf text (ask.ClearAttribute id) = ⊤
CanBeRead conf text (ask.Equate kind members) = IsName kind × (length members < 2 ^ 32)
CanBeRead conf text (ask.Unequate kind id) = IsName kind
CanBeRead conf text (ask.SetNote target kind note) = IsName kind × IsText note
CanBeRead conf text (ask.SetReference target store entry shown) = IsText store × IsText entry × IsText shown
CanBeRead conf text (ask.Delete id) = ⊤
CanBeRead conf text (ask.Purge id) = ⊤
CanBeRead conf text (ask.Load layer) = IsReadAgain conf text layer

-- commands that are read behind their number
pub record IsScript (conf : Configuration) (text : List ℕ) (commands : List Command) : Type 0 where
  pub count : length commands < 2 ^ 32
  pub each : AllByRecursion (CanBeRead conf text) commands

-- two scripts
abbrev pub AreScripts : Configuration → List ℕ → List Command → List Command → Type 0
AreScripts conf text done undone = IsScript conf text done × IsScript conf text undone

-- a layer that the command loads has lines that are read as it
abbrev pub LoadsAgain : Configuration → List ℕ → Command → Type 0
LoadsAgain conf text (ask.Load layer) = IsReadAgain conf text layer
LoadsAgain conf text _ = ⊤
