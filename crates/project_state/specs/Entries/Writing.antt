-- Which changes can be written as entries, and what is made of an entry that a journal does not take.
use Rattle.std.specs.Prelude.{ℕ, ◌<◌, ◌==◌, Bool, true, false, List, [], length, nat_lt, if◌then◌else◌, ⊤}
use Rattle.std.specs.List.{AllByRecursion}
use Rattle.entry_bytes.specs.declared.entry.Entry.{Entry}
use Rattle.entry_bytes.specs.declared.entry.Entry.TheVariants as entry
use Rattle.layer_rules.specs.WellFormed.{IsWellFormed}
use Rattle.command_bytes.specs.WritableCommands.{CanBeWritten}
use Rattle.project_machine.specs.ProjectState.{ProjectState, document}
use Rattle.project_machine.specs.Requests.{Happened, LayerCommitted, LayerParked}
use Rattle.project_state.specs.declared.entries.written.Written.{Written}
use Rattle.project_state.specs.declared.entries.written.Written.TheVariants as written

-- a change whose entry can be written: the document of a layer that is committed or parked is there, the committed layer is well-formed for it, and so is each layer that a parked command loads
abbrev pub CanBeEntered : ProjectState → Happened → Type 0
CanBeEntered s (LayerCommitted by doc hold layer) = (doc < length s.documents) × IsWellFormed s.conf (length (document s doc).text) layer
CanBeEntered s (LayerParked by doc hold done undone) =
    (doc < length s.documents) × AllByRecursion (CanBeWritten s.conf (document s doc).text) done × AllByRecursion (CanBeWritten s.conf (document s doc).text) undone
CanBeEntered s _ = ⊤

-- an entry names at most 255 people
abbrev pub HasFewPeople : Entry → Type 0
HasFewPeople (entry.Found conf people) = length people < 256
HasFewPeople (entry.FoundAt conf people level) = length people < 256
HasFewPeople (entry.Restored place level documents snapshots conf people) = length people < 256
HasFewPeople _ = ⊤

-- the text of an entry that has one
abbrev pub text_in : Entry → List ℕ
text_in (entry.Found conf people) = conf
text_in (entry.AddText by name text) = text
text_in (entry.Commit by doc hold lines) = lines
text_in (entry.FoundAt conf people level) = conf
text_in (entry.Restored place level documents snapshots conf people) = conf
text_in (entry.Document name text) = text
text_in (entry.Layer lines) = lines
text_in (entry.HeldLayer who lines) = lines
text_in _ = []

-- an entry with no character of its text
abbrev pub without_text : Entry → Entry
without_text (entry.Found conf people) = entry.Found [] people
without_text (entry.AddText by name text) = entry.AddText by name []
without_text (entry.Commit by doc hold lines) = entry.Commit by doc hold []
without_text (entry.FoundAt conf people level) = entry.FoundAt [] people level
without_text (entry.Restored place level documents snapshots conf people) = entry.Restored place level documents snapshots [] people
without_text (entry.Document name text) = entry.Document name []
without_text (entry.Layer lines) = entry.Layer []
without_text (entry.HeldLayer who lines) = entry.HeldLayer who []
without_text e = e

-- bytes that a journal takes, or how many there are where they are too many
abbrev pub written_of : List ℕ → Written
written_of bytes = if nat_lt 16777216 (length bytes) then written.TooLong (length bytes) else written.Bytes bytes
