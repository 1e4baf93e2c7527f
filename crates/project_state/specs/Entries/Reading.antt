-- What is read of an entry, kind by kind (private calls only).
use Rattle.std.specs.Prelude.{◌≡◌, ◌<◌, ◌≤◌, ℕ, List, [], chars, length, Option, Some, None, MatchOption, option_map}
use Rattle.std.specs.List.{AllByRecursion}
use Rattle.mark_base.specs.declared.ann_id.AnnId.{AnnId}
use Rattle.entry_bytes.specs.declared.entry.Entry.{Entry}
use Rattle.entry_bytes.specs.declared.entry.Entry.TheVariants as entry
use Rattle.conf_model.specs.Configurations.{Configuration}
use Rattle.layer_model.specs.Annotations.{Annotations}
use Rattle.layer_core.specs.declared.command.Command.{Command}
use Rattle.layer_rules.specs.WellFormed.{IsWellFormed}
use Rattle.ann_writer.specs.AnnOf.{ann_of}
use Rattle.command_bytes.specs.declared.script_reading.Scripts.{Scripts}
use Rattle.command_bytes.specs.CommandBytes.{scripts_bytes}
use Rattle.command_bytes.specs.WritableCommands.{CanBeWritten}
use Rattle.command_bytes.specs.CommandReading.{id_of}
use Rattle.project_machine.specs.ProjectState.{ProjectState, document, holder_name, snapshot}
use Rattle.project_machine.specs.Requests.{Asked, AddText, Checkout, TakeOver, Commit, Park, Finish, Reopen, Ignore, Readmit, Snap, Decide, Undecide}
use Rattle.command_bytes.specs.CommandValues.{AreCommands, IsTypedLayer}
use Rattle.project_state.specs.declared.request.Request.{Request}
use Rattle.project_state.specs.declared.entries.asking.Asking.{Asking}
use Rattle.project_state.specs.Entries.Asking.{plain_asking, verdict_of}

-- somebody asks for something of a document or a holder of a name; nobody does where there is no name
abbrev pub AsksOf : List ℕ → List ℕ → Asked → Option Asking → Type 0
AsksOf name caller asked told = MatchOption told (name ≡ []) (λ asking. plain_asking asking ≡ (caller, asked))

-- the well-formed layer whose lines these are is read
abbrev pub ReadsLayer : Configuration → List ℕ → List ℕ → Option Annotations → Type 0
ReadsLayer conf text lines found =
    (layer : Annotations) → IsTypedLayer layer → IsWellFormed conf (length text) layer → lines ≡ ann_of conf text layer → length lines ≤ 16777216 → found ≡ Some layer

-- the commands whose bytes these are, and whose loads are well-formed, are read
abbrev pub ReadsScripts : Configuration → List ℕ → List ℕ → Option Scripts → Type 0
ReadsScripts conf text bytes found =
    (done undone : List Command) → AreCommands done × AreCommands undone → AllByRecursion (CanBeWritten conf text) done × AllByRecursion (CanBeWritten conf text) undone
    → bytes ≡ scripts_bytes conf text done undone → length bytes ≤ 16777216 → MatchOption found ⊥ (λ scripts. (scripts.done ≡ done) × (scripts.undone ≡ undone))

-- a commit of a layer of the document of a number
abbrev pub asks_commit : ProjectState → List ℕ → ℕ → ℕ → Annotations → List ℕ × Asked
asks_commit s by doc hold layer = (by, Commit (document s doc).name hold layer)

-- two scripts parked on the document of a number
abbrev pub asks_park : ProjectState → List ℕ → ℕ → ℕ → List Command × List Command → List ℕ × Asked
asks_park s by doc hold scripts = (by, Park (document s doc).name hold scripts.0 scripts.1)

-- what is read of an entry: who asked for what; nobody asked for a founding, a freeing or a piece of a state
abbrev pub Reads : ProjectState → Entry → Option Asking → Type 0
Reads s (entry.AddText by name text) told = MatchOption told (200000 < length (chars text)) (λ asking. plain_asking asking ≡ (by, AddText name (chars text)))
Reads s (entry.Checkout by doc) told = AsksOf (document s doc).name by (Checkout (document s doc).name) told
Reads s (entry.TakeOver by doc) told = AsksOf (document s doc).name by (TakeOver (document s doc).name) told
Reads s (entry.Commit by doc hold lines) told =
    (layer : Annotations) → doc < length s.documents → IsTypedLayer layer → IsWellFormed s.conf (length (document s doc).text) layer → lines ≡ ann_of s.conf (document s doc).text layer → length lines ≤ 16777216
    → option_map plain_asking told ≡ Some (asks_commit s by doc hold layer)
Reads s (entry.Park by doc hold commands) told =
    (done undone : List Command) → doc < length s.documents → AreCommands done × AreCommands undone
    → AllByRecursion (CanBeWritten s.conf (document s doc).text) done × AllByRecursion (CanBeWritten s.conf (document s doc).text) undone
    → commands ≡ scripts_bytes s.conf (document s doc).text done undone → length commands ≤ 16777216 → option_map plain_asking told ≡ Some (asks_park s by doc hold (done, undone))
Reads s (entry.Finish by doc) told = AsksOf (document s doc).name by (Finish (document s doc).name) told
Reads s (entry.Reopen by doc who) told = AsksOf (document s doc).name by (Reopen (document s doc).name who) told
Reads s (entry.Ignore by doc who) told = AsksOf (document s doc).name by (Ignore (document s doc).name who) told
Reads s (entry.Readmit by doc who) told = AsksOf (document s doc).name by (Readmit (document s doc).name who) told
Reads s (entry.Snap by doc) told = AsksOf (document s doc).name by (Snap (document s doc).name) told
Reads s (entry.Decide by number holder kind n accept) told =
    (id : AnnId) → id_of (kind, n) ≡ Some id → AsksOf (holder_name (snapshot s number) holder) by (Decide number (holder_name (snapshot s number) holder) id (verdict_of accept)) told
Reads s (entry.Undecide by number holder kind n) told =
    (id : AnnId) → id_of (kind, n) ≡ Some id → AsksOf (holder_name (snapshot s number) holder) by (Undecide number (holder_name (snapshot s number) holder) id) told
Reads s _ told = told ≡ None
