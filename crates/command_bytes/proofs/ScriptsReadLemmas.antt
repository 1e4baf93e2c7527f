-- What reading two scripts answers.
use Rattle.std.proofs.Common.{◌≡◌, ℕ, List, Option, Some, None, sym, ap, ◌∙◌}
use Rattle.std.specs.Prelude.{Result, Ok, Err, IfOk, IfSome, IfNone, option_map}
use Rattle.std.proofs.lemmas.Option.{none-some}
use Rattle.mark_base.specs.declared.failed.Memory.{Memory}
use Rattle.entry_bytes.proofs.Exact.{IsBytes}
use Rattle.conf_model.specs.Configurations.{Configuration}
use Rattle.layer_core.specs.declared.command.Command.{Command}
use Rattle.command_bytes.specs.declared.script_reading.Scripts.{Scripts}
use Rattle.command_bytes.specs.CommandBytes.{scripts_bytes}
use Rattle.command_bytes.specs.WritableCommands.{AreScripts}
use Rattle.command_bytes.specs.CommandReading.{scripts_of}
use Rattle.command_bytes.proofs.ScriptLemmas.{Two, is_written, is_read}

abbrev pub both : Scripts → Two
both scripts = (scripts.done, scripts.undone)

right_found : (conf : Configuration) (text bytes : List ℕ) (found : Option Scripts) → IsBytes bytes → scripts_of conf text bytes ≡ option_map both found
    → IfSome found (λ scripts. AreScripts conf text scripts.done scripts.undone × (scripts_bytes conf text scripts.done scripts.undone ≡ bytes))
right_found conf text bytes (Some scripts) fits same = is_written conf text bytes (both scripts) fits same
right_found conf text bytes None fits same = tt

right_none : (conf : Configuration) (text bytes : List ℕ) (found : Option Scripts) → scripts_of conf text bytes ≡ option_map both found
    → IfNone found ((done undone : List Command) → AreScripts conf text done undone → scripts_bytes conf text done undone ≡ bytes → ⊥)
right_none conf text bytes (Some scripts) same = tt
right_none conf text bytes None same = λ done undone is spelt. none-some (done, undone) (sym same ∙ ap (scripts_of conf text) (sym spelt) ∙ is_read conf text done undone is)

pub read_found : (conf : Configuration) (text bytes : List ℕ) (r : Result (Option Scripts) Memory) → IsBytes bytes → IfOk r (λ found. scripts_of conf text bytes ≡ option_map both found)
    → IfOk r (λ found. IfSome found (λ scripts. AreScripts conf text scripts.done scripts.undone × (scripts_bytes conf text scripts.done scripts.undone ≡ bytes)))
read_found conf text bytes (Ok found) fits same = right_found conf text bytes found fits same
read_found conf text bytes (Err e) fits same = tt

pub read_none : (conf : Configuration) (text bytes : List ℕ) (r : Result (Option Scripts) Memory) → IfOk r (λ found. scripts_of conf text bytes ≡ option_map both found)
    → IfOk r (λ found. IfNone found ((done undone : List Command) → AreScripts conf text done undone → scripts_bytes conf text done undone ≡ bytes → ⊥))
read_none conf text bytes (Ok found) same = right_none conf text bytes found same
read_none conf text bytes (Err e) same = tt
