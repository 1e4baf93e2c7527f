-- Commands that are parked, by their bytes.
use Rattle.std.proofs.Common.{◌≡◌, ◌≤◌, ℕ, List, length, Option, Some, None, sym, subst}
use Rattle.std.specs.List.{AllByRecursion}
use Rattle.conf_model.specs.Configurations.{Configuration}
use Rattle.layer_model.specs.Annotations.{Annotations}
use Rattle.layer_core.specs.declared.command.Command.{Command}
use Rattle.layer_undo.specs.Replays.{first_refusal}
use Rattle.command_bytes.specs.WritableCommands.{CanBeWritten}
use Rattle.command_bytes.specs.declared.script_reading.Scripts.{Scripts}
use Rattle.project_state.specs.Entries.Reading.{ReadsScripts}
use Rattle.checkpoint.specs.Reading.{AreParked}

abbrev pub AcceptedAreWritten : Type 0
AcceptedAreWritten = (conf : Configuration) (text : List ℕ) (base : Annotations) (done undone : List Command) → first_refusal conf (length text) base done undone ≡ None → AllByRecursion (CanBeWritten conf text) done × AllByRecursion (CanBeWritten conf text) undone

-- no commands are read of bytes
pub unread : AcceptedAreWritten → (conf : Configuration) (text : List ℕ) (layer : Annotations) (bytes : List ℕ) → length bytes ≤ 16777216 → ReadsScripts conf text bytes None → (done undone : List Command) → AreParked conf text layer bytes done undone → ⊥
unread written conf text layer bytes short reads done undone p = reads done undone p.typed (written conf text layer done undone p.accepted) p.are short

-- the commands that are read of bytes are those that are parked
pub parked_too : AcceptedAreWritten → (conf : Configuration) (text : List ℕ) (layer : Annotations) (bytes : List ℕ) (scripts : Scripts) → length bytes ≤ 16777216 → ReadsScripts conf text bytes (Some scripts) → (done undone : List Command) → AreParked conf text layer bytes done undone → AreParked conf text layer bytes scripts.done scripts.undone
parked_too written conf text layer bytes scripts short reads done undone p =
    let same : (scripts.done ≡ done) × (scripts.undone ≡ undone) = reads done undone p.typed (written conf text layer done undone p.accepted) p.are short in
    subst (λ (cs : List Command). AreParked conf text layer bytes cs scripts.undone) (sym same.0) (subst (AreParked conf text layer bytes done) (sym same.1) p)

-- so it is of a configuration and a text that are the same, and of what was read
pub parked_again : AcceptedAreWritten → (conf conf-2 : Configuration) (text text-2 : List ℕ) (layer : Annotations) (bytes : List ℕ) (found : Option Scripts) (scripts : Scripts) → conf-2 ≡ conf → text-2 ≡ text → found ≡ Some scripts → length bytes ≤ 16777216 → ReadsScripts conf-2 text-2 bytes found
    → (done undone : List Command) → AreParked conf text layer bytes done undone → AreParked conf text layer bytes scripts.done scripts.undone
parked_again written conf conf-2 text text-2 layer bytes found scripts same_conf same_text is short reads =
    parked_too written conf text layer bytes scripts short
    (subst (λ (c : Configuration). ReadsScripts c text bytes (Some scripts)) same_conf
    (subst (λ (t : List ℕ). ReadsScripts conf-2 t bytes (Some scripts)) same_text (subst (ReadsScripts conf-2 text-2 bytes) is reads)))
