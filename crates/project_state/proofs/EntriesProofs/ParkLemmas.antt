-- A park that is read of an entry.
use Rattle.std.proofs.Common.{◌≡◌, ℕ, List, Option, Some, ap₂, subst}
use Rattle.conf_model.specs.Configurations.{Configuration}
use Rattle.layer_core.specs.declared.command.Command.{Command}
use Rattle.command_bytes.specs.declared.script_reading.Scripts.{Scripts}
use Rattle.project_machine.specs.Requests.{Asked, Park}
use Rattle.project_state.specs.Entries.Reading.{ReadsScripts}

-- what is read for a configuration and a text
pub read_for : (conf k : Configuration) (text t bytes : List ℕ) (found o : Option Scripts) → conf ≡ k → text ≡ t → found ≡ o → ReadsScripts conf text bytes found → ReadsScripts k t bytes o
read_for conf k text t bytes found o a b c h =
    subst (λ (x : Configuration). ReadsScripts x t bytes o) a (subst (λ (x : List ℕ). ReadsScripts conf x bytes o) b (subst (λ (x : Option Scripts). ReadsScripts conf text bytes x) c h))

same_park : (name n : List ℕ) (hold : ℕ) (done d undone u : List Command) → name ≡ n → done ≡ d → undone ≡ u → Park name hold done undone ≡ Park n hold d u
same_park name n hold done d undone u a b c = cc

-- the same park of the same person
pub park_same : (by b name n : List ℕ) (hold : ℕ) (done d undone u : List Command) → by ≡ b → name ≡ n → (done ≡ d) × (undone ≡ u)
    → ◌≡◌ {A = Option (List ℕ × Asked)} (Some (by, Park name hold done undone)) (Some (b, Park n hold d u))
park_same by b name n hold done d undone u e f g = ap₂ (λ (x : List ℕ) (y : Asked). Some (x, y)) e (same_park name n hold done d undone u f g.0 g.1)
