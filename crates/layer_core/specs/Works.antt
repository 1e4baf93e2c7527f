-- A layer that is worked on, with the configuration and the text that it is for.
use Rattle.std.specs.Prelude.{◌≡◌, ℕ, List, Err, ⊤, refl}
use Rattle.std.specs.Coded.{Coded, code_by, coded×, coded_ℕ, coded_list}
use Rattle.conf_model.specs.Configurations.{Configuration, configuration_code}
use Rattle.layer_model.specs.Annotations.{Annotations, annotations_code}
use Rattle.layer_core.specs.declared.command.Command.{Command}
use Rattle.layer_core.specs.declared.refusal.Refusal.{Refusal}
use Rattle.layer_core.specs.declared.refusal.Refusal.TheVariants.{Rule, Memory}
use Rattle.layer_core.specs.Commands.{apply}

-- what a refusal of a command says: the rule that the command breaks first, or want of memory
abbrev pub IsRefusal : Configuration → ℕ → Annotations → Command → Refusal → Type 0
IsRefusal conf characters layer command (Rule broken) = apply conf characters layer command ≡ Err broken
IsRefusal conf characters layer command Memory = ⊤

-- a layer, the configuration and the characters of the text that it is for
pub record WorkState : Type 0 where
  pub conf : Configuration
  pub text : List ℕ
  pub layer : Annotations

-- it is stored as the tuple of its fields
abbrev pub work_code : Coded WorkState
work_code =
    code_by (Configuration × (List ℕ × Annotations)) (coded× configuration_code (coded× (coded_list coded_ℕ) annotations_code))
    (λ w. (w.conf, (w.text, w.layer))) (λ p. record { conf = p.0; text = p.1.0; layer = p.1.1 }) (λ _. refl)
