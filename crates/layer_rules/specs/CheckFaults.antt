-- What the check of a layer answers where the layer is not well-formed.
use Rattle.std.specs.Prelude.{◌≡◌, ℕ, Some, ⊤}
use Rattle.conf_model.specs.Configurations.{Configuration}
use Rattle.layer_model.specs.Annotations.{Annotations}
use Rattle.layer_rules.specs.declared.check_fault.CheckFault.{CheckFault}
use Rattle.layer_rules.specs.declared.check_fault.CheckFault.TheVariants.{Flaw, Memory}
use Rattle.layer_rules.specs.WellFormed.{least_flaw}

-- the flaw that is told is the least one of the layer; want of memory tells nothing
abbrev pub IsCheckFault : Configuration → ℕ → Annotations → CheckFault → Type 0
IsCheckFault conf characters layer (Flaw flaw) = least_flaw conf characters layer ≡ Some flaw
IsCheckFault conf characters layer Memory = ⊤
