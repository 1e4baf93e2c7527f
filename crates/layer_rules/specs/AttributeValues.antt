-- The value of an attribute that a name says, and whether the attribute has it.
use Rattle.std.specs.Prelude.{ℕ, Bool, true, List, Option, Some, None}
use Rattle.std.specs.Option.{option_map_or}
use Rattle.conf_model.specs.Configurations.{Configuration}
use Rattle.conf_model.specs.Lookups.{value_named}
use Rattle.layer_rules.specs.MarkRules.{is_bad_value}

-- the value of a name where one is given: none of none, or the declared one
pub data Valued : Type 0 where
  Undeclared : Valued
  Declared : Option ℕ → Valued

-- what a name of a value, or none, says of an attribute
abbrev pub value_of : Configuration → ℕ → Option (List ℕ) → Valued
value_of conf attribute None = Declared None
value_of conf attribute (Some name) = option_map_or (λ value. Declared (Some value)) (value_named conf attribute name) Undeclared

-- a value that the attribute does not have
abbrev pub value_refused : ℕ → Valued → Bool
value_refused declared Undeclared = true
value_refused declared (Declared value) = is_bad_value declared value
