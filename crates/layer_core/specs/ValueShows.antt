-- The value that a command gives to an attribute, as the code keeps it (private calls only).
use Rattle.layer_core.specs.declared.attribute_value.Valued as kept
use Rattle.layer_core.specs.declared.attribute_value.Valued.TheVariants as given
use Rattle.layer_rules.specs.AttributeValues.{Valued, Undeclared, Declared}

-- the value that is meant
abbrev pub valued_of : kept.Valued → Valued
valued_of given.Undeclared = Undeclared
valued_of (given.Declared value) = Declared value
