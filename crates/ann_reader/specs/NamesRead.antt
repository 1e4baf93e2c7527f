-- What a word names in a configuration; a word that is no name names nothing.
use Rattle.std.specs.Prelude.{ℕ, List, Option, Some, None, is_none, option_and_then, if◌then◌else◌}
use Rattle.std.specs.Option.{option_map_or}
use Rattle.mark_base.specs.declared.table_places.TypeId.{TypeId}
use Rattle.mark_base.specs.Names.{name_fault}
use Rattle.type_hierarchy.specs.TypeTrees.{type_named}
use Rattle.conf_model.specs.Configurations.{Configuration}
use Rattle.conf_model.specs.Lookups.{relation_named, attribute_named, value_named}
use Rattle.layer_rules.specs.Targets.{is_event_type}
use Rattle.layer_rules.specs.AttributeValues.{Valued, Undeclared, Declared}

-- what a table has under a word that is a name
abbrev pub by_name : {X : Type 0} → (List ℕ → Option X) → List ℕ → Option X
by_name found word = if is_none (name_fault word) then found word else None

-- an entity type or an event type
abbrev pub type_read : Configuration → List ℕ → Option TypeId
type_read conf word = by_name (type_named conf.types) word

-- where a type is an event type
abbrev pub where_event : Configuration → TypeId → Option TypeId
where_event conf id = if is_event_type conf id then Some id else None

-- an event type
abbrev pub event_read : Configuration → List ℕ → Option TypeId
event_read conf word = option_and_then (where_event conf) (type_read conf word)

-- a relation type
abbrev pub relation_read : Configuration → List ℕ → Option ℕ
relation_read conf word = by_name (relation_named conf) word

-- an attribute
abbrev pub attribute_read : Configuration → List ℕ → Option ℕ
attribute_read conf word = by_name (attribute_named conf) word

-- the value of an attribute, where one is given
abbrev pub value_read : Configuration → ℕ → Option (List ℕ) → Valued
value_read conf attribute None = Declared None
value_read conf attribute (Some word) = option_map_or (λ value. Declared (Some value)) (by_name (value_named conf attribute) word) Undeclared
