-- What a configuration says: the types, the roles of event types, relation types, attributes and overlaps.
use Rattle.std.specs.Prelude.{ℕ, ◌||◌, ◌==◌, Bool, false, List, slice_get, if◌then◌else◌, refl}
use Rattle.std.specs.List.{list_any}
use Rattle.std.specs.Option.{option_map_or}
use Rattle.std.specs.Coded.{Coded, code_by, coded×, coded_list}
use Rattle.mark_base.specs.declared.table_places.TypeId.{TypeId}
use Rattle.type_hierarchy.specs.declared.type_row.TypeRow.{TypeRow}
use Rattle.type_hierarchy.specs.contracts.type_row.TypeRow as type_row
use Rattle.type_hierarchy.specs.TypeTrees.{is_under}
pub use Rattle.conf_model.specs.declared.alternatives.Alternatives.{Alternatives}
pub use Rattle.conf_model.specs.declared.role.Role.{Role}
pub use Rattle.conf_model.specs.declared.relation_type.Arguments.{Arguments}
pub use Rattle.conf_model.specs.declared.relation_type.RelationType.{RelationType}
pub use Rattle.conf_model.specs.declared.attribute_type.AttributeType.{AttributeType}
pub use Rattle.conf_model.specs.declared.overlap_line.Overlap.{Overlap}
use Rattle.conf_model.specs.contracts.role.Role as role_row
use Rattle.conf_model.specs.contracts.relation_type.RelationType as relation_row
use Rattle.conf_model.specs.contracts.attribute_type.AttributeType as attribute_row
use Rattle.conf_model.specs.contracts.overlap_line.Overlap as overlap_row

-- a configuration; the roles of a type stand at its place
pub record Configuration : Type 0 where
  pub types : List TypeRow
  pub roles : List (List Role)
  pub relations : List RelationType
  pub attributes : List AttributeType
  pub overlaps : List Overlap

-- a configuration is stored as the tuple of its fields
abbrev pub configuration_code : Coded Configuration
configuration_code =
    code_by (List TypeRow × (List (List Role) × (List RelationType × (List AttributeType × List Overlap))))
    (coded× (coded_list type_row.the_row.coded) (coded× (coded_list (coded_list role_row.the_row.coded)) (coded× (coded_list relation_row.the_row.coded) (coded× (coded_list attribute_row.the_row.coded) (coded_list overlap_row.the_row.coded)))))
    (λ c. (c.types, (c.roles, (c.relations, (c.attributes, c.overlaps)))))
    (λ p. record { types = p.0; roles = p.1.0; relations = p.1.1.0; attributes = p.1.1.1.0; overlaps = p.1.1.1.1 }) (λ _. refl)

-- a type stands in a place: it is of a sort that is named, or is equal to a named type or a descendant of it
abbrev pub admits : List TypeRow → Alternatives → TypeId → Bool
admits rows named type_ =
    option_map_or (λ row. named.any || (if row.event then named.event else named.entity)) (slice_get rows type_.n) false
    || list_any (λ place. is_under rows type_ (record { n = place })) named.bound

-- a relation type stands in a place
abbrev pub admits_relation : Alternatives → ℕ → Bool
admits_relation named place = named.relation || named.any || list_any (λ k. k == place) named.between
