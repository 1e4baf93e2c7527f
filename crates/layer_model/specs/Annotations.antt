-- What one annotator has marked on one text: annotations by letter and number, and equivalence classes (brat standoff manual).
use Rattle.std.specs.Prelude.{List, [], refl}
use Rattle.std.specs.Ordering.{nat_cmp}
use Rattle.std.specs.FinMap as map
use Rattle.std.specs.Coded.{Coded, code_by, coded×, coded_ℕ, coded_list}
use Rattle.layer_model.specs.declared.span.Span.{Span}
use Rattle.layer_model.specs.declared.event.Event.{Event}
use Rattle.layer_model.specs.declared.relation.Relation.{Relation}
use Rattle.layer_model.specs.declared.attribute.Attribute.{Attribute}
use Rattle.layer_model.specs.declared.normal.Normal.{Normal}
use Rattle.layer_model.specs.declared.note.Note.{Note}
use Rattle.layer_model.specs.declared.class.Class.{Class}
use Rattle.layer_model.specs.contracts.span.Span as span_row
use Rattle.layer_model.specs.contracts.event.Event as event_row
use Rattle.layer_model.specs.contracts.relation.Relation as relation_row
use Rattle.layer_model.specs.contracts.attribute.Attribute as attribute_row
use Rattle.layer_model.specs.contracts.normal.Normal as normal_row
use Rattle.layer_model.specs.contracts.note.Note as note_row
use Rattle.layer_model.specs.contracts.class.Class as class_row

-- the annotations of the letters T, E, R, A, M, N and #, each by its number, and the classes in their order
pub record Annotations : Type 0 where
  pub spans : map.FinMap nat_cmp Span
  pub events : map.FinMap nat_cmp Event
  pub relations : map.FinMap nat_cmp Relation
  pub attributes : map.FinMap nat_cmp Attribute
  pub legacy : map.FinMap nat_cmp Attribute
  pub normals : map.FinMap nat_cmp Normal
  pub notes : map.FinMap nat_cmp Note
  pub classes : List Class

-- the same as nested pairs
abbrev pub Tuple : Type 0
Tuple = map.FinMap nat_cmp Span × (map.FinMap nat_cmp Event × (map.FinMap nat_cmp Relation × (map.FinMap nat_cmp Attribute × (map.FinMap nat_cmp Attribute × (map.FinMap nat_cmp Normal × (map.FinMap nat_cmp Note × List Class))))))

-- how the tuple is stored, by how its parts are
abbrev pub tuple_code : Coded Tuple
tuple_code =
    coded× (map.code coded_ℕ span_row.the_row.coded) (coded× (map.code coded_ℕ event_row.the_row.coded) (coded× (map.code coded_ℕ relation_row.the_row.coded) (coded× (map.code coded_ℕ attribute_row.the_row.coded) (coded× (map.code coded_ℕ attribute_row.the_row.coded) (coded× (map.code coded_ℕ normal_row.the_row.coded) (coded× (map.code coded_ℕ note_row.the_row.coded) (coded_list class_row.the_row.coded)))))))

-- a layer is stored as the tuple of its fields
abbrev pub annotations_code : Coded Annotations
annotations_code =
    code_by Tuple tuple_code (λ l. (l.spans, (l.events, (l.relations, (l.attributes, (l.legacy, (l.normals, (l.notes, l.classes))))))))
    (λ p. record { spans = p.0; events = p.1.0; relations = p.1.1.0; attributes = p.1.1.1.0; legacy = p.1.1.1.1.0; normals = p.1.1.1.1.1.0; notes = p.1.1.1.1.1.1.0; classes = p.1.1.1.1.1.1.1 }) (λ _. refl)

-- nothing is marked
abbrev pub no_marks : Annotations
no_marks = record { spans = map.empty; events = map.empty; relations = map.empty; attributes = map.empty; legacy = map.empty; normals = map.empty; notes = map.empty; classes = [] }
