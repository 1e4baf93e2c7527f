-- The contents of the annotations of a layer, which tell nothing of IDs (brat standoff manual has the parts of each sort).
use Rattle.std.specs.Prelude.{ℕ, List, [], ◌∷◌, ◌++◌, map, length, Option, Some, None, option_and_then}
use Rattle.std.specs.List.{flat_map}
use Rattle.mark_base.specs.declared.ann_id.AnnId.{AnnId}
use Rattle.mark_base.specs.declared.ann_id.Kind.{Kind}
use Rattle.mark_base.specs.declared.ann_id.Kind.TheVariants as letter
use Rattle.mark_base.specs.declared.arguments.Arg.{Arg}
use Rattle.mark_base.specs.declared.fragments.Frag.{Frag}
use Rattle.layer_model.specs.declared.span.Span.{Span}
use Rattle.layer_model.specs.declared.event.Event.{Event}
use Rattle.layer_model.specs.declared.relation.Relation.{Relation}
use Rattle.layer_model.specs.declared.attribute.Attribute.{Attribute}
use Rattle.layer_model.specs.declared.normal.Normal.{Normal}
use Rattle.layer_model.specs.declared.mark.Mark.{Mark}
use Rattle.layer_model.specs.declared.mark.Mark.TheVariants as marked
use Rattle.layer_model.specs.declared.class.Class.{Class}
use Rattle.layer_model.specs.Annotations.{Annotations}
use Rattle.layer_model.specs.Coherent.{trigger_id}
pub use Rattle.layer_model.specs.LayerIds.{ids_of_letter}
use Rattle.layer_model.specs.Layers.{mark_at}
use Rattle.content_keys.specs.Nodes.{Node, number}
use Rattle.content_keys.specs.Contents.{content}

-- ---- what a mark is made of

-- the ends of fragments
abbrev pub ends_of : List Frag → List ℕ
ends_of [] = []
ends_of (frag ∷ frags) = frag.start ∷ frag.end ∷ ends_of frags

-- a span: its type and fragments
abbrev pub span_node : Span → Node AnnId
span_node span = record { own = 0 ∷ span.kind.n ∷ ends_of span.frags; named = []; bag = [] }

-- the role and the target of an argument
abbrev pub link_of : Arg → ℕ × AnnId
link_of arg = (arg.role, arg.target)

-- an event: its type, its trigger, and the bag of roles and targets
abbrev pub event_node : Event → Node AnnId
event_node event = record { own = 1 ∷ event.kind.n ∷ []; named = trigger_id event ∷ []; bag = map link_of event.args }

-- a relation: its type and both targets
abbrev pub relation_node : Relation → Node AnnId
relation_node relation = record { own = 2 ∷ relation.kind.n ∷ []; named = relation.first ∷ relation.second ∷ []; bag = [] }

-- a value, where there is one
abbrev pub value_numbers : Option ℕ → List ℕ
value_numbers None = []
value_numbers (Some value) = value ∷ []

-- an attribute: its type, target and value
abbrev pub attribute_node : Attribute → Node AnnId
attribute_node attribute = record { own = 3 ∷ attribute.kind.n ∷ value_numbers attribute.value; named = attribute.target ∷ []; bag = [] }

-- a text behind its length
abbrev pub measured : List ℕ → List ℕ
measured text = length text ∷ text

-- a normalization: its target, store, entry and text
abbrev pub normal_node : Normal → Node AnnId
normal_node normal = record { own = 4 ∷ measured normal.store ++ measured normal.entry ++ measured normal.text; named = normal.target ∷ []; bag = [] }

-- what a mark is made of; the letters A and M make no difference, and a note has no content
abbrev pub node_of_mark : Mark → Option (Node AnnId)
node_of_mark (marked.Span span) = Some (span_node span)
node_of_mark (marked.Event event) = Some (event_node event)
node_of_mark (marked.Relation relation) = Some (relation_node relation)
node_of_mark (marked.Attribute attribute) = Some (attribute_node attribute)
node_of_mark (marked.Normal normal) = Some (normal_node normal)
node_of_mark (marked.Note note) = None

-- ---- the annotations of a layer

-- what stands under an ID, where `marks` tells the marks
abbrev pub node_in : (AnnId → Option Mark) → AnnId → Option (Node AnnId)
node_in marks id = option_and_then node_of_mark (marks id)

-- what the annotation of an ID is made of
abbrev pub node_of : Annotations → AnnId → Option (Node AnnId)
node_of layer id = node_in (mark_at layer) id

-- the content under an ID: a span names nothing, an event stands at most 16 events above one, a relation or normalization
-- above these, an attribute above all
abbrev pub content_in : (AnnId → Option Mark) → AnnId → ℕ
content_in marks id = content (node_in marks) 19 id

-- the content of the annotation of an ID
abbrev pub content_of : Annotations → AnnId → ℕ
content_of layer id = content_in (mark_at layer) id

-- the letters of annotations that have a content, in their order: T, E, R, A, M and N
abbrev pub letters : List Kind
letters = letter.Text ∷ letter.Event ∷ letter.Relation ∷ letter.Attribute ∷ letter.Legacy ∷ letter.Normal ∷ []

-- the IDs of a layer that have a content, in their order
abbrev pub ids_of : Annotations → List AnnId
ids_of layer = flat_map (ids_of_letter layer) letters

-- the contents of a layer, each behind its ID
abbrev pub contents_of : Annotations → List (AnnId × ℕ)
contents_of layer = map (λ id. (id, content_of layer id)) (ids_of layer)

-- ---- the classes of a layer

-- a class: its type and the bag of its members, none of which stands twice
abbrev pub class_node : Class → Node AnnId
class_node class = record { own = 5 ∷ class.kind.n ∷ []; named = []; bag = map (λ member. (0, member)) class.members }

-- the content of a class, where `contents` tells those of its members: so it does not tell of their order
abbrev pub class_content : (AnnId → ℕ) → Class → ℕ
class_content contents class = number contents (class_node class)

-- the contents of the classes of a layer
abbrev pub class_contents_of : Annotations → List ℕ
class_contents_of layer = map (class_content (content_of layer)) layer.classes
