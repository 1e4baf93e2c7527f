-- What the annotations of a layer must keep among themselves, whatever the text and the configuration: the IDs that are
-- named are there, no chain of events is too deep, and no two annotations are alike.
use Rattle.std.specs.Prelude.{◌≡◌, ℕ, zero, suc, ◌==◌, ◌&&◌, Bool, true, false, if◌then◌else◌, List, [], ◌∷◌, map, count_by, Some, ⊤}
use Rattle.std.specs.Option.{option_map_or}
use Rattle.std.specs.List.{AllByRecursion, list_any}
use Rattle.std.specs.FinMap as finite
use Rattle.mark_base.specs.declared.ann_id.AnnId.{AnnId}
use Rattle.mark_base.specs.declared.ann_id.Kind.{Kind}
use Rattle.mark_base.specs.declared.ann_id.Kind.TheVariants as letter
use Rattle.mark_base.specs.declared.arguments.Arg.{Arg}
use Rattle.layer_model.specs.declared.span.Span.{Span}
use Rattle.layer_model.specs.declared.event.Event.{Event}
use Rattle.layer_model.specs.declared.relation.Relation.{Relation}
use Rattle.layer_model.specs.declared.attribute.Attribute.{Attribute}
use Rattle.layer_model.specs.declared.mark.Mark.{Mark}
use Rattle.layer_model.specs.declared.mark.Mark.TheVariants as marked
use Rattle.layer_model.specs.Annotations.{Annotations}
use Rattle.layer_model.specs.Classes.{rank}
use Rattle.layer_model.specs.Layers.{attribute_of, has, mark_of}

-- ---- the IDs that are named are there

-- the ID of the span that states an event
abbrev pub trigger_id : Event → AnnId
trigger_id event = record { kind = letter.Text; number = event.trigger; within = event.within }

-- the IDs that a mark names, in the order of its fields
abbrev pub named : Mark → List AnnId
named (marked.Span span) = []
named (marked.Event event) = trigger_id event ∷ map (λ arg. arg.target) event.args
named (marked.Relation relation) = relation.first ∷ relation.second ∷ []
named (marked.Attribute attribute) = attribute.target ∷ []
named (marked.Normal normal) = normal.target ∷ []
named (marked.Note note) = note.target ∷ []

-- each of these IDs is there
abbrev pub AllStand : Annotations → List AnnId → Type 0
AllStand l ids = AllByRecursion (λ id. has l id ≡ true) ids

-- each ID that an annotation or a class names is there
pub record NamesStand (l : Annotations) : Type 0 where
  pub marks : (kind : Kind) (number : ℕ) (mark : Mark) → mark_of l kind number ≡ Some mark → AllStand l (named mark)
  pub classes : AllByRecursion (λ class. AllStand l class.members) l.classes

-- ---- the IDs that are named are of a letter that fits

-- T
abbrev pub is_span_letter : Kind → Bool
is_span_letter letter.Text = true
is_span_letter kind = false

-- T or E: what an argument of an event or of a relation and what a normalization names
abbrev pub is_span_or_event_letter : Kind → Bool
is_span_or_event_letter letter.Text = true
is_span_or_event_letter letter.Event = true
is_span_or_event_letter kind = false

-- T, E or R: what an attribute names
abbrev pub is_attributed_letter : Kind → Bool
is_attributed_letter letter.Text = true
is_attributed_letter letter.Event = true
is_attributed_letter letter.Relation = true
is_attributed_letter kind = false

-- any but #: what a note names
abbrev pub is_noted_letter : Kind → Bool
is_noted_letter letter.Note = false
is_noted_letter kind = true

-- what a mark names is of the letters that fit
abbrev pub LettersFitIn : Mark → Type 0
LettersFitIn (marked.Span span) = ⊤
LettersFitIn (marked.Event event) = AllByRecursion (λ arg. is_span_or_event_letter arg.target.kind ≡ true) event.args
LettersFitIn (marked.Relation relation) = (is_span_or_event_letter relation.first.kind ≡ true) × (is_span_or_event_letter relation.second.kind ≡ true)
LettersFitIn (marked.Attribute attribute) = is_attributed_letter attribute.target.kind ≡ true
LettersFitIn (marked.Normal normal) = is_span_or_event_letter normal.target.kind ≡ true
LettersFitIn (marked.Note note) = is_noted_letter note.target.kind ≡ true

-- what an annotation names is of the letters that fit, and the members of classes are spans
pub record LettersFit (l : Annotations) : Type 0 where
  pub marks : (kind : Kind) (number : ℕ) (mark : Mark) → mark_of l kind number ≡ Some mark → LettersFitIn mark
  pub classes : AllByRecursion (λ class. AllByRecursion (λ member. is_span_letter member.kind ≡ true) class.members) l.classes

-- ---- no chain of events is too deep

-- E
abbrev pub is_event_letter : Kind → Bool
is_event_letter letter.Event = true
is_event_letter kind = false

-- the numbers of the events among arguments
abbrev pub events_among : List Arg → List ℕ
events_among [] = []
events_among (arg ∷ args) = if is_event_letter arg.target.kind then arg.target.number ∷ events_among args else events_among args

-- the numbers of the events that are arguments of this one
abbrev pub event_arguments : Annotations → ℕ → List ℕ
event_arguments l number = option_map_or (λ event. events_among event.args) (finite.get l.events number) []

-- a chain of so many events begins at the event of this number, each later one an argument of the one before it
unfoldable pub begins_chain : Annotations → ℕ → ℕ → Bool
begins_chain l zero number = true
begins_chain l (suc zero) number = finite.contains_key l.events number
begins_chain l (suc (suc more)) number = list_any (begins_chain l (suc more)) (event_arguments l number)

-- no chain has more than 16 events, so none runs in a circle
abbrev pub ChainsAreShort : Annotations → Type 0
ChainsAreShort l = (number : ℕ) → begins_chain l 17 number ≡ false

-- ---- no two annotations are alike

-- the same type and the same fragments
pub record SameSpan (a b : Span) : Type 0 where
  pub kind : a.kind.n ≡ b.kind.n
  pub frags : a.frags ≡ b.frags

-- each argument, by role and target, stands as often in both lists
abbrev pub SameArguments : List Arg → List Arg → Type 0
SameArguments a b = (role place : ℕ) → count_by (λ arg. arg.role == role && rank arg.target == place) a ≡ count_by (λ arg. arg.role == role && rank arg.target == place) b

-- the same type, the same trigger, and the same arguments in any order
pub record SameEvent (a b : Event) : Type 0 where
  pub kind : a.kind.n ≡ b.kind.n
  pub trigger : a.trigger ≡ b.trigger
  pub args : SameArguments a.args b.args

-- the same type and the same two arguments
pub record SameRelation (a b : Relation) : Type 0 where
  pub kind : a.kind.n ≡ b.kind.n
  pub first : rank a.first ≡ rank b.first
  pub second : rank a.second ≡ rank b.second

-- the same type and the same target
pub record SameAttribute (a b : Attribute) : Type 0 where
  pub kind : a.kind.n ≡ b.kind.n
  pub target : rank a.target ≡ rank b.target

-- no two spans are the same
abbrev pub SpansDiffer : Annotations → Type 0
SpansDiffer l = (m n : ℕ) (a b : Span) → finite.get l.spans m ≡ Some a → finite.get l.spans n ≡ Some b → SameSpan a b → m ≡ n

-- no two events are the same
abbrev pub EventsDiffer : Annotations → Type 0
EventsDiffer l = (m n : ℕ) (a b : Event) → finite.get l.events m ≡ Some a → finite.get l.events n ≡ Some b → SameEvent a b → m ≡ n

-- no two relations are the same
abbrev pub RelationsDiffer : Annotations → Type 0
RelationsDiffer l = (m n : ℕ) (a b : Relation) → finite.get l.relations m ≡ Some a → finite.get l.relations n ≡ Some b → SameRelation a b → m ≡ n

-- no two attributes are the same, of the letters A and M together
abbrev pub AttributesDiffer : Annotations → Type 0
AttributesDiffer l = (j k : Kind) (m n : ℕ) (a b : Attribute) → attribute_of l j m ≡ Some a → attribute_of l k n ≡ Some b → SameAttribute a b → (j ≡ k) × (m ≡ n)

-- ---- all of it

-- a layer keeps itself whole: what is named is there and fits, no chain is too deep, and no two annotations are alike
pub record IsCoherent (l : Annotations) : Type 0 where
  pub stand : NamesStand l
  pub letters : LettersFit l
  pub chains : ChainsAreShort l
  pub spans : SpansDiffer l
  pub events : EventsDiffer l
  pub relations : RelationsDiffer l
  pub attributes : AttributesDiffer l
