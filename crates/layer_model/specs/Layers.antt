-- What a layer has under an ID, and what it is with a mark more or less.
use Rattle.std.specs.Prelude.{ℕ, Bool, true, false, List, Option, None, option_map}
use Rattle.std.specs.FinMap as finite
use Rattle.mark_base.specs.declared.ann_id.AnnId.{AnnId}
use Rattle.mark_base.specs.declared.ann_id.Kind.{Kind}
use Rattle.mark_base.specs.declared.ann_id.Kind.TheVariants as letter
use Rattle.layer_model.specs.declared.attribute.Attribute.{Attribute}
use Rattle.layer_model.specs.declared.class.Class.{Class}
use Rattle.layer_model.specs.declared.mark.Mark.{Mark}
use Rattle.layer_model.specs.declared.mark.Mark.TheVariants as marked
use Rattle.layer_model.specs.Annotations.{Annotations}
use Rattle.layer_model.specs.Numbers.{NumbersFit, greatest_of}
use Rattle.layer_model.specs.Classes.{IsClassList}

-- the mark under the letter and the number
abbrev pub mark_of : Annotations → Kind → ℕ → Option Mark
mark_of l letter.Text n = option_map marked.Span (finite.get l.spans n)
mark_of l letter.Event n = option_map marked.Event (finite.get l.events n)
mark_of l letter.Relation n = option_map marked.Relation (finite.get l.relations n)
mark_of l letter.Attribute n = option_map marked.Attribute (finite.get l.attributes n)
mark_of l letter.Legacy n = option_map marked.Attribute (finite.get l.legacy n)
mark_of l letter.Normal n = option_map marked.Normal (finite.get l.normals n)
mark_of l letter.Note n = option_map marked.Note (finite.get l.notes n)

-- the mark under an ID
abbrev pub mark_at : Annotations → AnnId → Option Mark
mark_at l id = mark_of l id.kind id.number

-- the attribute under the letter A or M and the number
abbrev pub attribute_of : Annotations → Kind → ℕ → Option Attribute
attribute_of l letter.Attribute n = finite.get l.attributes n
attribute_of l letter.Legacy n = finite.get l.legacy n
attribute_of l kind n = None

-- the attribute under an ID of the letter A or M
abbrev pub attribute_at : Annotations → AnnId → Option Attribute
attribute_at l id = attribute_of l id.kind id.number

-- the numbers that the layer has of a letter, ascending
abbrev pub numbers : Annotations → Kind → List ℕ
numbers l letter.Text = finite.keys l.spans
numbers l letter.Event = finite.keys l.events
numbers l letter.Relation = finite.keys l.relations
numbers l letter.Attribute = finite.keys l.attributes
numbers l letter.Legacy = finite.keys l.legacy
numbers l letter.Normal = finite.keys l.normals
numbers l letter.Note = finite.keys l.notes

-- the layer has an annotation of this letter and number
abbrev pub has_number : Annotations → Kind → ℕ → Bool
has_number l letter.Text n = finite.contains_key l.spans n
has_number l letter.Event n = finite.contains_key l.events n
has_number l letter.Relation n = finite.contains_key l.relations n
has_number l letter.Attribute n = finite.contains_key l.attributes n
has_number l letter.Legacy n = finite.contains_key l.legacy n
has_number l letter.Normal n = finite.contains_key l.normals n
has_number l letter.Note n = finite.contains_key l.notes n

-- the layer has the annotation of this ID
abbrev pub has : Annotations → AnnId → Bool
has l id = has_number l id.kind id.number

-- how many annotations of a letter
abbrev pub count : Annotations → Kind → ℕ
count l letter.Text = finite.len l.spans
count l letter.Event = finite.len l.events
count l letter.Relation = finite.len l.relations
count l letter.Attribute = finite.len l.attributes
count l letter.Legacy = finite.len l.legacy
count l letter.Normal = finite.len l.normals
count l letter.Note = finite.len l.notes

-- the greatest number of a letter
abbrev pub greatest : Annotations → Kind → Option ℕ
greatest l kind = greatest_of (numbers l kind)

-- the mark is of the sort that stands under the letter
abbrev pub is_of_kind : Kind → Mark → Bool
is_of_kind letter.Text (marked.Span span) = true
is_of_kind letter.Event (marked.Event event) = true
is_of_kind letter.Relation (marked.Relation relation) = true
is_of_kind letter.Attribute (marked.Attribute attribute) = true
is_of_kind letter.Legacy (marked.Attribute attribute) = true
is_of_kind letter.Normal (marked.Normal normal) = true
is_of_kind letter.Note (marked.Note note) = true
is_of_kind kind mark = false

-- the layer with a mark under the letter and the number; a mark of another sort changes nothing
abbrev pub with_marked : Annotations → Kind → ℕ → Mark → Annotations
with_marked l letter.Text n (marked.Span span) = record l { spans = finite.insert l.spans n span }
with_marked l letter.Event n (marked.Event event) = record l { events = finite.insert l.events n event }
with_marked l letter.Relation n (marked.Relation relation) = record l { relations = finite.insert l.relations n relation }
with_marked l letter.Attribute n (marked.Attribute attribute) = record l { attributes = finite.insert l.attributes n attribute }
with_marked l letter.Legacy n (marked.Attribute attribute) = record l { legacy = finite.insert l.legacy n attribute }
with_marked l letter.Normal n (marked.Normal normal) = record l { normals = finite.insert l.normals n normal }
with_marked l letter.Note n (marked.Note note) = record l { notes = finite.insert l.notes n note }
with_marked l kind n mark = l

-- the layer with a mark under an ID
abbrev pub with_mark : Annotations → AnnId → Mark → Annotations
with_mark l id mark = with_marked l id.kind id.number mark

-- the layer with nothing under the letter and the number
abbrev pub without_number : Annotations → Kind → ℕ → Annotations
without_number l letter.Text n = record l { spans = finite.remove l.spans n }
without_number l letter.Event n = record l { events = finite.remove l.events n }
without_number l letter.Relation n = record l { relations = finite.remove l.relations n }
without_number l letter.Attribute n = record l { attributes = finite.remove l.attributes n }
without_number l letter.Legacy n = record l { legacy = finite.remove l.legacy n }
without_number l letter.Normal n = record l { normals = finite.remove l.normals n }
without_number l letter.Note n = record l { notes = finite.remove l.notes n }

-- the layer with nothing under an ID
abbrev pub without : Annotations → AnnId → Annotations
without l id = without_number l id.kind id.number

-- the layer with other classes
abbrev pub with_classes : Annotations → List Class → Annotations
with_classes l classes = record l { classes = classes }

-- ---- what every layer keeps

-- the numbers of each letter are those of IDs, and the classes stand in their order
pub record IsLayer (l : Annotations) : Type 0 where
  pub spans : NumbersFit l.spans
  pub events : NumbersFit l.events
  pub relations : NumbersFit l.relations
  pub attributes : NumbersFit l.attributes
  pub legacy : NumbersFit l.legacy
  pub normals : NumbersFit l.normals
  pub notes : NumbersFit l.notes
  pub classes : IsClassList l.classes
