-- What a merge reads of a layer.
use Rattle.std.specs.Prelude.{ℕ, List, map, Option}
use Rattle.mark_base.specs.declared.ann_id.AnnId.{AnnId}
use Rattle.layer_model.specs.declared.class.Class.{Class}
use Rattle.layer_model.specs.declared.mark.Mark.{Mark}
use Rattle.layer_model.specs.Annotations.{Annotations}
use Rattle.layer_model.specs.Layers.{mark_at}
use Rattle.content_keys.specs.LayerContents.{class_content, content_in, ids_of}

-- the IDs that have a content, in their order, the mark under each ID, and the classes
pub record Reading : Type 0 where
  pub ids : List AnnId
  pub mark : AnnId → Option Mark
  pub classes : List Class

-- a layer as it is read
abbrev pub reading_of : Annotations → Reading
reading_of layer = record { ids = ids_of layer; mark = mark_at layer; classes = layer.classes }

-- the layers of a snapshot, in the order of their holders
abbrev pub readings : List (List ℕ × Annotations) → List Reading
readings rows = map (λ row. reading_of row.1) rows

-- the content under an ID
abbrev pub content_under : Reading → AnnId → ℕ
content_under layer id = content_in layer.mark id

-- the contents of a layer, each behind its ID
abbrev pub contents : Reading → List (AnnId × ℕ)
contents layer = map (λ id. (id, content_under layer id)) layer.ids

-- the contents of its classes: of each the type and the set of its members' contents
abbrev pub class_contents : Reading → List ℕ
class_contents layer = map (class_content (content_under layer)) layer.classes
