-- What all holders of a snapshot have: the annotations and the classes of the first whose content stands in every layer.
-- They are compared by content, and never by ID (WebAnno user guide, "Curation").
use Rattle.std.specs.Prelude.{ℕ, ◌==◌, Bool, List, [], ◌∷◌, filter, refl}
use Rattle.std.specs.Coded.{Coded, code_by, coded×, coded_list}
use Rattle.std.specs.List.{list_all, list_any}
use Rattle.mark_base.specs.declared.ann_id.AnnId.{AnnId}
use Rattle.mark_base.specs.contracts.ann_id.AnnId as id_row
use Rattle.layer_model.specs.declared.class.Class.{Class}
use Rattle.layer_model.specs.contracts.class.Class as class_row
use Rattle.layer_model.specs.Annotations.{Annotations}
use Rattle.content_keys.specs.LayerContents.{class_content}
use Rattle.unanimous_merge.specs.Readings.{Reading, class_contents, content_under, contents, readings}
use Rattle.unanimous_merge.specs.Items.{stands}

-- the content stands in each layer
abbrev pub in_each : List Reading → ℕ → Bool
in_each layers content = list_all (λ layer. stands content (contents layer)) layers

-- a class of each layer has the content
abbrev pub class_in_each : List Reading → ℕ → Bool
class_in_each layers content = list_all (λ layer. list_any (λ one. one == content) (class_contents layer)) layers

-- the annotations of the first layer whose content stands in each
abbrev pub unanimous_ids : List Reading → List AnnId
unanimous_ids [] = []
unanimous_ids (first ∷ others) = filter (λ id. in_each (first ∷ others) (content_under first id)) first.ids

-- the classes of the first layer whose type and set of contents a class of each has
abbrev pub unanimous_classes : List Reading → List Class
unanimous_classes [] = []
unanimous_classes (first ∷ others) = filter (λ class. class_in_each (first ∷ others) (class_content (content_under first) class)) first.classes

-- what a snapshot has unanimous
pub record Picked : Type 0 where
  pub ids : List AnnId
  pub classes : List Class

-- it is stored as the pair of its fields
abbrev pub picked_code : Coded Picked
picked_code = code_by (List AnnId × List Class) (coded× (coded_list id_row.the_row.coded) (coded_list class_row.the_row.coded)) (λ p. (p.ids, p.classes)) (λ q. record { ids = q.0; classes = q.1 }) (λ _. refl)

-- the annotations and the classes that all holders of a snapshot have
abbrev pub picked : List (List ℕ × Annotations) → Picked
picked rows = record { ids = unanimous_ids (readings rows); classes = unanimous_classes (readings rows) }
