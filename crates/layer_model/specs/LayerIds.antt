-- The IDs of a layer, and their order.
use Rattle.std.specs.Prelude.{ℕ, List, [], ◌∷◌, map}
use Rattle.std.specs.List.{flat_map}
use Rattle.mark_base.specs.declared.ann_id.AnnId.{AnnId}
use Rattle.mark_base.specs.declared.ann_id.Kind.{Kind}
use Rattle.mark_base.specs.declared.ann_id.Kind.TheVariants.{Text, Event, Relation, Attribute, Legacy, Normal, Note}
use Rattle.mark_base.specs.ReadIds.{id_at}
use Rattle.layer_model.specs.Annotations.{Annotations}
use Rattle.layer_model.specs.Classes.{rank}
use Rattle.layer_model.specs.Layers.{numbers}

-- the letters in their order: T, E, R, A, M, N and #
abbrev pub letters : List Kind
letters = Text ∷ Event ∷ Relation ∷ Attribute ∷ Legacy ∷ Normal ∷ Note ∷ []

-- the place of an ID among all: by letter, then by number
abbrev pub id_place : AnnId → ℕ
id_place id = rank id

-- the IDs of a layer of one letter
abbrev pub ids_of_letter : Annotations → Kind → List AnnId
ids_of_letter layer kind = map (id_at kind) (numbers layer kind)

-- the IDs of a layer in their order
abbrev pub ids_of : Annotations → List AnnId
ids_of layer = flat_map (ids_of_letter layer) letters
