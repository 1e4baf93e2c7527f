-- The places that the annotations of a layer have in a table of contents.
use Rattle.std.specs.Prelude.{◌≡◌, ℕ, suc, ◌<◌, List, length, map, slice_index, slice_index_or, Option, Some, IsSome}
use Rattle.std.specs.Ordering.{nat_cmp}
use Rattle.std.specs.BTreeMap.{BTreeMap, get}
use Rattle.mark_base.specs.declared.ann_id.AnnId.{AnnId}
use Rattle.layer_model.specs.Annotations.{Annotations}
use Rattle.layer_model.specs.Classes.{rank}
use Rattle.content_keys.specs.declared.placed_layer.Placed.{Placed}
use Rattle.content_keys.specs.Nodes.{Node}
use Rattle.content_keys.specs.Contents.{IsBuilt}
use Rattle.content_keys.specs.LayerContents.{node_of, content_of}
use Rattle.content_keys.specs.Tables.{values}

-- the place of an annotation
abbrev pub place_of : BTreeMap ℕ ℕ → AnnId → Option ℕ
place_of places id = get nat_cmp places (rank id)

-- each place has the content of its annotation
abbrev pub AreRight : Annotations → List (Node ℕ) → BTreeMap ℕ ℕ → Type 0
AreRight layer table places = (id : AnnId) (c : ℕ) → place_of places id ≡ Some c → (c < length table) × (slice_index (values table) c ≡ content_of layer id)

-- what had a place has one
abbrev pub Keeps : BTreeMap ℕ ℕ → BTreeMap ℕ ℕ → Type 0
Keeps old new = (id : AnnId) → IsSome (place_of old id) → IsSome (place_of new id)

-- an annotation that has a content has a place
abbrev pub HasPlace : Annotations → BTreeMap ℕ ℕ → AnnId → Type 0
HasPlace layer places id = (s : Node AnnId) → node_of layer id ≡ Some s → IsSome (place_of places id)

-- each annotation that is built to a depth has a place
abbrev pub ArePlaced : ℕ → Annotations → BTreeMap ℕ ℕ → Type 0
ArePlaced depth layer places = (id : AnnId) → IsBuilt (node_of layer) depth id → IsSome (place_of places id)

-- each annotation that has a content is built
abbrev pub AreBuilt : Annotations → Type 0
AreBuilt layer = (id : AnnId) → IsSome (node_of layer id) → IsBuilt (node_of layer) 19 id

-- the contents of placed annotations by the contents of the places, each behind its ID
abbrev pub contents_at : List ℕ → List Placed → List (AnnId × ℕ)
contents_at contents placed = map (λ p. (p.id, slice_index contents p.place)) placed

-- in a round: of the annotations before the index, each that is built one deeper than what had a place has one
pub record Rounds (layer : Annotations) (ids : List AnnId) (old new : BTreeMap ℕ ℕ) (index : ℕ) : Type 0 where
  pub keeps : Keeps old new
  pub done : (depth : ℕ) → ArePlaced depth layer old → (k : ℕ) (d : AnnId) → k < index → IsBuilt (node_of layer) (suc depth) (slice_index_or ids k d) → IsSome (place_of new (slice_index_or ids k d))

-- of the annotations before the index, each that has a content has a place
pub record HavePlaces (layer : Annotations) (ids : List AnnId) (places : BTreeMap ℕ ℕ) (index : ℕ) : Type 0 where
  pub each : (k : ℕ) (d : AnnId) → k < index → HasPlace layer places (slice_index_or ids k d)

-- the content of an annotation of a layer
abbrev pub IsOfMark : Annotations → ℕ → Type 0
IsOfMark layer content = (id : AnnId) × (IsSome (node_of layer id) × (content ≡ content_of layer id))
