-- The annotation of another layer that has the same content.
use Rattle.std.specs.Prelude.{◌≡◌, ◌==◌, ◌≤◌, ℕ, List, [], ◌∷◌, map, Option, Some, None, IsSome, MatchOption, option_and_then, if◌then◌else◌}
use Rattle.mark_base.specs.declared.ann_id.AnnId.{AnnId}
use Rattle.layer_model.specs.Annotations.{Annotations}
use Rattle.layer_model.specs.Classes.{rank}
use Rattle.content_keys.specs.LayerContents.{content_of, node_of}

-- what stands behind an ID in a list of IDs
abbrev pub behind : {X : Type 0} → AnnId → List (AnnId × X) → Option X
behind id [] = None
behind id (entry ∷ entries) = if rank entry.0 == rank id then Some entry.1 else behind id entries

-- the first ID with a content
abbrev pub first_with : List (AnnId × ℕ) → ℕ → Option AnnId
first_with [] content = None
first_with (entry ∷ entries) content = if entry.1 == content then Some entry.0 else first_with entries content

-- the first ID of the others with the content that this ID has among ours
abbrev pub counterpart_in : List (AnnId × ℕ) → List (AnnId × ℕ) → AnnId → Option AnnId
counterpart_in ours others id = option_and_then (first_with others) (behind id ours)

-- the counterpart of each ID
abbrev pub counterparts_in : List (AnnId × ℕ) → List (AnnId × ℕ) → List (AnnId × Option AnnId)
counterparts_in ours others = map (λ entry. (entry.0, first_with others entry.1)) ours

-- the counterpart of an ID, where there is one
abbrev pub counterpart_among : List (AnnId × Option AnnId) → AnnId → Option AnnId
counterpart_among found id = option_and_then (λ there. there) (behind id found)

-- two annotations have a content, and it is the same
pub record AreSame (layer : Annotations) (id : AnnId) (other : Annotations) (there : AnnId) : Type 0 where
  pub one : IsSome (node_of layer id)
  pub two : IsSome (node_of other there)
  pub content : content_of layer id ≡ content_of other there

-- the lowest annotation of the other layer with the same content, and none where none has it
abbrev pub IsLowest : Annotations → Annotations → AnnId → Option AnnId → Type 0
IsLowest layer other id found =
    MatchOption found
    ((there : AnnId) → AreSame layer id other there → ⊥)
    (λ lowest. AreSame layer id other lowest × ((there : AnnId) → AreSame layer id other there → rank lowest ≤ rank there))
