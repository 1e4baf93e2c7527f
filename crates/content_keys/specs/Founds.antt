-- How counterparts are found, from places of one table to those of another.
use Rattle.std.specs.Prelude.{◌≡◌, ◌==◌, true, false, nat_lt, ℕ, List, [], ◌∷◌, Option, Some, None, option_and_then, if◌then◌else◌}
use Rattle.std.specs.List.Sorted.{IsPartitionPoint}
use Rattle.mark_base.specs.declared.ann_id.AnnId.{AnnId}
use Rattle.layer_model.specs.Classes.{rank}
use Rattle.content_keys.specs.declared.counterparts.Found.{Found}
use Rattle.content_keys.specs.declared.placed_layer.Placed.{Placed}
use Rattle.content_keys.specs.Carrying.{move_at}

-- the annotation and its counterpart
abbrev pub pair_of : Found → AnnId × Option AnnId
pair_of found = (found.id, found.there)

-- the annotations before an index come before an ID, and those from there on do not
abbrev pub IsEndBefore : List Found → AnnId → ℕ → Type 0
IsEndBefore found id at = IsPartitionPoint (λ one. nat_lt (rank one.id) (rank id) ≡ true) (λ one. nat_lt (rank one.id) (rank id) ≡ false) found at

-- the first annotation at a place
abbrev pub first_at : List Placed → ℕ → Option AnnId
first_at [] place = None
first_at (p ∷ ps) place = if p.place == place then Some p.id else first_at ps place

-- an annotation and the first of the others at the place where its place moves to
abbrev pub found_at : List (Option ℕ) → List Placed → Placed → AnnId × Option AnnId
found_at moves others p = (p.id, option_and_then (first_at others) (move_at moves p.place))
