-- IDs kept by their places.
use Rattle.std.specs.Prelude.{◌≡◌, ℕ, List}
use Rattle.std.specs.List.{AllByRecursion}
use Rattle.mark_base.specs.declared.ann_id.AnnId.{AnnId}
use Rattle.layer_model.specs.Classes.{rank}

-- each ID stands at its place
abbrev pub AtOwnRank : List (ℕ × AnnId) → Type 0
AtOwnRank entries = AllByRecursion (λ entry. entry.0 ≡ rank entry.1) entries
