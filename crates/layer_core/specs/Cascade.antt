-- What falls with an annotation that goes, round by round (private calls only).
use Rattle.std.specs.Prelude.{◌≡◌, ℕ, ◌||◌, ◌&&◌, Bool, true, false, List, [], ◌∷◌}
use Rattle.std.specs.Option.{option_map_or}
use Rattle.std.specs.List.{list_any}
use Rattle.mark_base.specs.declared.ann_id.AnnId.{AnnId}
use Rattle.layer_model.specs.declared.class.Class.{Class}
use Rattle.layer_model.specs.Annotations.{Annotations}
use Rattle.layer_model.specs.Classes.{has_rank}
use Rattle.layer_model.specs.Layers.{mark_at}
use Rattle.layer_rules.specs.LayerRules.{is_id}
use Rattle.layer_rules.specs.MarkRules.{named_by}

-- an annotation falls in the next round: it is the one that goes, or it names that one or one that fell before
abbrev pub falls_next : Annotations → AnnId → List AnnId → AnnId → Bool
falls_next layer gone fallen id =
    is_id gone id || option_map_or (λ mark. list_any (λ named. is_id gone named || list_any (is_id named) fallen) (named_by mark)) (mark_at layer id) false

-- the same IDs in the same order
abbrev pub same_ids : List AnnId → List AnnId → Bool
same_ids [] [] = true
same_ids (a ∷ as_) (b ∷ bs) = is_id a b && same_ids as_ bs
same_ids [] (b ∷ bs) = false
same_ids (a ∷ as_) [] = false

-- each ID that stands in one of the classes is one of these
abbrev pub HoldMembers : List AnnId → List Class → Type 0
HoldMembers held classes = (place : ℕ) → has_rank place held ≡ false → list_any (λ class. has_rank place class.members) classes ≡ false
