-- What makes members no class: an ID that stands twice, or two types that may not be in one class (private calls only).
use Rattle.std.specs.Prelude.{ℕ, ◌+◌, ◌==◌, ◌||◌, ◌&&◌, not, Bool, true, false, List, [], ◌∷◌, nat_le}
use Rattle.std.specs.List.{list_any, count_by}
use Rattle.mark_base.specs.declared.ann_id.AnnId.{AnnId}
use Rattle.mark_base.specs.declared.table_places.TypeId.{TypeId}
use Rattle.layer_model.specs.LayerIds.{id_place}
use Rattle.layer_rules.specs.LayerRules.{is_id}

-- some ID stands twice
abbrev pub has_twins : List AnnId → Bool
has_twins [] = false
has_twins (id ∷ ids) = list_any (is_id id) ids || has_twins ids

-- each ID stands behind the one before it, and the first at this place or behind it
abbrev pub ascends_from : ℕ → List AnnId → Bool
ascends_from least [] = true
ascends_from least (id ∷ ids) = nat_le least (id_place id) && ascends_from (id_place id + 1) ids

-- some two of these do not fit
abbrev pub has_unfit : {X : Type 0} → (X → X → Bool) → List X → Bool
has_unfit fits [] = false
has_unfit fits (first ∷ others) = list_any (λ other. not (fits first other)) others || has_unfit fits others

-- a type stands twice
abbrev pub stands_twice : TypeId → List TypeId → Bool
stands_twice type_ types = nat_le 2 (count_by (λ other. other.n == type_.n) types)
