-- The places of a layer, in the order in which flaws are told.
use Rattle.std.specs.Prelude.{ℕ, List, [], ◌∷◌, ◌++◌, length, map, Option, None, option_map, option_and_then, slice_get}
use Rattle.std.specs.Option.{option_or}
use Rattle.std.specs.List.{range_with_len}
use Rattle.mark_base.specs.declared.ann_id.AnnId.{AnnId}
use Rattle.layer_model.specs.declared.mark.Mark.{Mark}
use Rattle.layer_model.specs.declared.class.Class.{Class}
use Rattle.layer_model.specs.declared.rule.Rule.{Rule}
use Rattle.layer_model.specs.declared.flaw.Flaw.{Flaw}
use Rattle.layer_model.specs.declared.flaw.FlawPlace.{FlawPlace}
use Rattle.layer_model.specs.declared.flaw.FlawPlace.TheVariants as at
use Rattle.layer_model.specs.Annotations.{Annotations}
use Rattle.layer_model.specs.Layers.{mark_at}
use Rattle.layer_model.specs.LayerIds.{ids_of}

-- all places: the annotations by their IDs, and then the classes
abbrev pub places : Annotations → List FlawPlace
places layer = map at.Mark (ids_of layer) ++ map at.Class (range_with_len 0 (length layer.classes))

-- what a place breaks, by what stands there
abbrev pub by_place : (AnnId → Mark → Option Rule) → (ℕ → Class → Option Rule) → Annotations → FlawPlace → Option Rule
by_place of_mark of_class layer (at.Mark id) = option_and_then (of_mark id) (mark_at layer id)
by_place of_mark of_class layer (at.Class index) = option_and_then (of_class index) (slice_get layer.classes index)

-- the flaw at the first of some places that breaks a rule
abbrev pub first_place : (FlawPlace → Option Rule) → List FlawPlace → Option Flaw
first_place broken [] = None
first_place broken (place ∷ more) = option_or (option_map (λ rule. record { rule = rule; at = place }) (broken place)) (first_place broken more)

-- the flaw of the first of some rules that is broken somewhere
abbrev pub first_rule : List (FlawPlace → Option Rule) → List FlawPlace → Option Flaw
first_rule [] all = None
first_rule (broken ∷ more) all = option_or (first_place broken all) (first_rule more all)
