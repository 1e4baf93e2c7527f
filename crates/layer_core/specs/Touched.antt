-- Which places of a layer may break a rule because of one annotation: where the layer without a change under its ID is well-formed, no other place can.
use Rattle.std.specs.Prelude.{ℕ, ◌||◌, Bool, false, Option, is_some, slice_get, filter}
use Rattle.std.specs.Option.{option_map_or}
use Rattle.std.specs.List.{list_any}
use Rattle.mark_base.specs.declared.ann_id.AnnId.{AnnId}
use Rattle.conf_model.specs.Configurations.{Configuration}
use Rattle.layer_model.specs.declared.mark.Mark.{Mark}
use Rattle.layer_model.specs.declared.flaw.Flaw.{Flaw}
use Rattle.layer_model.specs.declared.flaw.FlawPlace.{FlawPlace}
use Rattle.layer_model.specs.declared.flaw.FlawPlace.TheVariants as at
use Rattle.layer_model.specs.Annotations.{Annotations}
use Rattle.layer_model.specs.Layers.{mark_at}
use Rattle.layer_rules.specs.FlawPlaces.{first_rule, places}
use Rattle.layer_rules.specs.LayerRules.{is_id, layer_full, refused_overlap, same_attributes, same_events, same_relations, same_spans}
use Rattle.layer_rules.specs.WellFormed.{in_order}
use Rattle.layer_core.specs.MadeLayers.{falls_by}

-- a mark makes a pair with one under a lower ID that some rule on pairs forbids
abbrev pub makes_pair : Configuration → Mark → Mark → Bool
makes_pair conf mark lower = same_spans mark lower || same_events mark lower || same_relations mark lower || same_attributes mark lower || refused_overlap conf mark lower

-- the annotation of an ID makes such a pair with the one that was changed
abbrev pub pairs_with : Configuration → Annotations → AnnId → AnnId → Bool
pairs_with conf layer changed id = option_map_or (λ mark. option_map_or (makes_pair conf mark) (mark_at layer changed) false) (mark_at layer id) false

-- the annotation of an ID is the 10,001st of its sort
abbrev pub is_one_too_many : Annotations → AnnId → Bool
is_one_too_many layer id = option_map_or (λ mark. is_some (layer_full layer id mark)) (mark_at layer id) false

-- a class has the annotation that was changed as a member
abbrev pub has_changed : Annotations → AnnId → ℕ → Bool
has_changed layer changed index = option_map_or (λ class. list_any (is_id changed) class.members) (slice_get layer.classes index) false

-- the places that a change under an ID touches: it, what names it or names what names it over at most 16 steps, what makes a pair with it, what is one too many, and the classes that have it
abbrev pub touched : Configuration → Annotations → AnnId → FlawPlace → Bool
touched conf layer changed (at.Mark id) = falls_by 16 layer changed id || pairs_with conf layer changed id || is_one_too_many layer id
touched conf layer changed (at.Class index) = has_changed layer changed index

-- the least flaw of a layer at the places that a change under an ID touches
abbrev pub touched_flaw : Configuration → ℕ → Annotations → AnnId → Option Flaw
touched_flaw conf characters layer changed = first_rule (in_order conf characters layer) (filter (touched conf layer changed) (places layer))
