-- What a command does to a layer: the layer that it makes, or the first rule that it breaks.
use Rattle.std.specs.Prelude.{ℕ, ◌&&◌, Bool, false, not, nat_lt, Option, Some, None, option_map, option_and_then, find, Result, Ok, Err, if◌then◌else◌}
use Rattle.std.specs.Option.{option_map_or}
use Rattle.mark_base.specs.declared.ann_id.AnnId.{AnnId}
use Rattle.conf_model.specs.Configurations.{Configuration}
use Rattle.layer_model.specs.declared.mark.Mark.{Mark}
use Rattle.layer_model.specs.declared.rule.Rule.{Rule}
use Rattle.layer_model.specs.declared.rule.Rule.TheVariants.{SameSpan, SameEvent, SameRelation, AttributeThere, OverlapRefused}
use Rattle.layer_model.specs.Annotations.{Annotations}
use Rattle.layer_model.specs.Layers.{mark_at}
use Rattle.layer_model.specs.Rules.{number_of}
use Rattle.layer_core.specs.declared.command.Command.{Command}
use Rattle.layer_model.specs.LayerIds.{ids_of}
use Rattle.layer_rules.specs.LayerRules.{is_id, same_spans, same_events, same_relations, same_attributes, refused_overlap}
use Rattle.layer_rules.specs.WellFormed.{least_flaw}
use Rattle.layer_core.specs.MadeLayers.{Draft, draft}
use Rattle.layer_core.specs.OwnRules.{own_rule}

-- another annotation than the one of an ID makes a pair with a mark
abbrev pub other_than : (Mark → Mark → Bool) → Annotations → AnnId → Mark → AnnId → Bool
other_than pairs layer id mark other = not (is_id id other) && option_map_or (pairs mark) (mark_at layer other) false

-- the lowest other annotation that makes a pair with one, or else the one that was told
abbrev pub other_of : (Mark → Mark → Bool) → Annotations → AnnId → AnnId → AnnId
other_of pairs layer id told = option_map_or (λ other. other) (option_and_then (λ mark. find (other_than pairs layer id mark) (ids_of layer)) (mark_at layer id)) told

-- a rule on pairs carries the lowest annotation that makes a pair with the new or changed one
abbrev pub told_of : Configuration → Annotations → AnnId → Rule → Rule
told_of conf layer id (SameSpan told) = SameSpan (other_of same_spans layer id told)
told_of conf layer id (SameEvent told) = SameEvent (other_of same_events layer id told)
told_of conf layer id (SameRelation told) = SameRelation (other_of same_relations layer id told)
told_of conf layer id (AttributeThere told) = AttributeThere (other_of same_attributes layer id told)
told_of conf layer id (OverlapRefused told) = OverlapRefused (other_of (refused_overlap conf) layer id told)
told_of conf layer id broken = broken

-- the rule that the layer of a draft breaks
abbrev pub draft_rule : Configuration → ℕ → Draft → Option Rule
draft_rule conf characters made =
    option_map (λ flaw. option_map_or (λ id. told_of conf made.layer id flaw.rule) made.changed flaw.rule) (least_flaw conf characters made.layer)

-- the one of two rules that has the lower number
abbrev pub lower_rule : Option Rule → Option Rule → Option Rule
lower_rule None b = b
lower_rule (Some a) None = Some a
lower_rule (Some a) (Some b) = if nat_lt (number_of b) (number_of a) then Some b else Some a

-- the first rule by number that a command breaks, by its own fields or by the layer that it makes
abbrev pub refusal : Configuration → ℕ → Annotations → Command → Option Rule
refusal conf characters layer command =
    lower_rule (own_rule conf characters layer command) (option_and_then (draft_rule conf characters) (draft conf layer command))

-- the ID of the new annotation of a draft
abbrev pub made_by : Draft → Option AnnId
made_by made = if made.is_new then made.changed else None

-- a layer that was made, and the ID of the annotation that is new in it
pub record Applied : Type 0 where
  pub layer : Annotations
  pub made : Option AnnId

-- what a draft comes to
abbrev pub applied_of : Annotations → Option Draft → Applied
applied_of layer None = record { layer = layer; made = None }
applied_of layer (Some made) = record { layer = made.layer; made = made_by made }

-- the outcome, or the rule that refuses it
abbrev pub answer_of : Option Rule → Applied → Result Applied Rule
answer_of None applied = Ok applied
answer_of (Some broken) applied = Err broken

-- what a command does to a layer, for a configuration and a text of so many characters
unfoldable pub apply : Configuration → ℕ → Annotations → Command → Result Applied Rule
apply conf characters layer command = answer_of (refusal conf characters layer command) (applied_of layer (draft conf layer command))
