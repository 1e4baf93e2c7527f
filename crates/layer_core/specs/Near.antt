-- What one annotation can have made faulty in a layer that was well-formed before it was put under its ID, rule by rule (private calls only).
use Rattle.std.specs.Prelude.{◌≡◌, ℕ, ◌||◌, Bool, true, false, nat_lt, List, [], ◌∷◌, Option, Some, None, option_map, option_and_then, filter, find, if◌then◌else◌}
use Rattle.std.specs.Option.{option_map_or, option_or}
use Rattle.std.specs.List.{list_any}
use Rattle.std.specs.FinMap as finite
use Rattle.mark_base.specs.declared.ann_id.AnnId.{AnnId}
use Rattle.conf_model.specs.Configurations.{Configuration}
use Rattle.layer_model.specs.declared.mark.Mark.{Mark}
use Rattle.layer_model.specs.declared.mark.Mark.TheVariants as marked
use Rattle.layer_model.specs.declared.span.Span.{Span}
use Rattle.layer_model.specs.declared.class.Class.{Class}
use Rattle.layer_model.specs.declared.rule.Rule.{Rule}
use Rattle.layer_model.specs.declared.rule.Rule.TheVariants.{SameSpan, SameEvent, SameRelation, AttributeThere, OverlapRefused}
use Rattle.layer_model.specs.declared.flaw.FlawPlace.{FlawPlace}
use Rattle.layer_model.specs.Annotations.{Annotations}
use Rattle.layer_model.specs.Classes.{rank}
use Rattle.layer_model.specs.Layers.{mark_at}
use Rattle.layer_model.specs.LayerIds.{ids_of}
use Rattle.layer_rules.specs.FlawPlaces.{first_place, places}
use Rattle.layer_rules.specs.LayerRules.{is_event_id, is_id, equiv_members, bad_text, refused_overlap, same_attributes, same_events, same_relations, same_spans}
use Rattle.layer_rules.specs.WellFormed.{IsWellFormed, at_layer_full, at_too_deep, first_told}
use Rattle.layer_rules.specs.MarkRules.{named_by}
use Rattle.layer_rules.specs.LowestFlaw.{class_rule, mark_rule}
use Rattle.layer_core.specs.Backs.{DiffersUnder}
use Rattle.layer_core.specs.Commands.{lower_rule, other_than}
use Rattle.layer_core.specs.Namers.{names_it}

-- a layer was well-formed before an annotation was put under an ID
abbrev pub WasWellFormed : Configuration → ℕ → Annotations → AnnId → Type 0
WasWellFormed conf characters layer id = (earlier : Annotations) × (IsWellFormed conf characters earlier × DiffersUnder layer id earlier)

-- ---- the rules on one annotation or class and what it names

-- the annotation of an ID, or one that names it
abbrev pub is_near : Annotations → AnnId → AnnId → Bool
is_near layer id other = is_id id other || names_it layer id other

-- an ID stands below another
abbrev pub is_below : AnnId → AnnId → Bool
is_below id other = nat_lt (rank other) (rank id)

-- the annotation of an ID and those that name it, ascending
abbrev pub near_ids : Annotations → AnnId → List AnnId
near_ids layer id = filter (is_near layer id) (ids_of layer)

-- a class has the annotation of an ID
abbrev pub has_it : AnnId → Class → Bool
has_it id class = list_any (is_id id) class.members

-- the rule of the lowest number that some annotations break, and the first of two of one number
abbrev pub lowest_rule : Configuration → ℕ → Annotations → List AnnId → Option Rule
lowest_rule conf characters layer [] = None
lowest_rule conf characters layer (id ∷ ids) = lower_rule (option_and_then (mark_rule conf characters layer) (mark_at layer id)) (lowest_rule conf characters layer ids)

-- what a class that has the annotation breaks by itself
abbrev pub class_near : Configuration → Annotations → AnnId → Class → Option Rule
class_near conf layer id class = if has_it id class then class_rule conf layer class else None

-- the same of the classes that have an annotation
abbrev pub lowest_class_rule : Configuration → Annotations → AnnId → List Class → Option Rule
lowest_class_rule conf layer id [] = None
lowest_class_rule conf layer id (class ∷ classes) = lower_rule (class_near conf layer id class) (lowest_class_rule conf layer id classes)

-- the lowest of these rules that is broken at the annotation, at those that name it, or at the classes that have it
unfoldable pub single_near : Configuration → ℕ → Annotations → AnnId → Option Rule
single_near conf characters layer id = lower_rule (lowest_rule conf characters layer (near_ids layer id)) (lowest_class_rule conf layer id layer.classes)

-- ---- the other rules

-- an event that has an event as an argument
abbrev pub leads_to_event : Mark → Bool
leads_to_event (marked.Event event) = list_any (λ arg. is_event_id arg.target) event.args
leads_to_event mark = false

-- the rule that the first place breaks which breaks one
abbrev pub rule_of_first : (FlawPlace → Option Rule) → Annotations → Option Rule
rule_of_first told layer = option_map (λ flaw. flaw.rule) (first_place told (places layer))

-- the lowest other annotation that makes a pair with the one of an ID
abbrev pub other_pair : (Mark → Mark → Bool) → Annotations → AnnId → Option AnnId
other_pair pairs layer id = option_and_then (λ mark. find (other_than pairs layer id mark) (ids_of layer)) (mark_at layer id)

-- what makes a pair with the annotation of an ID names a third
abbrev pub PairsName : (Mark → Mark → Bool) → Annotations → AnnId → AnnId → Type 0
PairsName pairs layer id named = (mark other : Mark) → mark_at layer id ≡ Some mark → pairs mark other ≡ true → list_any (is_id named) (named_by other) ≡ true

-- the span of a number is the same as another
abbrev pub is_same_span : Annotations → Span → ℕ → Bool
is_same_span layer span number = option_map_or (λ other. same_spans (marked.Span span) (marked.Span other)) (finite.get layer.spans number) false

-- two annotations that are the same
unfoldable pub pairs_near : Annotations → AnnId → Option Rule
pairs_near layer id =
    option_or (option_map SameSpan (other_pair same_spans layer id)) (option_or (option_map SameEvent (other_pair same_events layer id))
    (option_or (option_map SameRelation (other_pair same_relations layer id)) (option_map AttributeThere (other_pair same_attributes layer id))))

-- the members of the first class that has the annotation and does not make one
abbrev pub members_of_near : Configuration → Annotations → AnnId → Class → Option Rule
members_of_near conf layer id class = if has_it id class then equiv_members conf layer class else None

-- members that do not make a class
abbrev pub members_near : Configuration → Annotations → AnnId → Option Rule
members_near conf layer id = first_told (members_of_near conf layer id) layer.classes

-- spans whose overlap is not allowed
abbrev pub overlap_near : Configuration → Annotations → AnnId → Option Rule
overlap_near conf layer id = option_map OverlapRefused (other_pair (refused_overlap conf) layer id)

-- the text of the annotation
abbrev pub text_near : Annotations → AnnId → Option Rule
text_near layer id = option_and_then bad_text (mark_at layer id)

-- the first of all these rules
abbrev pub later_near : Configuration → Annotations → AnnId → Option Rule
later_near conf layer id =
    option_or (rule_of_first (at_too_deep layer) layer) (option_or (pairs_near layer id) (option_or (members_near conf layer id)
    (option_or (overlap_near conf layer id) (option_or (text_near layer id) (rule_of_first (at_layer_full layer) layer)))))
