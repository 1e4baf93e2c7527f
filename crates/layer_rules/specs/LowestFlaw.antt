-- The rules from the first to the twelfth look at one annotation or class alone and at what it names: which of them is broken first, and where.
use Rattle.std.specs.Prelude.{◌≡◌, ℕ, ◌+◌, ◌<◌, ◌≤◌, Bool, true, false, not, length, List, [], ◌∷◌, map, nat_le, Option, Some, None, option_map, if◌then◌else◌}
use Rattle.std.specs.Option.{option_or, option_map_or}
use Rattle.std.specs.FinMap as finite
use Rattle.mark_base.specs.declared.ann_id.Kind.{Kind}
use Rattle.overlap_rules.specs.Overlaps.{reach}
use Rattle.layer_model.specs.declared.span.Span.{Span}
use Rattle.layer_rules.specs.BadTexts.{are_fragments}
use Rattle.mark_base.specs.declared.overlap.OvlKind.{OvlKind}
use Rattle.mark_base.specs.declared.table_places.TypeId.{TypeId}
use Rattle.conf_model.specs.Configurations.{Configuration}
use Rattle.conf_model.specs.Lookups.{overlap_allowed}
use Rattle.layer_model.specs.declared.mark.Mark.{Mark}
use Rattle.layer_model.specs.declared.class.Class.{Class}
use Rattle.layer_model.specs.declared.rule.Rule.{Rule}
use Rattle.layer_model.specs.declared.rule.Rule.TheVariants.{LayerFull}
use Rattle.layer_model.specs.declared.flaw.Flaw.{Flaw}
use Rattle.layer_model.specs.declared.flaw.FlawPlace.{FlawPlace}
use Rattle.layer_model.specs.declared.flaw.FlawPlace.TheVariants as at
use Rattle.layer_model.specs.Rules.{number_of}
use Rattle.layer_model.specs.Annotations.{Annotations}
use Rattle.mark_base.specs.ReadIds.{id_at}
use Rattle.layer_rules.specs.FlawPlaces.{by_place}
use Rattle.layer_rules.specs.WellFormed.{at_unknown_type, at_not_for_use, at_bad_fragments, at_out_of_text, at_span_too_long, at_no_such, at_wrong_kind, at_unknown_role, at_argument_type, at_too_many, at_unknown_value, at_too_deep, at_same_span, at_same_event, at_same_relation, at_attribute_there, at_equiv_members, at_overlap_refused, at_bad_text, at_layer_full}
use Rattle.layer_rules.specs.MarkRules.{unknown_type, unknown_class, not_for_use, class_not_for_use, bad_fragments, out_of_text, span_too_long, named_by, first_missing, wanted_by, member, first_unwanted, unknown_role, argument_type, too_many, unknown_value}

-- the first of some rules that is broken
abbrev pub first_of : List (Option Rule) → Option Rule
first_of [] = None
first_of (rule ∷ rules_) = option_or rule (first_of rules_)

-- the first of these rules that an annotation breaks
abbrev pub mark_rule : Configuration → ℕ → Annotations → Mark → Option Rule
mark_rule conf characters layer mark =
    first_of (unknown_type conf mark ∷ not_for_use conf mark ∷ bad_fragments mark ∷ out_of_text characters mark ∷ span_too_long mark
    ∷ first_missing layer (named_by mark) ∷ first_unwanted (wanted_by conf layer mark) ∷ unknown_role conf mark ∷ argument_type conf layer mark ∷ too_many conf mark
    ∷ unknown_value conf mark ∷ [])

-- the first of these rules that a class breaks
abbrev pub class_rule : Configuration → Annotations → Class → Option Rule
class_rule conf layer class =
    first_of (unknown_class conf class ∷ class_not_for_use conf class ∷ first_missing layer class.members ∷ first_unwanted (map (member conf layer) class.members) ∷ [])

-- the first of these rules that a place breaks (private calls only)
abbrev pub at_single : Configuration → ℕ → Annotations → FlawPlace → Option Rule
at_single conf characters layer = by_place (λ id. mark_rule conf characters layer) (λ index. class_rule conf layer) layer

-- these rules in the order of their numbers (private calls only)
abbrev pub single_rules : Configuration → ℕ → Annotations → List (FlawPlace → Option Rule)
single_rules conf characters layer =
    at_unknown_type conf layer ∷ at_not_for_use conf layer ∷ at_bad_fragments layer ∷ at_out_of_text characters layer ∷ at_span_too_long layer
    ∷ at_no_such layer ∷ at_wrong_kind conf layer ∷ at_unknown_role conf layer ∷ at_argument_type conf layer ∷ at_too_many conf layer
    ∷ at_unknown_value conf layer ∷ []

-- the other rules in the order of their numbers (private calls only)
abbrev pub later_rules : Configuration → Annotations → List (FlawPlace → Option Rule)
later_rules conf layer =
    at_too_deep layer ∷ at_same_span layer ∷ at_same_event layer ∷ at_same_relation layer ∷ at_attribute_there layer ∷ at_equiv_members conf layer
    ∷ at_overlap_refused conf layer ∷ at_bad_text layer ∷ at_layer_full layer ∷ []

-- the flaw of a place that breaks a rule (private calls only)
abbrev pub flaw_at : FlawPlace → Option Rule → Option Flaw
flaw_at place broken = option_map (λ rule. record { rule = rule; at = place }) broken

-- of two flaws the one of the lower rule, and the first of two of one rule (private calls only)
abbrev pub lower_flaw : Option Flaw → Option Flaw → Option Flaw
lower_flaw None later = later
lower_flaw (Some flaw) None = Some flaw
lower_flaw (Some flaw) (Some later) = if nat_le (number_of flaw.rule) (number_of later.rule) then Some flaw else Some later

-- the flaw of the lowest rule among some places, at the first of them (private calls only)
abbrev pub lowest_at : (FlawPlace → Option Rule) → List FlawPlace → Option Flaw
lowest_at told [] = None
lowest_at told (place ∷ more) = lower_flaw (flaw_at place (told place)) (lowest_at told more)

-- the same among the annotations of a letter, by what each record breaks (private calls only)
abbrev pub lowest_of : {V : Type 0} → Kind → (V → Option Rule) → List (ℕ × V) → Option Flaw
lowest_of kind told [] = None
lowest_of kind told (entry ∷ more) = lower_flaw (flaw_at (at.Mark (id_at kind entry.0)) (told entry.1)) (lowest_of kind told more)

-- the same among classes, of which the first stands at this index (private calls only)
abbrev pub lowest_from : ℕ → (Class → Option Rule) → List Class → Option Flaw
lowest_from index told [] = None
lowest_from index told (class ∷ more) = lower_flaw (flaw_at (at.Class index) (told class)) (lowest_from (index + 1) told more)

-- the flaw at the first of some annotations of a letter that breaks a rule (private calls only)
abbrev pub first_among : {V : Type 0} → Kind → (ℕ → V → Option Rule) → List (ℕ × V) → Option Flaw
first_among kind told [] = None
first_among kind told (entry ∷ more) = option_or (flaw_at (at.Mark (id_at kind entry.0)) (told entry.0 entry.1)) (first_among kind told more)

-- the same among classes, of which the first stands at this index (private calls only)
abbrev pub first_from : ℕ → (ℕ → Class → Option Rule) → List Class → Option Flaw
first_from index told [] = None
first_from index told (class ∷ more) = option_or (flaw_at (at.Class index) (told index class)) (first_from (index + 1) told more)

-- the flaw of the 10,001st annotation of a sort, by its letter, the letter that it is counted as, and its number (private calls only)
abbrev pub full_at : Kind → Kind → Option ℕ → Option Flaw
full_at kind counted number = option_map (λ n. record { rule = LayerFull counted; at = at.Mark (id_at kind n) }) number

-- each span has fragments in order, does not reach too far, and has a type that the configuration declares (private calls only)
abbrev pub HasGoodSpans : Configuration → Annotations → Type 0
HasGoodSpans conf layer =
    (number : ℕ) (span : Span) → finite.get layer.spans number ≡ Some span → (are_fragments span.frags ≡ true) × (reach span.frags ≤ 10000) × (span.kind.n < length conf.types)

-- the span of a number may not lie so to one of this type (private calls only)
abbrev pub refuses : Configuration → Annotations → TypeId → ℕ → OvlKind → Bool
refuses conf layer kind number overlap = option_map_or (λ lower. not (overlap_allowed conf lower.kind kind overlap)) (finite.get layer.spans number) false
