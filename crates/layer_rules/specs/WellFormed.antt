-- Which layers are well-formed for a configuration and a text, the least flaw of one that is not, and which may be committed.
use Rattle.std.specs.Prelude.{◌≡◌, ℕ, List, [], ◌∷◌, length, map, nat_lt, Option, None, option_map, option_and_then, find}
use Rattle.std.specs.Option.{option_or}
use Rattle.std.specs.List.{range_with_len}
use Rattle.std.specs.FinMap as finite
use Rattle.mark_base.specs.declared.ann_id.Kind.TheVariants as letter
use Rattle.conf_model.specs.Configurations.{Configuration}
use Rattle.conf_model.specs.Lookups.{roles_of, role_least}
use Rattle.layer_model.specs.declared.class.Class.{Class}
use Rattle.layer_model.specs.declared.event.Event.{Event}
use Rattle.layer_model.specs.declared.rule.Rule.{Rule}
use Rattle.layer_model.specs.declared.rule.Rule.TheVariants.{TooFew}
use Rattle.layer_model.specs.declared.rule.RoleAt.TheVariants as role
use Rattle.layer_model.specs.declared.flaw.Flaw.{Flaw}
use Rattle.layer_model.specs.declared.flaw.FlawPlace.{FlawPlace}
use Rattle.layer_model.specs.Annotations.{Annotations}
use Rattle.mark_base.specs.ReadIds.{id_at}
use Rattle.layer_rules.specs.FlawPlaces.{places, by_place, first_rule}
use Rattle.layer_rules.specs.MarkRules.{unknown_type, unknown_class, not_for_use, class_not_for_use, bad_fragments, out_of_text, span_too_long, named_by, first_missing, wanted_by, member, first_unwanted, unknown_role, argument_type, too_many, filled, unknown_value}
use Rattle.layer_rules.specs.LayerRules.{too_deep, same_span, same_event, same_relation, attribute_there, equiv_members, overlap_refused, bad_text, layer_full, classes_full}

-- no class breaks the rule
abbrev pub no_class : ℕ → Class → Option Rule
no_class index class = None

-- the rule that a place breaks, one definition a rule: types that are known
abbrev pub at_unknown_type : Configuration → Annotations → FlawPlace → Option Rule
at_unknown_type conf layer = by_place (λ id. unknown_type conf) (λ index. unknown_class conf) layer

-- types that annotations may have
abbrev pub at_not_for_use : Configuration → Annotations → FlawPlace → Option Rule
at_not_for_use conf layer = by_place (λ id. not_for_use conf) (λ index. class_not_for_use conf) layer

-- fragments in order
abbrev pub at_bad_fragments : Annotations → FlawPlace → Option Rule
at_bad_fragments layer = by_place (λ id. bad_fragments) no_class layer

-- fragments within the text
abbrev pub at_out_of_text : ℕ → Annotations → FlawPlace → Option Rule
at_out_of_text characters layer = by_place (λ id. out_of_text characters) no_class layer

-- spans that reach not too far
abbrev pub at_span_too_long : Annotations → FlawPlace → Option Rule
at_span_too_long layer = by_place (λ id. span_too_long) no_class layer

-- named IDs that are there
abbrev pub at_no_such : Annotations → FlawPlace → Option Rule
at_no_such layer = by_place (λ id mark. first_missing layer (named_by mark)) (λ index class. first_missing layer class.members) layer

-- named IDs that their places want
abbrev pub at_wrong_kind : Configuration → Annotations → FlawPlace → Option Rule
at_wrong_kind conf layer = by_place (λ id mark. first_unwanted (wanted_by conf layer mark)) (λ index class. first_unwanted (map (member conf layer) class.members)) layer

-- roles that the event type has
abbrev pub at_unknown_role : Configuration → Annotations → FlawPlace → Option Rule
at_unknown_role conf layer = by_place (λ id. unknown_role conf) no_class layer

-- targets whose types are admitted
abbrev pub at_argument_type : Configuration → Annotations → FlawPlace → Option Rule
at_argument_type conf layer = by_place (λ id. argument_type conf layer) no_class layer

-- roles that are not filled too often
abbrev pub at_too_many : Configuration → Annotations → FlawPlace → Option Rule
at_too_many conf layer = by_place (λ id. too_many conf) no_class layer

-- values that are declared
abbrev pub at_unknown_value : Configuration → Annotations → FlawPlace → Option Rule
at_unknown_value conf layer = by_place (λ id. unknown_value conf) no_class layer

-- chains of events that are short enough
abbrev pub at_too_deep : Annotations → FlawPlace → Option Rule
at_too_deep layer = by_place (too_deep layer) no_class layer

-- spans that differ
abbrev pub at_same_span : Annotations → FlawPlace → Option Rule
at_same_span layer = by_place (same_span layer) no_class layer

-- events that differ
abbrev pub at_same_event : Annotations → FlawPlace → Option Rule
at_same_event layer = by_place (same_event layer) no_class layer

-- relations that differ
abbrev pub at_same_relation : Annotations → FlawPlace → Option Rule
at_same_relation layer = by_place (same_relation layer) no_class layer

-- attributes that differ in type or target
abbrev pub at_attribute_there : Annotations → FlawPlace → Option Rule
at_attribute_there layer = by_place (attribute_there layer) no_class layer

-- members that make a class
abbrev pub at_equiv_members : Configuration → Annotations → FlawPlace → Option Rule
at_equiv_members conf layer = by_place (λ id mark. None) (λ index. equiv_members conf layer) layer

-- overlaps that are allowed
abbrev pub at_overlap_refused : Configuration → Annotations → FlawPlace → Option Rule
at_overlap_refused conf layer = by_place (overlap_refused conf layer) no_class layer

-- texts that may stand
abbrev pub at_bad_text : Annotations → FlawPlace → Option Rule
at_bad_text layer = by_place (λ id. bad_text) no_class layer

-- not too many annotations of a sort, and not too many classes
abbrev pub at_layer_full : Annotations → FlawPlace → Option Rule
at_layer_full layer = by_place (layer_full layer) classes_full layer

-- no place breaks a rule
abbrev pub Never : (FlawPlace → Option Rule) → Type 0
Never broken = (place : FlawPlace) → broken place ≡ None

-- a layer is well-formed for a configuration and a text of so many characters where no place breaks a rule
pub record IsWellFormed (conf : Configuration) (characters : ℕ) (layer : Annotations) : Type 0 where
  pub types : Never (at_unknown_type conf layer)
  pub for_use : Never (at_not_for_use conf layer)
  pub fragments : Never (at_bad_fragments layer)
  pub in_text : Never (at_out_of_text characters layer)
  pub short : Never (at_span_too_long layer)
  pub there : Never (at_no_such layer)
  pub fitting : Never (at_wrong_kind conf layer)
  pub roles : Never (at_unknown_role conf layer)
  pub admitted : Never (at_argument_type conf layer)
  pub not_too_many : Never (at_too_many conf layer)
  pub values : Never (at_unknown_value conf layer)
  pub shallow : Never (at_too_deep layer)
  pub spans_differ : Never (at_same_span layer)
  pub events_differ : Never (at_same_event layer)
  pub relations_differ : Never (at_same_relation layer)
  pub attributes_differ : Never (at_attribute_there layer)
  pub members : Never (at_equiv_members conf layer)
  pub overlaps : Never (at_overlap_refused conf layer)
  pub texts : Never (at_bad_text layer)
  pub room : Never (at_layer_full layer)

-- the rules in the order of their numbers
abbrev pub in_order : Configuration → ℕ → Annotations → List (FlawPlace → Option Rule)
in_order conf characters layer =
    at_unknown_type conf layer ∷ at_not_for_use conf layer ∷ at_bad_fragments layer ∷ at_out_of_text characters layer ∷ at_span_too_long layer
    ∷ at_no_such layer ∷ at_wrong_kind conf layer ∷ at_unknown_role conf layer ∷ at_argument_type conf layer ∷ at_too_many conf layer
    ∷ at_unknown_value conf layer ∷ at_too_deep layer ∷ at_same_span layer ∷ at_same_event layer ∷ at_same_relation layer
    ∷ at_attribute_there layer ∷ at_equiv_members conf layer ∷ at_overlap_refused conf layer ∷ at_bad_text layer ∷ at_layer_full layer ∷ []

-- the least flaw of a layer: of the rule of the least number, at the least place
unfoldable pub least_flaw : Configuration → ℕ → Annotations → Option Flaw
least_flaw conf characters layer = first_rule (in_order conf characters layer) (places layer)

-- the first role of an event that has fewer arguments than its least count
abbrev pub too_few_of : Configuration → Event → Option ℕ
too_few_of conf event = find (λ place. nat_lt (filled place event.args) (role_least conf event.kind.n place)) (range_with_len 0 (length (roles_of conf event.kind.n)))

-- the rule of the event of a number that has too few arguments of a role
abbrev pub too_few : Configuration → Annotations → ℕ → Option Rule
too_few conf layer number =
    option_and_then (λ event. option_map (λ place. TooFew (id_at letter.Event number) (role.Event event.kind place)) (too_few_of conf event)) (finite.get layer.events number)

-- the first of some that is told
abbrev pub first_told : {X : Type 0} → (X → Option Rule) → List X → Option Rule
first_told told [] = None
first_told told (x ∷ xs) = option_or (told x) (first_told told xs)

-- what forbids to commit a layer: the lowest event that has too few arguments, and its first such role
unfoldable pub commit_fault : Configuration → Annotations → Option Rule
commit_fault conf layer = first_told (too_few conf layer) (finite.keys layer.events)

-- a layer obeys a configuration: it is well-formed, and each event has as many arguments of each role as the role asks
pub record Obeys (conf : Configuration) (characters : ℕ) (layer : Annotations) : Type 0 where
  pub well_formed : IsWellFormed conf characters layer
  pub enough : commit_fault conf layer ≡ None
