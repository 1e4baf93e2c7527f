-- Each rule that looks at one annotation or class alone tells flaws of its own number.
use Rattle.std.proofs.Common.{◌≡◌, ℕ, Bool, true, false, not, nat_lt, nat_le, map, length, slice_get, refl, sym, ◌∙◌, ap, Option, Some, None}
use Rattle.std.specs.Option.{option_map, option_map_or, option_and_then, is_none}
use Rattle.std.specs.List.{list_any, find, range_with_len}
use Rattle.mark_base.specs.declared.ann_id.AnnId.{AnnId}
use Rattle.conf_model.specs.Configurations.{Configuration}
use Rattle.conf_model.specs.Lookups.{is_equivalence, roles_of, role_most, attribute_admits, values_of}
use Rattle.overlap_rules.specs.Overlaps.{last_end, reach}
use Rattle.layer_model.specs.declared.mark.Mark.{Mark}
use Rattle.layer_model.specs.declared.mark.Mark.TheVariants.{Span, Event, Relation, Attribute, Normal, Note}
use Rattle.layer_model.specs.declared.class.Class.{Class}
use Rattle.layer_model.specs.declared.rule.Rule.{Rule}
use Rattle.layer_model.specs.declared.rule.Rule.TheVariants.{UnknownType, NotForUse, BadFragments, OutOfText, SpanTooLong, NoSuch, WrongKind, UnknownRole, ArgumentType, TooMany, UnknownValue}
use Rattle.layer_model.specs.declared.rule.RoleAt.TheVariants as role
use Rattle.layer_model.specs.declared.flaw.FlawPlace.{FlawPlace}
use Rattle.layer_model.specs.declared.flaw.FlawPlace.TheVariants as at
use Rattle.layer_model.specs.Rules.{number_of}
use Rattle.layer_model.specs.Annotations.{Annotations}
use Rattle.layer_model.specs.Layers.{mark_at, has}
use Rattle.layer_rules.specs.Targets.{is_event_type, type_of, target_of}
use Rattle.layer_rules.specs.BadTexts.{are_fragments}
use Rattle.layer_rules.specs.FlawPlaces.{by_place}
use Rattle.layer_rules.specs.MarkRules.{where_so, unknown_type, unknown_class, is_barred_type, not_for_use, class_not_for_use, bad_fragments, out_of_text, span_too_long, named_by, first_missing, wanted_by, member, first_unwanted, unknown_role, is_refused_argument, relation_types, argument_type, filled, too_many, is_bad_value, unknown_value}
use Rattle.layer_rules.specs.WellFormed.{no_class, at_unknown_type, at_not_for_use, at_bad_fragments, at_out_of_text, at_span_too_long, at_no_such, at_wrong_kind, at_unknown_role, at_argument_type, at_too_many, at_unknown_value}

-- what is told has the number
pub record Gives (number : ℕ) (told : Option Rule) : Type 0 where
  pub gives : (rule : Rule) → told ≡ Some rule → number_of rule ≡ number

-- so at each place
abbrev pub Tells : ℕ → (FlawPlace → Option Rule) → Type 0
Tells number broken = (place : FlawPlace) → Gives number (broken place)

none_some : {rule : Rule} → None ≡ Some rule → ⊥
none_some e = cc

same_some : {a b : Rule} → Some a ≡ Some b → a ≡ b
same_some e = cc

nothing : (number : ℕ) → Gives number None
nothing number = record { gives = λ rule e. absurd (none_some e) }

so : (number : ℕ) (b : Bool) (broken : Rule) → number_of broken ≡ number → Gives number (where_so b broken)
so number true broken is = record { gives = λ rule e. sym (ap number_of (same_some e)) ∙ is }
so number false broken is = nothing number

each : {X : Type 0} (number : ℕ) (f : X → Rule) → ((x : X) → number_of (f x) ≡ number) → (o : Option X) → Gives number (option_map f o)
each number f is None = nothing number
each number f is (Some x) = record { gives = λ rule e. sym (ap number_of (same_some e)) ∙ is x }

by : (number : ℕ) (f : AnnId → Mark → Option Rule) (g : ℕ → Class → Option Rule) (layer : Annotations)
    → ((id : AnnId) (mark : Mark) → Gives number (f id mark)) → ((i : ℕ) (class : Class) → Gives number (g i class)) → Tells number (by_place f g layer)
by number f g layer marks classes (at.Mark id) =
    elim (mark_at layer id) as (λ o. Gives number (option_and_then (f id) o)) [ None ↦ nothing number | Some mark ↦ marks id mark ]
by number f g layer marks classes (at.Class i) =
    elim (slice_get layer.classes i) as (λ o. Gives number (option_and_then (g i) o)) [ None ↦ nothing number | Some class ↦ classes i class ]

no_class_gives : (number i : ℕ) (class : Class) → Gives number (no_class i class)
no_class_gives number i class = nothing number

type_gives : (conf : Configuration) (mark : Mark) → Gives 1 (unknown_type conf mark)
type_gives conf (Span span) = so 1 (is_none (slice_get conf.types span.kind.n)) UnknownType refl
type_gives conf (Event event) = so 1 (not (is_event_type conf event.kind)) UnknownType refl
type_gives conf (Relation relation) = so 1 (is_none (slice_get conf.relations relation.kind.n)) UnknownType refl
type_gives conf (Attribute attribute) = so 1 (is_none (slice_get conf.attributes attribute.kind.n)) UnknownType refl
type_gives conf (Normal normal) = nothing 1
type_gives conf (Note note) = nothing 1

pub type_tells : (conf : Configuration) (layer : Annotations) → Tells 1 (at_unknown_type conf layer)
type_tells conf layer = by 1 (λ id. unknown_type conf) (λ i. unknown_class conf) layer (λ id mark. type_gives conf mark) (λ i class. so 1 (is_none (slice_get conf.relations class.kind.n)) UnknownType refl)

use_gives : (conf : Configuration) (mark : Mark) → Gives 2 (not_for_use conf mark)
use_gives conf (Span span) = so 2 (is_barred_type conf span.kind) NotForUse refl
use_gives conf (Event event) = so 2 (is_barred_type conf event.kind) NotForUse refl
use_gives conf (Relation relation) = so 2 (is_equivalence conf relation.kind.n) NotForUse refl
use_gives conf (Attribute attribute) = nothing 2
use_gives conf (Normal normal) = nothing 2
use_gives conf (Note note) = nothing 2

pub use_tells : (conf : Configuration) (layer : Annotations) → Tells 2 (at_not_for_use conf layer)
use_tells conf layer = by 2 (λ id. not_for_use conf) (λ i. class_not_for_use conf) layer (λ id mark. use_gives conf mark) (λ i class. so 2 (not (is_equivalence conf class.kind.n)) NotForUse refl)

fragments_gives : (mark : Mark) → Gives 3 (bad_fragments mark)
fragments_gives (Span span) = so 3 (not (are_fragments span.frags)) BadFragments refl
fragments_gives (Event event) = nothing 3
fragments_gives (Relation relation) = nothing 3
fragments_gives (Attribute attribute) = nothing 3
fragments_gives (Normal normal) = nothing 3
fragments_gives (Note note) = nothing 3

pub fragments_tells : (layer : Annotations) → Tells 3 (at_bad_fragments layer)
fragments_tells layer = by 3 (λ id. bad_fragments) no_class layer (λ id mark. fragments_gives mark) (no_class_gives 3)

text_gives : (characters : ℕ) (mark : Mark) → Gives 4 (out_of_text characters mark)
text_gives characters (Span span) = so 4 (nat_lt characters (last_end 0 span.frags)) OutOfText refl
text_gives characters (Event event) = nothing 4
text_gives characters (Relation relation) = nothing 4
text_gives characters (Attribute attribute) = nothing 4
text_gives characters (Normal normal) = nothing 4
text_gives characters (Note note) = nothing 4

pub text_tells : (characters : ℕ) (layer : Annotations) → Tells 4 (at_out_of_text characters layer)
text_tells characters layer = by 4 (λ id. out_of_text characters) no_class layer (λ id mark. text_gives characters mark) (no_class_gives 4)

long_gives : (mark : Mark) → Gives 5 (span_too_long mark)
long_gives (Span span) = so 5 (nat_lt 10000 (reach span.frags)) SpanTooLong refl
long_gives (Event event) = nothing 5
long_gives (Relation relation) = nothing 5
long_gives (Attribute attribute) = nothing 5
long_gives (Normal normal) = nothing 5
long_gives (Note note) = nothing 5

pub long_tells : (layer : Annotations) → Tells 5 (at_span_too_long layer)
long_tells layer = by 5 (λ id. span_too_long) no_class layer (λ id mark. long_gives mark) (no_class_gives 5)

pub there_tells : (layer : Annotations) → Tells 6 (at_no_such layer)
there_tells layer =
    by 6 (λ id mark. first_missing layer (named_by mark)) (λ i class. first_missing layer class.members) layer
    (λ id mark. each 6 NoSuch (λ x. refl) (find (λ other. not (has layer other)) (named_by mark))) (λ i class. each 6 NoSuch (λ x. refl) (find (λ other. not (has layer other)) class.members))

pub kind_tells : (conf : Configuration) (layer : Annotations) → Tells 7 (at_wrong_kind conf layer)
kind_tells conf layer =
    by 7 (λ id mark. first_unwanted (wanted_by conf layer mark)) (λ i class. first_unwanted (map (member conf layer) class.members)) layer
    (λ id mark. each 7 (λ wanted. WrongKind wanted.id) (λ x. refl) (find (λ wanted. not wanted.fits) (wanted_by conf layer mark)))
    (λ i class. each 7 (λ wanted. WrongKind wanted.id) (λ x. refl) (find (λ wanted. not wanted.fits) (map (member conf layer) class.members)))

role_gives : (conf : Configuration) (mark : Mark) → Gives 8 (unknown_role conf mark)
role_gives conf (Span span) = nothing 8
role_gives conf (Event event) = so 8 (list_any (λ arg. nat_le (length (roles_of conf event.kind.n)) arg.role) event.args) UnknownRole refl
role_gives conf (Relation relation) = nothing 8
role_gives conf (Attribute attribute) = nothing 8
role_gives conf (Normal normal) = nothing 8
role_gives conf (Note note) = nothing 8

pub role_tells : (conf : Configuration) (layer : Annotations) → Tells 8 (at_unknown_role conf layer)
role_tells conf layer = by 8 (λ id. unknown_role conf) no_class layer (λ id mark. role_gives conf mark) (no_class_gives 8)

argument_gives : (conf : Configuration) (layer : Annotations) (mark : Mark) → Gives 9 (argument_type conf layer mark)
argument_gives conf layer (Span span) = nothing 9
argument_gives conf layer (Event event) = each 9 (λ arg. ArgumentType (role.Event event.kind arg.role)) (λ x. refl) (find (is_refused_argument conf layer event.kind) event.args)
argument_gives conf layer (Relation relation) =
    each 9 (λ second. ArgumentType (role.Relation relation.kind second)) (λ x. refl) (relation_types conf relation.kind.n (type_of layer relation.first) (type_of layer relation.second))
argument_gives conf layer (Attribute attribute) =
    so 9 (option_map_or (λ target. not (attribute_admits conf attribute.kind.n target)) (target_of layer attribute.target) false) (ArgumentType role.Attribute) refl
argument_gives conf layer (Normal normal) = nothing 9
argument_gives conf layer (Note note) = nothing 9

pub argument_tells : (conf : Configuration) (layer : Annotations) → Tells 9 (at_argument_type conf layer)
argument_tells conf layer = by 9 (λ id. argument_type conf layer) no_class layer (λ id mark. argument_gives conf layer mark) (no_class_gives 9)

many_gives : (conf : Configuration) (mark : Mark) → Gives 10 (too_many conf mark)
many_gives conf (Span span) = nothing 10
many_gives conf (Event event) =
    each 10 (λ place. TooMany (role.Event event.kind place)) (λ x. refl)
    (find (λ place. nat_lt (role_most conf event.kind.n place) (filled place event.args)) (range_with_len 0 (length (roles_of conf event.kind.n))))
many_gives conf (Relation relation) = nothing 10
many_gives conf (Attribute attribute) = nothing 10
many_gives conf (Normal normal) = nothing 10
many_gives conf (Note note) = nothing 10

pub many_tells : (conf : Configuration) (layer : Annotations) → Tells 10 (at_too_many conf layer)
many_tells conf layer = by 10 (λ id. too_many conf) no_class layer (λ id mark. many_gives conf mark) (no_class_gives 10)

value_gives : (conf : Configuration) (mark : Mark) → Gives 12 (unknown_value conf mark)
value_gives conf (Span span) = nothing 12
value_gives conf (Event event) = nothing 12
value_gives conf (Relation relation) = nothing 12
value_gives conf (Attribute attribute) = so 12 (is_bad_value (length (values_of conf attribute.kind.n)) attribute.value) UnknownValue refl
value_gives conf (Normal normal) = nothing 12
value_gives conf (Note note) = nothing 12

pub value_tells : (conf : Configuration) (layer : Annotations) → Tells 12 (at_unknown_value conf layer)
value_tells conf layer = by 12 (λ id. unknown_value conf) no_class layer (λ id mark. value_gives conf mark) (no_class_gives 12)
