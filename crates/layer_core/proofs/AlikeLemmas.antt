-- What the rules tell of an annotation or a class is told of what stands there and under the IDs that it names.
use Rattle.std.proofs.Common.{◌≡◌, ℕ, zero, suc, Bool, true, false, not, ◌&&◌, ◌||◌, List, [], ◌∷◌, map, length, Option, Some, None, option_map, option_and_then, is_some, nat_lt, refl, sym, ◌∙◌, ap, subst}
use Rattle.std.specs.Option.{option_map_or}
use Rattle.std.specs.List.{AllByRecursion, find, list_any, range_with_len}
use Rattle.std.specs.FinMap as finite
use Rattle.mark_base.specs.declared.ann_id.AnnId.{AnnId}
use Rattle.mark_base.specs.declared.ann_id.Kind.{Kind}
use Rattle.mark_base.specs.declared.ann_id.Kind.TheVariants as letter
use Rattle.mark_base.specs.declared.table_places.TypeId.{TypeId}
use Rattle.mark_base.specs.declared.arguments.Arg.{Arg}
use Rattle.mark_base.specs.ReadIds.{id_at}
use Rattle.conf_model.specs.declared.attr_target.AttrTarget.TheVariants.{Bound, Between}
use Rattle.conf_model.specs.Configurations.{Configuration}
use Rattle.conf_model.specs.Lookups.{attribute_admits, role_admits}
use Rattle.layer_model.specs.declared.event.Event.{Event}
use Rattle.layer_model.specs.declared.relation.Relation.{Relation}
use Rattle.layer_model.specs.declared.mark.Mark.{Mark}
use Rattle.layer_model.specs.declared.mark.Mark.TheVariants as marked
use Rattle.layer_model.specs.declared.rule.Rule.TheVariants.{ArgumentType, NoSuch, TooDeep}
use Rattle.layer_model.specs.declared.rule.RoleAt.TheVariants as role
use Rattle.layer_model.specs.declared.flaw.FlawPlace.TheVariants as at
use Rattle.layer_model.specs.Annotations.{Annotations}
use Rattle.layer_model.specs.Classes.{rank}
use Rattle.layer_model.specs.Layers.{has, has_number, mark_at, mark_of}
use Rattle.layer_model.specs.LayerIds.{ids_of}
use Rattle.layer_rules.specs.Targets.{is_argument, is_attribute_target, is_member, is_trigger, target_by, target_of, type_by, type_of}
use Rattle.layer_rules.specs.MarkRules.{Wanted, argument, argument_type, first_missing, is_refused_argument, member, named_by, relation_types, trigger, wanted_by, where_so}
use Rattle.layer_rules.specs.LayerRules.{are_bad_members, begins_longer_chain, is_event_id, is_id, letter_is_event, lower_pair, may_be_equal, refused_overlap, same_attributes, same_events, same_relations, same_spans, too_deep}
use Rattle.layer_core.specs.MadeLayers.{falls_by}
use Rattle.layer_core.specs.Touched.{makes_pair, pairs_with}
use Rattle.layer_rules.proofs.LawLemmas.{never}
use Rattle.layer_rules.proofs.CoherenceLemmas.{below_rule, no_class_place, none_below}
use Rattle.layer_core.proofs.ElsewhereLemmas.{not_so, first_false, last_false, with_false, not_made, some_mapped, then_mapped, then_none, along, of_mapped, none_any, same_any, same_find, same_mapped, find_nothing, one_id, MarksBut}

-- ---- what is told of an ID is told of what stands there

pub has_is : (l : Annotations) (kind : Kind) (n : ℕ) → has_number l kind n ≡ is_some (mark_of l kind n)
has_is l letter.Text n = some_mapped marked.Span (finite.get l.spans n)
has_is l letter.Event n = some_mapped marked.Event (finite.get l.events n)
has_is l letter.Relation n = some_mapped marked.Relation (finite.get l.relations n)
has_is l letter.Attribute n = some_mapped marked.Attribute (finite.get l.attributes n)
has_is l letter.Legacy n = some_mapped marked.Attribute (finite.get l.legacy n)
has_is l letter.Normal n = some_mapped marked.Normal (finite.get l.normals n)
has_is l letter.Note n = some_mapped marked.Note (finite.get l.notes n)

abbrev pub type_in : Mark → Option TypeId
type_in (marked.Span span) = Some span.kind
type_in (marked.Event event) = Some event.kind
type_in (marked.Relation relation) = None
type_in (marked.Attribute attribute) = None
type_in (marked.Normal normal) = None
type_in (marked.Note note) = None

type_is : (l : Annotations) (kind : Kind) (n : ℕ) → type_by l kind n ≡ option_and_then type_in (mark_of l kind n)
type_is l letter.Text n = then_mapped marked.Span type_in (λ span. span.kind) (finite.get l.spans n) (λ x. refl)
type_is l letter.Event n = then_mapped marked.Event type_in (λ event. event.kind) (finite.get l.events n) (λ x. refl)
type_is l letter.Relation n = then_none marked.Relation type_in (finite.get l.relations n) (λ x. refl)
type_is l letter.Attribute n = then_none marked.Attribute type_in (finite.get l.attributes n) (λ x. refl)
type_is l letter.Legacy n = then_none marked.Attribute type_in (finite.get l.legacy n) (λ x. refl)
type_is l letter.Normal n = then_none marked.Normal type_in (finite.get l.normals n) (λ x. refl)
type_is l letter.Note n = then_none marked.Note type_in (finite.get l.notes n) (λ x. refl)

abbrev pub event_in : Mark → Option Event
event_in (marked.Span span) = None
event_in (marked.Event event) = Some event
event_in (marked.Relation relation) = None
event_in (marked.Attribute attribute) = None
event_in (marked.Normal normal) = None
event_in (marked.Note note) = None

event_is : (l : Annotations) (n : ℕ) → finite.get l.events n ≡ option_and_then event_in (mark_of l letter.Event n)
event_is l n = found (finite.get l.events n)
  where
    found : (o : Option Event) → o ≡ option_and_then event_in (option_map marked.Event o)
    found None = refl
    found (Some event) = refl

abbrev pub relation_in : Mark → Option Relation
relation_in (marked.Span span) = None
relation_in (marked.Event event) = None
relation_in (marked.Relation relation) = Some relation
relation_in (marked.Attribute attribute) = None
relation_in (marked.Normal normal) = None
relation_in (marked.Note note) = None

relation_is : (l : Annotations) (n : ℕ) → finite.get l.relations n ≡ option_and_then relation_in (mark_of l letter.Relation n)
relation_is l n = found (finite.get l.relations n)
  where
    found : (o : Option Relation) → o ≡ option_and_then relation_in (option_map marked.Relation o)
    found None = refl
    found (Some relation) = refl

same_type : (a b : Annotations) (id : AnnId) → mark_at a id ≡ mark_at b id → type_of a id ≡ type_of b id
same_type a b id e = type_is a id.kind id.number ∙ ap (option_and_then type_in) e ∙ sym (type_is b id.kind id.number)

same_has : (a b : Annotations) (id : AnnId) → mark_at a id ≡ mark_at b id → has a id ≡ has b id
same_has a b id e = has_is a id.kind id.number ∙ ap is_some e ∙ sym (has_is b id.kind id.number)

same_target_by : (a b : Annotations) (kind : Kind) (n : ℕ) → mark_of a kind n ≡ mark_of b kind n → type_by a kind n ≡ type_by b kind n → target_by a kind n ≡ target_by b kind n
same_target_by a b letter.Relation n e t =
    ap (option_map (λ relation. Between relation.kind)) (relation_is a n ∙ ap (option_and_then relation_in) e ∙ sym (relation_is b n))
same_target_by a b letter.Text n e t = ap (option_map Bound) t
same_target_by a b letter.Event n e t = ap (option_map Bound) t
same_target_by a b letter.Attribute n e t = ap (option_map Bound) t
same_target_by a b letter.Legacy n e t = ap (option_map Bound) t
same_target_by a b letter.Normal n e t = ap (option_map Bound) t
same_target_by a b letter.Note n e t = ap (option_map Bound) t

same_target : (a b : Annotations) (id : AnnId) → mark_at a id ≡ mark_at b id → target_of a id ≡ target_of b id
same_target a b id e = same_target_by a b id.kind id.number e (same_type a b id e)

-- ---- names that lead nowhere near the change

pub falls_apart : (steps : ℕ) (layer : Annotations) (changed id : AnnId) → falls_by steps layer changed id ≡ false → is_id changed id ≡ false
falls_apart zero layer changed id e = e
falls_apart (suc steps) layer changed id e = first_false (is_id changed id) _ e

pub names_apart : (steps : ℕ) (layer : Annotations) (changed id : AnnId) (mark : Mark) → falls_by (suc steps) layer changed id ≡ false → mark_at layer id ≡ Some mark
    → AllByRecursion (λ named. falls_by steps layer changed named ≡ false) (named_by mark)
names_apart steps layer changed id mark e is =
    none_any (falls_by steps layer changed) (named_by mark)
    (sym (ap (λ o. option_map_or (λ m. list_any (falls_by steps layer changed) (named_by m)) o false) is) ∙ last_false (is_id changed id) _ e)

-- the same stands under each of some IDs
abbrev pub StandAlike : Annotations → Annotations → List AnnId → Type 0
StandAlike layer earlier ids = AllByRecursion (λ id. mark_at layer id ≡ mark_at earlier id) ids

pub stand_alike : (steps : ℕ) (layer earlier : Annotations) (changed : AnnId) (ids : List AnnId) → MarksBut layer earlier changed
    → AllByRecursion (λ named. falls_by steps layer changed named ≡ false) ids → StandAlike layer earlier ids
stand_alike steps layer earlier changed ids but all =
    along (λ named. falls_by steps layer changed named ≡ false) (λ id. mark_at layer id ≡ mark_at earlier id) ids (λ id e. but id (falls_apart steps layer changed id e)) all

-- ---- the rules on one annotation and what it names

pub missing_same : (a b : Annotations) (ids : List AnnId) → StandAlike a b ids → first_missing a ids ≡ first_missing b ids
missing_same a b ids all =
    ap (option_map NoSuch) (same_find (λ id. not (has a id)) (λ id. not (has b id)) ids
    (along (λ id. mark_at a id ≡ mark_at b id) (λ id. not (has a id) ≡ not (has b id)) ids (λ id e. ap not (same_has a b id e)) all))

argument_same : (conf : Configuration) (a b : Annotations) (id : AnnId) → mark_at a id ≡ mark_at b id → argument conf a id ≡ argument conf b id
argument_same conf a b id e = ap (λ t. let w : Wanted = record { id = id; fits = is_argument conf id.kind t } in w) (same_type a b id e)

member_same : (conf : Configuration) (a b : Annotations) (id : AnnId) → mark_at a id ≡ mark_at b id → member conf a id ≡ member conf b id
member_same conf a b id e = ap (λ t. let w : Wanted = record { id = id; fits = is_member conf id.kind t } in w) (same_type a b id e)

trigger_same : (a b : Annotations) (kind : TypeId) (id : AnnId) → mark_at a id ≡ mark_at b id → trigger a kind id ≡ trigger b kind id
trigger_same a b kind id e = ap (λ t. let w : Wanted = record { id = id; fits = is_trigger kind id.kind t } in w) (same_type a b id e)

args_same : (conf : Configuration) (a b : Annotations) (args : List Arg) → StandAlike a b (map (λ arg. arg.target) args)
    → map (λ arg. argument conf a arg.target) args ≡ map (λ arg. argument conf b arg.target) args
args_same conf a b args all =
    same_mapped (λ arg. argument conf a arg.target) (λ arg. argument conf b arg.target) args
    (along (λ arg. mark_at a arg.target ≡ mark_at b arg.target) (λ arg. argument conf a arg.target ≡ argument conf b arg.target) args
    (λ arg e. argument_same conf a b arg.target e) (of_mapped (λ id. mark_at a id ≡ mark_at b id) (λ arg. arg.target) args all))

pub wanted_same : (conf : Configuration) (a b : Annotations) (mark : Mark) → StandAlike a b (named_by mark) → wanted_by conf a mark ≡ wanted_by conf b mark
wanted_same conf a b (marked.Span span) all = refl
wanted_same conf a b (marked.Event event) all =
    ap (λ w. w ∷ map (λ arg. argument conf a arg.target) event.args) (trigger_same a b event.kind (id_at letter.Text event.trigger) all.0)
    ∙ ap (λ ws. trigger b event.kind (id_at letter.Text event.trigger) ∷ ws) (args_same conf a b event.args all.1)
wanted_same conf a b (marked.Relation relation) all =
    ap (λ w. w ∷ argument conf a relation.second ∷ []) (argument_same conf a b relation.first all.0)
    ∙ ap (λ w. argument conf b relation.first ∷ w ∷ []) (argument_same conf a b relation.second all.1.0)
wanted_same conf a b (marked.Attribute attribute) all =
    ap (λ t. let w : Wanted = record { id = attribute.target; fits = is_attribute_target conf attribute.target.kind t } in w ∷ []) (same_type a b attribute.target all.0)
wanted_same conf a b (marked.Normal normal) all = refl
wanted_same conf a b (marked.Note note) all = refl

refused_same : (conf : Configuration) (a b : Annotations) (kind : TypeId) (args : List Arg) → StandAlike a b (map (λ arg. arg.target) args)
    → find (is_refused_argument conf a kind) args ≡ find (is_refused_argument conf b kind) args
refused_same conf a b kind args all =
    same_find (is_refused_argument conf a kind) (is_refused_argument conf b kind) args
    (along (λ arg. mark_at a arg.target ≡ mark_at b arg.target) (λ arg. is_refused_argument conf a kind arg ≡ is_refused_argument conf b kind arg) args
    (λ arg e. ap (λ t. option_map_or (λ type_. not (role_admits conf kind.n arg.role type_)) t false) (same_type a b arg.target e)) (of_mapped (λ id. mark_at a id ≡ mark_at b id) (λ arg. arg.target) args all))

pub admitted_same : (conf : Configuration) (a b : Annotations) (mark : Mark) → StandAlike a b (named_by mark) → argument_type conf a mark ≡ argument_type conf b mark
admitted_same conf a b (marked.Span span) all = refl
admitted_same conf a b (marked.Event event) all = ap (option_map (λ arg. ArgumentType (role.Event event.kind arg.role))) (refused_same conf a b event.kind event.args all.1)
admitted_same conf a b (marked.Relation relation) all =
    ap (λ t. option_map (λ second. ArgumentType (role.Relation relation.kind second)) (relation_types conf relation.kind.n t (type_of a relation.second))) (same_type a b relation.first all.0)
    ∙ ap (λ t. option_map (λ second. ArgumentType (role.Relation relation.kind second)) (relation_types conf relation.kind.n (type_of b relation.first) t)) (same_type a b relation.second all.1.0)
admitted_same conf a b (marked.Attribute attribute) all =
    ap (λ t. where_so (option_map_or (λ target. not (attribute_admits conf attribute.kind.n target)) t false) (ArgumentType role.Attribute)) (same_target a b attribute.target all.0)
admitted_same conf a b (marked.Normal normal) all = refl
admitted_same conf a b (marked.Note note) all = refl

-- ---- chains

pub event_letter : (kind : Kind) → letter_is_event kind ≡ true → kind ≡ letter.Event
event_letter letter.Text e = absurd (let f : false ≡ true = e in cc)
event_letter letter.Event e = refl
event_letter letter.Relation e = absurd (let f : false ≡ true = e in cc)
event_letter letter.Attribute e = absurd (let f : false ≡ true = e in cc)
event_letter letter.Legacy e = absurd (let f : false ≡ true = e in cc)
event_letter letter.Normal e = absurd (let f : false ≡ true = e in cc)
event_letter letter.Note e = absurd (let f : false ≡ true = e in cc)

pub as_event : (a b : Annotations) (id : AnnId) → id.kind ≡ letter.Event → mark_at a id ≡ mark_at b id → finite.get a.events id.number ≡ finite.get b.events id.number
as_event a b id event e =
    let same : mark_of a letter.Event id.number ≡ mark_of b letter.Event id.number = subst (λ k. mark_of a k id.number ≡ mark_of b k id.number) event e in
    event_is a id.number ∙ ap (option_and_then event_in) same ∙ sym (event_is b id.number)

-- chains of so many events that begin far from the change are the same
abbrev pub Shorter : ℕ → Annotations → Annotations → AnnId → Type 0
Shorter steps a b changed = (other : AnnId) → other.kind ≡ letter.Event → falls_by steps a changed other ≡ false → begins_longer_chain a steps other.number ≡ begins_longer_chain b steps other.number

leads_same : (steps : ℕ) (a b : Annotations) (changed : AnnId) → Shorter steps a b changed → (arg : Arg) → falls_by steps a changed arg.target ≡ false
    → (is_event_id arg.target && begins_longer_chain a steps arg.target.number) ≡ (is_event_id arg.target && begins_longer_chain b steps arg.target.number)
leads_same steps a b changed shorter arg far = split (is_event_id arg.target) refl
  where
    split : (so : Bool) → is_event_id arg.target ≡ so → (so && begins_longer_chain a steps arg.target.number) ≡ (so && begins_longer_chain b steps arg.target.number)
    split true is = shorter arg.target (event_letter arg.target.kind is) far
    split false is = refl

leads_within : (steps : ℕ) (a b : Annotations) (changed id : AnnId) → id.kind ≡ letter.Event → falls_by (suc steps) a changed id ≡ false → Shorter steps a b changed
    → (o : Option Event) → finite.get a.events id.number ≡ o
    → option_map_or (λ e. list_any (λ arg. is_event_id arg.target && begins_longer_chain a steps arg.target.number) e.args) o false
    ≡ option_map_or (λ e. list_any (λ arg. is_event_id arg.target && begins_longer_chain b steps arg.target.number) e.args) o false
leads_within steps a b changed id event apart shorter None is = refl
leads_within steps a b changed id event apart shorter (Some e) is =
    let mark : mark_at a id ≡ Some (marked.Event e) = ap (λ k. mark_of a k id.number) event ∙ ap (option_map marked.Event) is in
    let far = names_apart steps a changed id (marked.Event e) apart mark in
    same_any (λ arg. is_event_id arg.target && begins_longer_chain a steps arg.target.number) (λ arg. is_event_id arg.target && begins_longer_chain b steps arg.target.number) e.args
    (along (λ arg. falls_by steps a changed arg.target ≡ false)
    (λ arg. (is_event_id arg.target && begins_longer_chain a steps arg.target.number) ≡ (is_event_id arg.target && begins_longer_chain b steps arg.target.number)) e.args
    (leads_same steps a b changed shorter) (of_mapped (λ named. falls_by steps a changed named ≡ false) (λ arg. arg.target) e.args far.1))

chain_same : (steps : ℕ) (a b : Annotations) (changed id : AnnId) → MarksBut a b changed → id.kind ≡ letter.Event → falls_by steps a changed id ≡ false
    → begins_longer_chain a steps id.number ≡ begins_longer_chain b steps id.number
unfolding begins_longer_chain
chain_same zero a b changed id but event apart = ap is_some (as_event a b id event (but id apart))
chain_same (suc steps) a b changed id but event apart =
    let here : finite.get a.events id.number ≡ finite.get b.events id.number = as_event a b id event (but id (falls_apart (suc steps) a changed id apart)) in
    let shorter : Shorter steps a b changed = λ other is far. chain_same steps a b changed other but is far in
    ap (λ o. option_map_or (λ e. list_any (λ arg. is_event_id arg.target && begins_longer_chain a steps arg.target.number) e.args) o false) here
    ∙ leads_within steps a b changed id event apart shorter (finite.get b.events id.number) here

pub mark_letter : (l : Annotations) (kind : Kind) (n : ℕ) (event : Event) → mark_of l kind n ≡ Some (marked.Event event) → kind ≡ letter.Event
mark_letter l letter.Text n event e = absurd (not_made marked.Span (finite.get l.spans n) event (λ x f. cc) e)
mark_letter l letter.Event n event e = refl
mark_letter l letter.Relation n event e = absurd (not_made marked.Relation (finite.get l.relations n) event (λ x f. cc) e)
mark_letter l letter.Attribute n event e = absurd (not_made marked.Attribute (finite.get l.attributes n) event (λ x f. cc) e)
mark_letter l letter.Legacy n event e = absurd (not_made marked.Attribute (finite.get l.legacy n) event (λ x f. cc) e)
mark_letter l letter.Normal n event e = absurd (not_made marked.Normal (finite.get l.normals n) event (λ x f. cc) e)
mark_letter l letter.Note n event e = absurd (not_made marked.Note (finite.get l.notes n) event (λ x f. cc) e)

pub deep_same : (a b : Annotations) (changed id : AnnId) (mark : Mark) → MarksBut a b changed → mark_at a id ≡ Some mark → falls_by 16 a changed id ≡ false → too_deep a id mark ≡ too_deep b id mark
deep_same a b changed id (marked.Span span) but is apart = refl
deep_same a b changed id (marked.Event event) but is apart = ap (λ so. where_so so TooDeep) (chain_same 16 a b changed id but (mark_letter a id.kind id.number event is) apart)
deep_same a b changed id (marked.Relation relation) but is apart = refl
deep_same a b changed id (marked.Attribute attribute) but is apart = refl
deep_same a b changed id (marked.Normal normal) but is apart = refl
deep_same a b changed id (marked.Note note) but is apart = refl

-- ---- pairs

-- where no lower annotation makes a pair, none that stands does
pub lower_none : (pairs : Mark → Mark → Bool) (layer : Annotations) (id : AnnId) (mark : Mark) → lower_pair pairs layer id mark ≡ None → (other : AnnId)
    → option_and_then (below_rule (pairs mark) id other) (mark_at layer other) ≡ None
lower_none pairs layer id mark none other =
    never (below_rule (pairs mark) id) (λ _ _. None) layer
    (none_below (pairs mark) layer id (map at.Class (range_with_len 0 (length layer.classes))) (no_class_place (below_rule (pairs mark) id) layer (range_with_len 0 (length layer.classes))) (ids_of layer) none)
    (at.Mark other)

pub below_none : (pairs : Mark → Bool) (id other : AnnId) (o : Option Mark) → option_and_then (below_rule pairs id other) o ≡ None → (nat_lt (rank other) (rank id) && option_map_or pairs o false) ≡ false
below_none pairs id other None e = with_false (nat_lt (rank other) (rank id))
below_none pairs id other (Some mark) e = not_so (nat_lt (rank other) (rank id) && pairs mark) TooDeep e

pub pair_none : (pairs : Mark → Mark → Bool) (a b : Annotations) (changed id : AnnId) (mark : Mark) → MarksBut a b changed → option_map_or (pairs mark) (mark_at a changed) false ≡ false
    → lower_pair pairs b id mark ≡ None → lower_pair pairs a id mark ≡ None
pair_none pairs a b changed id mark but apart none =
    find_nothing (λ other. nat_lt (rank other) (rank id) && option_map_or (pairs mark) (mark_at a other) false) (ids_of a) (λ other. split other (is_id changed other) refl)
  where
    split : (other : AnnId) (so : Bool) → is_id changed other ≡ so → (nat_lt (rank other) (rank id) && option_map_or (pairs mark) (mark_at a other) false) ≡ false
    split other true is =
        ap (λ o. nat_lt (rank other) (rank id) && option_map_or (pairs mark) o false) (ap (mark_at a) (sym (one_id changed other is)))
        ∙ ap (λ v. nat_lt (rank other) (rank id) && v) apart ∙ with_false (nat_lt (rank other) (rank id))
    split other false is =
        ap (λ o. nat_lt (rank other) (rank id) && option_map_or (pairs mark) o false) (but other is)
        ∙ below_none (pairs mark) id other (mark_at b other) (lower_none pairs b id mark none other)

-- what makes no pair of any of these rules makes none of each
pub pairs_apart : (pairs : Mark → Mark → Bool) (conf : Configuration) (layer : Annotations) (changed id : AnnId) (mark : Mark) → mark_at layer id ≡ Some mark
    → pairs_with conf layer changed id ≡ false → ((lower : Mark) → makes_pair conf mark lower ≡ false → pairs mark lower ≡ false) → option_map_or (pairs mark) (mark_at layer changed) false ≡ false
pairs_apart pairs conf layer changed id mark is none each =
    one (mark_at layer changed) (sym (ap (λ o. option_map_or (λ m. option_map_or (makes_pair conf m) (mark_at layer changed) false) o false) is) ∙ none)
  where
    one : (o : Option Mark) → option_map_or (makes_pair conf mark) o false ≡ false → option_map_or (pairs mark) o false ≡ false
    one None e = refl
    one (Some lower) e = each lower e

pub each_false : (conf : Configuration) (mark lower : Mark) → makes_pair conf mark lower ≡ false
    → (same_spans mark lower ≡ false) × ((same_events mark lower ≡ false) × ((same_relations mark lower ≡ false) × ((same_attributes mark lower ≡ false) × (refused_overlap conf mark lower ≡ false))))
each_false conf mark lower e = five (same_spans mark lower) (same_events mark lower) (same_relations mark lower) (same_attributes mark lower) (refused_overlap conf mark lower) e
  where
    five : (p q r s t : Bool) → ((((p || q) || r) || s) || t) ≡ false → (p ≡ false) × ((q ≡ false) × ((r ≡ false) × ((s ≡ false) × (t ≡ false))))
    five p q r s t f =
        let four_ = first_false (((p || q) || r) || s) t f in
        let three = first_false ((p || q) || r) s four_ in
        let two = first_false (p || q) r three in
        (first_false p q two, (last_false p q two, (last_false (p || q) r three, (last_false ((p || q) || r) s four_, last_false (((p || q) || r) || s) t f))))

-- ---- classes

pub bad_members_same : (conf : Configuration) (a b : Annotations) (kind : ℕ) (ids : List AnnId) → StandAlike a b ids → are_bad_members conf a kind ids ≡ are_bad_members conf b kind ids
bad_members_same conf a b kind [] all = refl
bad_members_same conf a b kind (id ∷ ids) all =
    ap (λ v. list_any (λ other. is_id id other || not (may_be_equal conf kind v (type_of a other))) ids || are_bad_members conf a kind ids) (same_type a b id all.0)
    ∙ ap (λ v. v || are_bad_members conf a kind ids)
    (same_any (λ other. is_id id other || not (may_be_equal conf kind (type_of b id) (type_of a other))) (λ other. is_id id other || not (may_be_equal conf kind (type_of b id) (type_of b other))) ids
    (along (λ other. mark_at a other ≡ mark_at b other)
    (λ other. (is_id id other || not (may_be_equal conf kind (type_of b id) (type_of a other))) ≡ (is_id id other || not (may_be_equal conf kind (type_of b id) (type_of b other)))) ids
    (λ other e. ap (λ t. is_id id other || not (may_be_equal conf kind (type_of b id) t)) (same_type a b other e)) all.1))
    ∙ ap (λ v. list_any (λ other. is_id id other || not (may_be_equal conf kind (type_of b id) (type_of b other))) ids || v) (bad_members_same conf a b kind ids all.1)

pub members_same : (conf : Configuration) (a b : Annotations) (ids : List AnnId) → StandAlike a b ids → map (member conf a) ids ≡ map (member conf b) ids
members_same conf a b ids all =
    same_mapped (member conf a) (member conf b) ids (along (λ id. mark_at a id ≡ mark_at b id) (λ id. member conf a id ≡ member conf b id) ids (λ id e. member_same conf a b id e) all)
