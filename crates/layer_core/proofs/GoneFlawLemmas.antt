-- Where an annotation that no other names goes from a well-formed layer, and from its classes, no rule is broken.
use Rattle.std.proofs.Common.{◌≡◌, ℕ, ◌≤◌, ◌==◌, ◌&&◌, ◌||◌, zero, suc, Bool, true, false, not, cond, List, [], ◌∷◌, ◌++◌, map, length, find, Option, Some, None, option_map, option_and_then, refl, sym, ◌∙◌, ap, subst, eq-eqb, eqb-true, arith}
use Rattle.std.specs.Option.{option_map_or, option_or}
use Rattle.std.specs.Ordering.{nat_cmp, is_eq}
use Rattle.std.specs.Cmp.{nat_cmp_total, tied_itself}
use Rattle.std.specs.List.{AllByRecursion, filter, list_any, range_with_len}
use Rattle.std.specs.FinMap as finite
use Rattle.std.specs.FinMap.{get-remove}
use Rattle.mark_base.specs.declared.ann_id.AnnId.{AnnId}
use Rattle.mark_base.specs.declared.ann_id.Kind.{Kind}
use Rattle.mark_base.specs.declared.ann_id.Kind.TheVariants as letter
use Rattle.conf_model.specs.Configurations.{Configuration}
use Rattle.layer_model.specs.declared.mark.Mark.{Mark}
use Rattle.layer_model.specs.declared.mark.Mark.TheVariants as marked
use Rattle.layer_model.specs.declared.class.Class.{Class}
use Rattle.layer_model.specs.declared.rule.Rule.{Rule}
use Rattle.layer_model.specs.declared.rule.Rule.TheVariants.{TooDeep}
use Rattle.layer_model.specs.declared.flaw.FlawPlace.{FlawPlace}
use Rattle.layer_model.specs.declared.flaw.FlawPlace.TheVariants as at
use Rattle.layer_model.specs.Annotations.{Annotations}
use Rattle.layer_model.specs.Classes.{rank, has_rank, is_among, has_member, class_with, other_classes, without_member, settled_rest, parted, AreDisjoint, Precedes, AreClasses, IsClassList}
use Rattle.layer_model.specs.Layers.{IsLayer, mark_at, mark_of, with_classes, without, without_number}
use Rattle.layer_model.specs.LayerIds.{ids_of}
use Rattle.layer_model.proofs.ClassPart.{parted_kept}
use Rattle.layer_rules.specs.FlawPlaces.{by_place, first_place}
use Rattle.layer_rules.specs.MarkRules.{named_by, where_so}
use Rattle.layer_rules.specs.LayerRules.{counted_with, is_id}
use Rattle.layer_rules.specs.WellFormed.{IsWellFormed, least_flaw}
use Rattle.layer_rules.proofs.LawLemmas.{never}
use Rattle.layer_rules.proofs.CoherenceLemmas.{no_class_place}
use Rattle.layer_core.specs.CommandRules.{first_naming}
use Rattle.layer_core.specs.MadeLayers.{falls_by, gone, parted_from}
use Rattle.layer_core.proofs.GoneLemmas.{same_classes}
use Rattle.layer_core.proofs.ElsewhereLemmas.{MarksBut, along, no_some, none_any, not_so, one_id, without_elsewhere}
use Rattle.layer_core.proofs.AlikeLemmas.{deep_same, pair_none}
use Rattle.layer_core.proofs.KeptLemmas.{IsGoodClass, Stays, good_alike, mark_kept}
use Rattle.layer_core.proofs.RoomLemmas.{few_counted, fewer_counted, not_full}
use Rattle.layer_core.proofs.PartFlawLemmas.{any_fewer, classes_kept, few_classes, good_classes, parted_all, parted_fewer, parted_good, same_counted, same_marks, settled_all, unflawed}

-- ---- no annotation names the one of an ID

no_place_by : (test : Mark → Bool) (layer : Annotations) (rest : List FlawPlace) → first_place (by_place (λ _ mark. where_so (test mark) TooDeep) (λ _ _. None) layer) rest ≡ None
    → (ids : List AnnId) → find (λ other. option_map_or test (mark_at layer other) false) ids ≡ None
    → first_place (by_place (λ _ mark. where_so (test mark) TooDeep) (λ _ _. None) layer) (map at.Mark ids ++ rest) ≡ None
no_place_by test layer rest later [] e = later
no_place_by test layer rest later (other ∷ ids) e =
    elim (option_map_or test (mark_at layer other) false) as (λ b. option_map_or test (mark_at layer other) false ≡ b → cond b (Some other) (find (λ one. option_map_or test (mark_at layer one) false) ids) ≡ None
    → first_place (by_place (λ _ mark. where_so (test mark) TooDeep) (λ _ _. None) layer) (map at.Mark (other ∷ ids) ++ rest) ≡ None) [
      | true ↦ λ _ found. absurd (no_some (sym found))
      | false ↦ λ no_ more. ap (λ o. option_or (option_map (λ rule. record { rule = rule; at = at.Mark other }) o) (first_place (by_place (λ _ mark. where_so (test mark) TooDeep) (λ _ _. None) layer) (map at.Mark ids ++ rest))) (here (mark_at layer other) no_)
          ∙ no_place_by test layer rest later ids more
    ] refl e
  where
    here : (o : Option Mark) → option_map_or test o false ≡ false → option_and_then (λ mark. where_so (test mark) TooDeep) o ≡ None
    here None none = refl
    here (Some mark) none = ap (λ b. where_so b TooDeep) none

-- each ID that an annotation names is another
unnamed : (layer : Annotations) (id other : AnnId) (mark : Mark) → first_naming layer id ≡ None → mark_at layer other ≡ Some mark → AllByRecursion (λ named. is_id id named ≡ false) (named_by mark)
unnamed layer id other mark none is =
    let told : AnnId → Mark → Option Rule = λ _ m. where_so (list_any (is_id id) (named_by m)) TooDeep in
    let nowhere = never told (λ _ _. None) layer
    (no_place_by (λ m. list_any (is_id id) (named_by m)) layer (map at.Class (range_with_len 0 (length layer.classes))) (no_class_place told layer (range_with_len 0 (length layer.classes))) (ids_of layer) none) in
    none_any (is_id id) (named_by mark) (not_so (list_any (is_id id) (named_by mark)) TooDeep (sym (ap (option_and_then (told other)) is) ∙ nowhere (at.Mark other)))

-- ---- what stands in the layer without it

removed_here : {X : Type 0} (make : X → Mark) (m : finite.FinMap nat_cmp X) (n : ℕ) → option_map make (finite.get (finite.remove m n) n) ≡ None
removed_here make m n = ap (option_map make) (get-remove nat_cmp_total m n n ∙ ap (λ r. cond (is_eq r) None (finite.get m n)) (tied_itself nat_cmp_total n))

without_here : (l : Annotations) (kind : Kind) (n : ℕ) → mark_of (without_number l kind n) kind n ≡ None
without_here l letter.Text n = removed_here marked.Span l.spans n
without_here l letter.Event n = removed_here marked.Event l.events n
without_here l letter.Relation n = removed_here marked.Relation l.relations n
without_here l letter.Attribute n = removed_here marked.Attribute l.attributes n
without_here l letter.Legacy n = removed_here marked.Attribute l.legacy n
without_here l letter.Normal n = removed_here marked.Normal l.normals n
without_here l letter.Note n = removed_here marked.Note l.notes n

-- the layer without an annotation, with other classes
abbrev pub less_with : Annotations → AnnId → List Class → Annotations
less_with layer id classes = with_classes (without layer id) classes

less_elsewhere : (layer : Annotations) (id : AnnId) (classes : List Class) → MarksBut (less_with layer id classes) layer id
less_elsewhere layer id classes other apart = same_marks (without layer id) classes other.kind other.number ∙ without_elsewhere layer id.kind other.kind id.number other.number apart

less_here : (layer : Annotations) (id : AnnId) (classes : List Class) → mark_at (less_with layer id classes) id ≡ None
less_here layer id classes = same_marks (without layer id) classes id.kind id.number ∙ without_here layer id.kind id.number

-- what is left stood there before, under another ID
stood_apart : (layer : Annotations) (id : AnnId) (classes : List Class) (other : AnnId) (mark : Mark) → mark_at (less_with layer id classes) other ≡ Some mark → is_id id other ≡ false
stood_apart layer id classes other mark is = split (is_id id other) refl
  where
    split : (b : Bool) → is_id id other ≡ b → b ≡ false
    split false e = refl
    split true e = absurd (no_some (sym (less_here layer id classes) ∙ ap (mark_at (less_with layer id classes)) (one_id id other e) ∙ is))

any_none : {X : Type 0} (test : X → Bool) (xs : List X) → AllByRecursion (λ x. test x ≡ false) xs → list_any test xs ≡ false
any_none test [] all = refl
any_none test (x ∷ xs) all = ap (λ b. b || list_any test xs) all.0 ∙ any_none test xs all.1

-- where no annotation names the one of an ID, none but it falls with it
falls_nowhere : (steps : ℕ) (layer : Annotations) (id other : AnnId) → ((one : AnnId) (mark : Mark) → mark_at layer one ≡ Some mark → AllByRecursion (λ named. is_id id named ≡ false) (named_by mark))
    → is_id id other ≡ false → falls_by steps layer id other ≡ false
falls_nowhere zero layer id other none apart = apart
falls_nowhere (suc steps) layer id other none apart =
    ap (λ b. b || option_map_or (λ mark. list_any (falls_by steps layer id) (named_by mark)) (mark_at layer other) false) apart
    ∙ each (mark_at layer other) refl (λ named e. falls_nowhere steps layer id named none e)
  where
    each : (o : Option Mark) → mark_at layer other ≡ o → ((named : AnnId) → is_id id named ≡ false → falls_by steps layer id named ≡ false)
        → option_map_or (λ mark. list_any (falls_by steps layer id) (named_by mark)) o false ≡ false
    each None is later = refl
    each (Some mark) is later =
        any_none (falls_by steps layer id) (named_by mark) (along (λ named. is_id id named ≡ false) (λ named. falls_by steps layer id named ≡ false) (named_by mark) later (none other mark is))

stays_less : (conf : Configuration) (characters : ℕ) (layer : Annotations) (id : AnnId) (classes : List Class) → IsLayer layer → IsWellFormed conf characters layer → first_naming layer id ≡ None
    → (other : AnnId) (mark : Mark) → mark_at (less_with layer id classes) other ≡ Some mark → Stays conf (less_with layer id classes) layer other mark
stays_less conf characters layer id classes is_layer kept none other mark is =
    let less = less_with layer id classes in
    let apart : is_id id other ≡ false = stood_apart layer id classes other mark is in
    let stood : mark_at layer other ≡ Some mark = sym (less_elsewhere layer id classes other apart) ∙ is in
    let few : length (counted_with (without layer id) other.kind) ≤ 10000 = omega (arith, fewer_counted layer id.kind other.kind id.number, few_counted layer is_layer kept.room other.kind) in
    record {
      stood = stood;
      named = along (λ named. is_id id named ≡ false) (λ named. mark_at less named ≡ mark_at layer named) (named_by mark) (less_elsewhere layer id classes) (unnamed layer id other mark none stood);
      deep = deep_same less layer id other mark (less_elsewhere layer id classes) is (falls_nowhere 16 less id other
          (λ one m e. unnamed layer id one m none (sym (less_elsewhere layer id classes one (stood_apart layer id classes one m e)) ∙ e)) apart);
      unpaired = λ pairs each no_pair. pair_none pairs less layer id other mark (less_elsewhere layer id classes) (ap (λ o. option_map_or (pairs mark) o false) (less_here layer id classes)) no_pair;
      room = not_full less other mark (subst (λ ids. length ids ≤ 10000) (sym (same_counted (without layer id) classes other.kind)) few);
    }

-- ---- the classes without it

first_true : (a b : Bool) → (a && b) ≡ true → a ≡ true
first_true true b e = refl
first_true false b e = e

last_true : (a b : Bool) → (a && b) ≡ true → b ≡ true
last_true true b e = e
last_true false b e = absurd (let f : false ≡ true = e in cc)

and_false : (a b : Bool) → b ≡ false → (a && b) ≡ false
and_false true b e = e
and_false false b e = refl

left_out : (place : ℕ) (ids : List AnnId) → has_rank place (filter (λ member. not (rank member == place)) ids) ≡ false
left_out place [] = refl
left_out place (x ∷ xs) =
    elim (rank x == place) as (λ b. (rank x == place) ≡ b → has_rank place (cond (not b) (x ∷ filter (λ member. not (rank member == place)) xs) (filter (λ member. not (rank member == place)) xs)) ≡ false) [
      | true ↦ λ _. left_out place xs
      | false ↦ λ e. ap (λ b. b || has_rank place (filter (λ member. not (rank member == place)) xs)) e ∙ left_out place xs
    ] refl

-- of two classes that have no member in common, one of a type has it
one_has : (kind : ℕ) (id : AnnId) (class other : Class) → AreDisjoint class other → has_member kind id class ≡ true → has_member kind id other ≡ false
one_has kind id class other apart e =
    elim (other.kind.n == kind) as (λ b. (other.kind.n == kind) ≡ b → (b && has_rank (rank id) other.members) ≡ false) [
      | true ↦ λ f.
          let same : class.kind.n ≡ other.kind.n = eqb-true class.kind.n kind (first_true (class.kind.n == kind) (has_rank (rank id) class.members) e) ∙ sym (eqb-true other.kind.n kind f) in
          apart same (rank id) (last_true (class.kind.n == kind) (has_rank (rank id) class.members) e)
      | false ↦ λ _. refl
    ] refl

others_clear : (kind : ℕ) (id : AnnId) (classes : List Class) → AreClasses classes → AllByRecursion (λ class. has_member kind id class ≡ false) (other_classes kind id classes)
others_clear kind id [] all = tt
others_clear kind id (x ∷ xs) all =
    elim (has_member kind id x) as (λ b. has_member kind id x ≡ b → AllByRecursion (λ class. has_member kind id class ≡ false) (cond b xs (x ∷ other_classes kind id xs))) [
      | true ↦ λ e. along (Precedes x) (λ class. has_member kind id class ≡ false) xs (λ class behind. one_has kind id x class behind.disjoint e) all.1
      | false ↦ λ e. (e, others_clear kind id xs all.2)
    ] refl

-- after a parting no class of the type has the member
parted_clear : (kind : ℕ) (id : AnnId) (classes : List Class) → AreClasses classes → AllByRecursion (λ class. has_member kind id class ≡ false) (parted kind id classes)
parted_clear kind id classes all =
    elim (class_with kind id classes) as (λ o. AllByRecursion (λ class. has_member kind id class ≡ false) (settled_rest id o (other_classes kind id classes))) [
      | None ↦ others_clear kind id classes all
      | Some class ↦ settled_all (λ one. has_member kind id one ≡ false) (without_member id class) (other_classes kind id classes)
          (λ many. and_false (class.kind.n == kind) (has_rank (rank id) (without_member id class).members) (left_out (rank id) class.members)) (others_clear kind id classes all)
    ]

-- a class of none of the types that are left does not have the member
abbrev pub IsClear : AnnId → List ℕ → Class → Type 0
IsClear id kinds class = list_any (λ kind. class.kind.n == kind) kinds ≡ false → is_among id class.members ≡ false

all_both : {X : Type 0} (P Q R : X → Type 0) (xs : List X) → ((x : X) → P x → Q x → R x) → AllByRecursion P xs → AllByRecursion Q xs → AllByRecursion R xs
all_both P Q R [] f one other = tt
all_both P Q R (x ∷ xs) f one other = (f x one.0 other.0, all_both P Q R xs f one.1 other.1)

clear_step : (id : AnnId) (kind : ℕ) (kinds : List ℕ) (classes : List Class) → AreClasses classes → AllByRecursion (IsClear id (kind ∷ kinds)) classes → AllByRecursion (IsClear id kinds) (parted kind id classes)
clear_step id kind kinds classes all clear =
    all_both (IsClear id (kind ∷ kinds)) (λ class. has_member kind id class ≡ false) (IsClear id kinds) (parted kind id classes)
    (λ class so no_. either (class.kind.n == kind) (list_any (λ k. class.kind.n == k) kinds) (is_among id class.members) so no_)
    (parted_all (IsClear id (kind ∷ kinds)) kind id classes (λ class many so none. any_fewer (λ one. rank one == rank id) (λ one. not (rank one == rank id)) class.members (so none)) clear) (parted_clear kind id classes all)
  where
    either : (here later among : Bool) → ((here || later) ≡ false → among ≡ false) → (here && among) ≡ false → later ≡ false → among ≡ false
    either true later among so no_ e = no_
    either false later among so no_ e = so e

clear_from : (id : AnnId) (classes : List Class) (kinds : List ℕ) → IsClassList classes → AllByRecursion (IsClear id kinds) classes → AllByRecursion (IsClear id []) (parted_from id classes kinds)
clear_from id classes [] all clear = clear
clear_from id classes (kind ∷ kinds) all clear = clear_from id (parted kind id classes) kinds (parted_kept kind id classes all) (clear_step id kind kinds classes all.ordered clear)

or_true : (a b : Bool) → b ≡ true → (a || b) ≡ true
or_true true b e = refl
or_true false b e = e

each_kind : (classes : List Class) → AllByRecursion (λ class. list_any (λ kind. class.kind.n == kind) (map (λ one. one.kind.n) classes) ≡ true) classes
each_kind [] = tt
each_kind (x ∷ xs) = (
  ap (λ b. b || list_any (λ kind. x.kind.n == kind) (map (λ one. one.kind.n) xs)) (eq-eqb x.kind.n x.kind.n refl),
  along (λ class. list_any (λ kind. class.kind.n == kind) (map (λ one. one.kind.n) xs) ≡ true) (λ class. list_any (λ kind. class.kind.n == kind) (map (λ one. one.kind.n) (x ∷ xs)) ≡ true) xs
      (λ class e. or_true (class.kind.n == x.kind.n) (list_any (λ kind. class.kind.n == kind) (map (λ one. one.kind.n) xs)) e) (each_kind xs),
)

turned_false : (a b : ℕ) → (a == b) ≡ false → (b == a) ≡ false
turned_false a b e = split (b == a) refl
  where
    split : (t : Bool) → (b == a) ≡ t → t ≡ false
    split false is = refl
    split true is = absurd (let same : (a == b) ≡ true = eq-eqb a b (sym (eqb-true b a is)) in let f : true ≡ false = sym same ∙ e in cc)

-- where it is taken out of the classes of each type, no class has it
none_has : (id : AnnId) (classes : List Class) → IsClassList classes → AllByRecursion (λ class. AllByRecursion (λ one. is_id id one ≡ false) class.members) (parted_from id classes (map (λ class. class.kind.n) classes))
none_has id classes all =
    let kinds : List ℕ = map (λ class. class.kind.n) classes in
    along (IsClear id []) (λ class. AllByRecursion (λ one. is_id id one ≡ false) class.members) (parted_from id classes kinds)
    (λ class so. along (λ one. (rank one == rank id) ≡ false) (λ one. is_id id one ≡ false) class.members (λ one e. turned_false (rank one) (rank id) e) (none_any (λ one. rank one == rank id) class.members (so refl)))
    (clear_from id classes kinds all
    (along (λ class. list_any (λ kind. class.kind.n == kind) kinds ≡ true) (IsClear id kinds) classes (λ class there none. absurd (let f : true ≡ false = sym there ∙ none in cc)) (each_kind classes)))

good_from : (conf : Configuration) (layer : Annotations) (id : AnnId) (classes : List Class) (kinds : List ℕ) → AllByRecursion (IsGoodClass conf layer) classes → AllByRecursion (IsGoodClass conf layer) (parted_from id classes kinds)
good_from conf layer id classes [] good = good
good_from conf layer id classes (kind ∷ kinds) good = good_from conf layer id (parted kind id classes) kinds (parted_good conf layer kind id classes good)

fewer_from : (id : AnnId) (classes : List Class) (kinds : List ℕ) → length (parted_from id classes kinds) ≤ length classes
fewer_from id classes [] = omega arith
fewer_from id classes (kind ∷ kinds) = omega (arith, fewer_from id (parted kind id classes) kinds, parted_fewer kind id classes)

-- ---- the law

gone_is : (layer : Annotations) (id : AnnId) → gone layer id ≡ less_with layer id (parted_from id layer.classes (map (λ class. class.kind.n) layer.classes))
gone_is layer id = ap (λ cs. with_classes (without layer id) (parted_from id cs (map (λ class. class.kind.n) cs))) (same_classes layer id.kind id.number)

pub gone_unflawed : (conf : Configuration) (characters : ℕ) (layer : Annotations) (id : AnnId) → IsLayer layer → IsWellFormed conf characters layer → first_naming layer id ≡ None
    → least_flaw conf characters (gone layer id) ≡ None
gone_unflawed conf characters layer id is_layer kept none =
    let kinds : List ℕ = map (λ class. class.kind.n) layer.classes in
    let classes : List Class = parted_from id layer.classes kinds in
    let less : Annotations = less_with layer id classes in
    let good : AllByRecursion (IsGoodClass conf less) classes =
    all_both (IsGoodClass conf layer) (λ class. AllByRecursion (λ one. is_id id one ≡ false) class.members) (IsGoodClass conf less) classes
    (λ class one apart. good_alike conf less layer class (along (λ named. is_id id named ≡ false) (λ named. mark_at less named ≡ mark_at layer named) class.members (less_elsewhere layer id classes) apart) one)
    (good_from conf layer id layer.classes kinds (good_classes conf characters layer kept)) (none_has id layer.classes is_layer.classes) in
    let few : length layer.classes ≤ 10000 = few_classes conf characters layer kept in
    ap (least_flaw conf characters) (gone_is layer id)
    ∙ unflawed conf characters less (λ other. mark_kept conf characters less layer other (λ mark is. stays_less conf characters layer id classes is_layer kept none other mark is) kept)
    (classes_kept conf characters less good (omega (arith, few, fewer_from id layer.classes kinds)))
