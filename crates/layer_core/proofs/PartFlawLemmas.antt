-- Where a member is taken out of a class of a well-formed layer, no rule is broken.
use Rattle.std.proofs.Common.{◌≡◌, ℕ, ◌<◌, ◌≤◌, ◌==◌, ◌&&◌, ◌||◌, zero, suc, Bool, true, false, not, cond, nat_lt, List, [], ◌∷◌, map, length, slice_get, Option, Some, None, option_map, option_and_then, unwrap_or, refl, sym, ◌∙◌, ap, subst, eqb-true, arith}
use Rattle.std.proofs.lemmas.Option.{slice_get_within}
use Rattle.std.specs.Option.{option_map_or, option_or}
use Rattle.std.specs.List.{AllByRecursion, filter, find, list_any}
use Rattle.std.specs.FinMap as finite
use Rattle.mark_base.specs.declared.ann_id.AnnId.{AnnId}
use Rattle.mark_base.specs.declared.ann_id.Kind.{Kind}
use Rattle.mark_base.specs.declared.ann_id.Kind.TheVariants as letter
use Rattle.mark_base.specs.declared.arguments.Arg.{Arg}
use Rattle.conf_model.specs.Configurations.{Configuration}
use Rattle.layer_model.specs.declared.event.Event.{Event}
use Rattle.layer_model.specs.declared.mark.Mark.{Mark}
use Rattle.layer_model.specs.declared.mark.Mark.TheVariants as marked
use Rattle.layer_model.specs.declared.class.Class.{Class}
use Rattle.layer_model.specs.declared.rule.Rule.{Rule}
use Rattle.layer_model.specs.declared.rule.Rule.TheVariants.{EquivMembers, LayerFull, NoSuch, TooDeep, WrongKind}
use Rattle.layer_model.specs.declared.flaw.FlawPlace.{FlawPlace}
use Rattle.layer_model.specs.declared.flaw.FlawPlace.TheVariants as at
use Rattle.layer_model.specs.Annotations.{Annotations}
use Rattle.layer_model.specs.Classes.{rank, has_member, class_with, other_classes, without_member, settled, settled_rest, parted, insert_class}
use Rattle.layer_model.specs.Layers.{has, mark_at, mark_of, with_classes}
use Rattle.layer_model.proofs.ClassOrder.{All-insert, length-insert_class}
use Rattle.layer_rules.specs.FlawPlaces.{first_place, first_rule, places}
use Rattle.layer_rules.specs.MarkRules.{Wanted, member, named_by, where_so}
use Rattle.layer_rules.specs.LayerRules.{are_bad_members, begins_longer_chain, classes_full, counted_letter, counted_with, is_event_id, is_id, layer_full, may_be_equal, too_deep}
use Rattle.layer_rules.specs.Targets.{type_of}
use Rattle.layer_rules.specs.WellFormed.{IsWellFormed, in_order, least_flaw}
use Rattle.layer_core.proofs.ElsewhereLemmas.{all_of, along, find_nothing, first_false, last_false, no_some, not_so, same_any, unmapped}
use Rattle.layer_core.proofs.AlikeLemmas.{below_none, lower_none}
use Rattle.layer_core.proofs.KeptLemmas.{IsGoodClass, Stays, class_kept, good_alike, good_class, mark_kept}
use Rattle.layer_core.proofs.RoomLemmas.{nothing_at, picked}

-- ---- no place breaks a rule

no_place : (told : FlawPlace → Option Rule) (ps : List FlawPlace) → ((p : FlawPlace) → told p ≡ None) → first_place told ps ≡ None
no_place told [] none = refl
no_place told (p ∷ ps) none = ap (λ o. option_or (option_map (λ rule. record { rule = rule; at = p }) o) (first_place told ps)) (none p) ∙ no_place told ps none

no_rule : (tests : List (FlawPlace → Option Rule)) (ps : List FlawPlace) → ((p : FlawPlace) → AllByRecursion (λ told. told p ≡ None) tests) → first_rule tests ps ≡ None
no_rule [] ps none = refl
no_rule (told ∷ tests) ps none = ap (λ o. option_or o (first_rule tests ps)) (no_place told ps (λ p. (none p).0)) ∙ no_rule tests ps (λ p. (none p).1)

-- a layer in which no annotation and no class breaks a rule has no flaw
pub unflawed : (conf : Configuration) (characters : ℕ) (layer : Annotations) → ((id : AnnId) → AllByRecursion (λ told. told (at.Mark id) ≡ None) (in_order conf characters layer))
    → ((index : ℕ) → AllByRecursion (λ told. told (at.Class index) ≡ None) (in_order conf characters layer)) → least_flaw conf characters layer ≡ None
unfolding least_flaw
unflawed conf characters layer marks classes = no_rule (in_order conf characters layer) (places layer) each
  where
    each : (place : FlawPlace) → AllByRecursion (λ told. told place ≡ None) (in_order conf characters layer)
    each (at.Mark id) = marks id
    each (at.Class index) = classes index

-- ---- the classes of a layer

each_at : {X : Type 0} (P : X → Type 0) (xs : List X) → ((i : ℕ) (x : X) → slice_get xs i ≡ Some x → P x) → AllByRecursion P xs
each_at P [] f = tt
each_at P (x ∷ xs) f = (f zero x refl, each_at P xs (λ i y is. f (suc i) y is))

pub good_classes : (conf : Configuration) (characters : ℕ) (layer : Annotations) → IsWellFormed conf characters layer → AllByRecursion (IsGoodClass conf layer) layer.classes
good_classes conf characters layer kept = each_at (IsGoodClass conf layer) layer.classes (λ i class is. good_class conf characters layer i class kept is)

pub few_classes : (conf : Configuration) (characters : ℕ) (layer : Annotations) → IsWellFormed conf characters layer → length layer.classes ≤ 10000
few_classes conf characters layer kept = nothing_at layer.classes 10000 (none (slice_get layer.classes 10000) (kept.room (at.Class 10000)))
  where
    none : (o : Option Class) → option_and_then (classes_full 10000) o ≡ None → o ≡ None
    none None e = refl
    none (Some class) e = absurd (no_some (sym e))

-- classes that are good and few enough break no rule
pub classes_kept : (conf : Configuration) (characters : ℕ) (layer : Annotations) → AllByRecursion (IsGoodClass conf layer) layer.classes → length layer.classes ≤ 10000
    → (index : ℕ) → AllByRecursion (λ told. told (at.Class index) ≡ None) (in_order conf characters layer)
classes_kept conf characters layer good few index =
    class_kept conf characters layer index (λ class is. picked (IsGoodClass conf layer) layer.classes index class good is) (λ class is. low class (slice_get_within layer.classes index class is))
  where
    low : (class : Class) → index < length layer.classes → classes_full index class ≡ None
    low class within = split (index == 10000) refl
      where
        split : (b : Bool) → (index == 10000) ≡ b → where_so b (LayerFull letter.Text) ≡ None
        split false is = refl
        split true is = absurd (let e : index ≡ 10000 = eqb-true index 10000 is in omega arith)

-- ---- a class less one member

find_fewer : {X : Type 0} (test keep : X → Bool) (xs : List X) → find test xs ≡ None → find test (filter keep xs) ≡ None
find_fewer test keep [] e = refl
find_fewer {X} test keep (x ∷ xs) e =
    elim (test x) as (λ b. test x ≡ b → cond b (Some x) (find test xs) ≡ None → find test (cond (keep x) (x ∷ filter keep xs) (filter keep xs)) ≡ None) [
      | true ↦ λ _ f. absurd (no_some (sym f))
      | false ↦ λ is f. elim (keep x) as (λ k. find test (cond k (x ∷ filter keep xs) (filter keep xs)) ≡ None) [
        | true ↦ ap (λ b. cond b (Some x) (find test (filter keep xs))) is ∙ find_fewer test keep xs f
        | false ↦ find_fewer test keep xs f
      ]
    ] refl e

find_mapped : {X Y : Type 0} (test : Y → Bool) (f : X → Y) (xs : List X) → find test (map f xs) ≡ None → find (λ x. test (f x)) xs ≡ None
find_mapped test f [] e = refl
find_mapped {X} {Y} test f (x ∷ xs) e =
    elim (test (f x)) as (λ b. cond b (Some (f x)) (find test (map f xs)) ≡ None → cond b (Some x) (find (λ y. test (f y)) xs) ≡ None) [
      | true ↦ λ g. absurd (no_some (sym g))
      | false ↦ λ g. find_mapped test f xs g
    ] e

mapped_find : {X Y : Type 0} (test : Y → Bool) (f : X → Y) (xs : List X) → find (λ x. test (f x)) xs ≡ None → find test (map f xs) ≡ None
mapped_find test f [] e = refl
mapped_find {X} {Y} test f (x ∷ xs) e =
    elim (test (f x)) as (λ b. cond b (Some x) (find (λ y. test (f y)) xs) ≡ None → cond b (Some (f x)) (find test (map f xs)) ≡ None) [
      | true ↦ λ g. absurd (no_some (sym g))
      | false ↦ λ g. mapped_find test f xs g
    ] e

pub any_fewer : {X : Type 0} (test keep : X → Bool) (xs : List X) → list_any test xs ≡ false → list_any test (filter keep xs) ≡ false
any_fewer test keep [] e = refl
any_fewer test keep (x ∷ xs) e =
    elim (keep x) as (λ k. list_any test (cond k (x ∷ filter keep xs) (filter keep xs)) ≡ false) [
      | true ↦ ap (λ b. b || list_any test (filter keep xs)) (first_false (test x) (list_any test xs) e) ∙ any_fewer test keep xs (last_false (test x) (list_any test xs) e)
      | false ↦ any_fewer test keep xs (last_false (test x) (list_any test xs) e)
    ]

bad_fewer : (conf : Configuration) (layer : Annotations) (kind : ℕ) (keep : AnnId → Bool) (ids : List AnnId) → are_bad_members conf layer kind ids ≡ false → are_bad_members conf layer kind (filter keep ids) ≡ false
bad_fewer conf layer kind keep [] e = refl
bad_fewer conf layer kind keep (id ∷ ids) e =
    let pairs : AnnId → Bool = λ other. is_id id other || not (may_be_equal conf kind (type_of layer id) (type_of layer other)) in
    let here : list_any pairs ids ≡ false = first_false (list_any pairs ids) (are_bad_members conf layer kind ids) e in
    let later = bad_fewer conf layer kind keep ids (last_false (list_any pairs ids) (are_bad_members conf layer kind ids) e) in
    elim (keep id) as (λ k. are_bad_members conf layer kind (cond k (id ∷ filter keep ids) (filter keep ids)) ≡ false) [
      | true ↦ ap (λ b. b || are_bad_members conf layer kind (filter keep ids)) (any_fewer pairs keep ids here) ∙ later
      | false ↦ later
    ]

-- a good class less one member is good where it has two or more left
good_without : (conf : Configuration) (layer : Annotations) (id : AnnId) (class : Class) → nat_lt (length (without_member id class).members) 2 ≡ false → IsGoodClass conf layer class
    → IsGoodClass conf layer (without_member id class)
good_without conf layer id class many good =
    let keep : AnnId → Bool = λ one. not (rank one == rank id) in
    let unfit : AnnId → Bool = λ one. not (member conf layer one).fits in
    record {
      known = good.known;
      for_use = good.for_use;
      there = ap (option_map NoSuch) (find_fewer (λ one. not (has layer one)) keep class.members (unmapped NoSuch (find (λ one. not (has layer one)) class.members) good.there));
      fitting =
          ap (option_map (λ (wanted : Wanted). WrongKind wanted.id))
          (mapped_find (λ (wanted : Wanted). not wanted.fits) (member conf layer) (filter keep class.members)
          (find_fewer unfit keep class.members
          (find_mapped (λ (wanted : Wanted). not wanted.fits) (member conf layer) class.members
          (unmapped (λ (wanted : Wanted). WrongKind wanted.id) (find (λ (wanted : Wanted). not wanted.fits) (map (member conf layer) class.members)) good.fitting))));
      equal =
          ap (λ b. where_so (b || are_bad_members conf layer class.kind.n (filter keep class.members)) EquivMembers) many
          ∙ ap (λ b. where_so b EquivMembers)
          (bad_fewer conf layer class.kind.n keep class.members
          (last_false (nat_lt (length class.members) 2) (are_bad_members conf layer class.kind.n class.members) (not_so (nat_lt (length class.members) 2 || are_bad_members conf layer class.kind.n class.members) EquivMembers good.equal)));
    }

-- ---- the classes with a member taken out

others_all : (P : Class → Type 0) (kind : ℕ) (id : AnnId) (classes : List Class) → AllByRecursion P classes → AllByRecursion P (other_classes kind id classes)
others_all P kind id [] all = tt
others_all P kind id (x ∷ xs) all =
    elim (has_member kind id x) as (λ b. AllByRecursion P (cond b xs (x ∷ other_classes kind id xs))) [
      | true ↦ all.1
      | false ↦ (all.0, others_all P kind id xs all.1)
    ]

found_all : (P : Class → Type 0) (kind : ℕ) (id : AnnId) (classes : List Class) (class : Class) → AllByRecursion P classes → class_with kind id classes ≡ Some class → P class
found_all P kind id [] class all e = absurd (no_some e)
found_all P kind id (x ∷ xs) class all e =
    elim (has_member kind id x) as (λ b. cond b (Some x) (class_with kind id xs) ≡ Some class → P class) [
      | true ↦ λ f. subst P (ap (λ o. unwrap_or o x) f) all.0
      | false ↦ λ f. found_all P kind id xs class all.1 f
    ] e

pub settled_all : (P : Class → Type 0) (class : Class) (classes : List Class) → (nat_lt (length class.members) 2 ≡ false → P class) → AllByRecursion P classes → AllByRecursion P (settled class classes)
settled_all P class classes p all =
    elim (nat_lt (length class.members) 2) as (λ b. nat_lt (length class.members) 2 ≡ b → AllByRecursion P (cond b classes (insert_class class classes))) [
      | true ↦ λ _. all
      | false ↦ λ many. All-insert P class classes (p many) all
    ] refl

-- what is so of each class, and of one less a member where two or more are left, is so where the member is taken out
pub parted_all : (P : Class → Type 0) (kind : ℕ) (id : AnnId) (classes : List Class) → ((class : Class) → nat_lt (length (without_member id class).members) 2 ≡ false → P class → P (without_member id class))
    → AllByRecursion P classes → AllByRecursion P (parted kind id classes)
parted_all P kind id classes less all =
    elim (class_with kind id classes) as (λ o. class_with kind id classes ≡ o → AllByRecursion P (settled_rest id o (other_classes kind id classes))) [
      | None ↦ λ _. others_all P kind id classes all
      | Some class ↦ λ is. settled_all P (without_member id class) (other_classes kind id classes) (λ many. less class many (found_all P kind id classes class all is)) (others_all P kind id classes all)
    ] refl

others_fewer : (kind : ℕ) (id : AnnId) (classes : List Class) → length (other_classes kind id classes) ≤ length classes
others_fewer kind id [] = omega arith
others_fewer kind id (x ∷ xs) =
    elim (has_member kind id x) as (λ b. length (cond b xs (x ∷ other_classes kind id xs)) ≤ suc (length xs)) [
      | true ↦ omega arith
      | false ↦ omega (arith, others_fewer kind id xs)
    ]

one_fewer : (kind : ℕ) (id : AnnId) (classes : List Class) (class : Class) → class_with kind id classes ≡ Some class → suc (length (other_classes kind id classes)) ≤ length classes
one_fewer kind id [] class e = absurd (no_some e)
one_fewer kind id (x ∷ xs) class e =
    elim (has_member kind id x) as (λ b. cond b (Some x) (class_with kind id xs) ≡ Some class → suc (length (cond b xs (x ∷ other_classes kind id xs))) ≤ suc (length xs)) [
      | true ↦ λ _. omega arith
      | false ↦ λ f. omega (arith, one_fewer kind id xs class f)
    ] e

-- there are no more classes than before
pub parted_fewer : (kind : ℕ) (id : AnnId) (classes : List Class) → length (parted kind id classes) ≤ length classes
parted_fewer kind id classes =
    elim (class_with kind id classes) as (λ o. class_with kind id classes ≡ o → length (settled_rest id o (other_classes kind id classes)) ≤ length classes) [
      | None ↦ λ _. others_fewer kind id classes
      | Some class ↦ λ is. elim (nat_lt (length (without_member id class).members) 2) as (λ b. length (cond b (other_classes kind id classes) (insert_class (without_member id class) (other_classes kind id classes))) ≤ length classes) [
        | true ↦ others_fewer kind id classes
        | false ↦ omega (arith, length-insert_class (without_member id class) (other_classes kind id classes), one_fewer kind id classes class is)
      ]
    ] refl

pub parted_good : (conf : Configuration) (layer : Annotations) (kind : ℕ) (id : AnnId) (classes : List Class) → AllByRecursion (IsGoodClass conf layer) classes → AllByRecursion (IsGoodClass conf layer) (parted kind id classes)
parted_good conf layer kind id classes good = parted_all (IsGoodClass conf layer) kind id classes (λ class many one. good_without conf layer id class many one) good

-- ---- other classes leave the annotations as they are

pub same_marks : (l : Annotations) (classes : List Class) (kind : Kind) (n : ℕ) → mark_of (with_classes l classes) kind n ≡ mark_of l kind n
same_marks l classes letter.Text n = refl
same_marks l classes letter.Event n = refl
same_marks l classes letter.Relation n = refl
same_marks l classes letter.Attribute n = refl
same_marks l classes letter.Legacy n = refl
same_marks l classes letter.Normal n = refl
same_marks l classes letter.Note n = refl

pub same_counted : (l : Annotations) (classes : List Class) (kind : Kind) → counted_with (with_classes l classes) kind ≡ counted_with l kind
same_counted l classes letter.Text = refl
same_counted l classes letter.Event = refl
same_counted l classes letter.Relation = refl
same_counted l classes letter.Attribute = refl
same_counted l classes letter.Legacy = refl
same_counted l classes letter.Normal = refl
same_counted l classes letter.Note = refl

same_chains : (l : Annotations) (classes : List Class) (steps n : ℕ) → begins_longer_chain (with_classes l classes) steps n ≡ begins_longer_chain l steps n
unfolding begins_longer_chain
same_chains l classes zero n = refl
same_chains l classes (suc steps) n = each (finite.get l.events n) (λ m. same_chains l classes steps m)
  where
    each : (o : Option Event) → ((m : ℕ) → begins_longer_chain (with_classes l classes) steps m ≡ begins_longer_chain l steps m)
        → option_map_or (λ e. list_any (λ arg. is_event_id arg.target && begins_longer_chain (with_classes l classes) steps arg.target.number) e.args) o false
        ≡ option_map_or (λ e. list_any (λ arg. is_event_id arg.target && begins_longer_chain l steps arg.target.number) e.args) o false
    each None shorter = refl
    each (Some e) shorter =
        same_any (λ arg. is_event_id arg.target && begins_longer_chain (with_classes l classes) steps arg.target.number) (λ arg. is_event_id arg.target && begins_longer_chain l steps arg.target.number) e.args
        (all_of (λ (arg : Arg). (is_event_id arg.target && begins_longer_chain (with_classes l classes) steps arg.target.number) ≡ (is_event_id arg.target && begins_longer_chain l steps arg.target.number)) e.args
        (λ arg. ap (λ b. is_event_id arg.target && b) (shorter arg.target.number)))

same_deep : (l : Annotations) (classes : List Class) (id : AnnId) (mark : Mark) → too_deep (with_classes l classes) id mark ≡ too_deep l id mark
same_deep l classes id (marked.Span span) = refl
same_deep l classes id (marked.Event event) = ap (λ so. where_so so TooDeep) (same_chains l classes 16 id.number)
same_deep l classes id (marked.Relation relation) = refl
same_deep l classes id (marked.Attribute attribute) = refl
same_deep l classes id (marked.Normal normal) = refl
same_deep l classes id (marked.Note note) = refl

pub stays_with : (conf : Configuration) (characters : ℕ) (l : Annotations) (classes : List Class) (id : AnnId) (mark : Mark) → IsWellFormed conf characters l → mark_at (with_classes l classes) id ≡ Some mark
    → Stays conf (with_classes l classes) l id mark
stays_with conf characters l classes id mark kept is =
    let stood : mark_at l id ≡ Some mark = sym (same_marks l classes id.kind id.number) ∙ is in
    record {
      stood = stood;
      named = all_of (λ named. mark_at (with_classes l classes) named ≡ mark_at l named) (named_by mark) (λ named. same_marks l classes named.kind named.number);
      deep = same_deep l classes id mark;
      unpaired = λ pairs each none.
          find_nothing (λ other. nat_lt (rank other) (rank id) && option_map_or (pairs mark) (mark_at (with_classes l classes) other) false) _ (λ other.
          ap (λ o. nat_lt (rank other) (rank id) && option_map_or (pairs mark) o false) (same_marks l classes other.kind other.number)
          ∙ below_none (pairs mark) id other (mark_at l other) (lower_none pairs l id mark none other));
      room =
          ap (λ ids. where_so (option_map_or (is_id id) (slice_get ids 10000) false) (LayerFull (counted_letter id.kind))) (same_counted l classes id.kind)
          ∙ sym (ap (option_and_then (layer_full l id)) stood) ∙ kept.room (at.Mark id);
    }

-- ---- the law

pub alike_with : (conf : Configuration) (l : Annotations) (classes cs : List Class) → AllByRecursion (IsGoodClass conf l) cs → AllByRecursion (IsGoodClass conf (with_classes l classes)) cs
alike_with conf l classes cs good =
    along (IsGoodClass conf l) (IsGoodClass conf (with_classes l classes)) cs
    (λ class one. good_alike conf (with_classes l classes) l class
    (all_of (λ id. mark_at (with_classes l classes) id ≡ mark_at l id) class.members (λ id. same_marks l classes id.kind id.number)) one) good

pub parted_unflawed : (conf : Configuration) (characters : ℕ) (layer : Annotations) (kind : ℕ) (id : AnnId) → IsWellFormed conf characters layer
    → least_flaw conf characters (with_classes layer (parted kind id layer.classes)) ≡ None
parted_unflawed conf characters layer kind id kept =
    let classes = parted kind id layer.classes in
    let few : length layer.classes ≤ 10000 = few_classes conf characters layer kept in
    unflawed conf characters (with_classes layer classes)
    (λ other. mark_kept conf characters (with_classes layer classes) layer other (λ mark is. stays_with conf characters layer classes other mark kept is) kept)
    (classes_kept conf characters (with_classes layer classes) (alike_with conf layer classes classes (parted_good conf layer kind id layer.classes (good_classes conf characters layer kept)))
    (omega (arith, few, parted_fewer kind id layer.classes)))
