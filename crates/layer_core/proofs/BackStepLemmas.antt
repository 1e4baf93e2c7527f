-- The steps of the ways back: what is put down last goes back first.
use Rattle.std.proofs.Common.{◌≡◌, ℕ, ◌+◌, ◌-◌, ◌<◌, ◌≤◌, ◌==◌, ◌&&◌, ◌||◌, not, nat_lt, zero, suc, Bool, true, false, cond, List, [], ◌∷◌, ◌++◌, length, map, get_or, take, drop, Option, Some, None, option_map, refl, sym, ◌∙◌, ap, subst, arith}
use Rattle.std.proofs.lemmas.Bool.Decides.{nat_tests}
use Rattle.std.proofs.lemmas.Bool.{eqb-true}
use Rattle.std.proofs.lemmas.List.{take_all, take_more}
use Rattle.std.proofs.lemmas.List.Folds.{list_all-append, list_any-append}
use Rattle.std.specs.Prelude.{if◌then◌else◌}
use Rattle.std.specs.List.{AllByRecursion, dedup, filter, flat_map, list_all, list_any}
use Rattle.std.specs.Option.{option_map_or, option_or}
use Rattle.mark_base.specs.declared.ann_id.AnnId.{AnnId}
use Rattle.mark_base.specs.declared.ann_id.Kind.TheVariants as letter
use Rattle.mark_base.specs.declared.table_places.RelId.{RelId}
use Rattle.conf_model.specs.Configurations.{Configuration}
use Rattle.layer_model.specs.declared.class.Class.{Class}
use Rattle.layer_model.specs.declared.mark.Mark.{Mark}
use Rattle.layer_model.specs.declared.rule.Rule.{Rule}
use Rattle.layer_model.specs.declared.rule.Rule.TheVariants.{EquivMembers, LayerFull}
use Rattle.layer_model.specs.declared.flaw.Flaw.{Flaw}
use Rattle.layer_model.specs.declared.flaw.FlawPlace.{FlawPlace}
use Rattle.layer_model.specs.declared.flaw.FlawPlace.TheVariants as at
use Rattle.layer_model.specs.Annotations.{Annotations}
use Rattle.layer_model.specs.Classes.{AreClasses, IsClass, IsClassList, apart, ascending, class_with, has_rank, is_among, joined, joined_class, parted, rank, shares, sharing}
use Rattle.layer_model.specs.Layers.{IsLayer, is_of_kind, mark_at, with_classes, without}
use Rattle.layer_model.proofs.ClassJoin.{joined_kept}
use Rattle.layer_model.proofs.ClassOrder.{All-filter, length-insert_class}
use Rattle.layer_model.proofs.ClassPart.{part_none}
use Rattle.layer_model.proofs.IdSets.{has_rank-ascending}
use Rattle.layer_rules.specs.LayerRules.{are_bad_members, equiv_members, is_id}
use Rattle.layer_rules.specs.LowestFlaw.{HasGoodSpans, class_rule, first_of}
use Rattle.layer_rules.specs.MarkRules.{class_not_for_use, first_missing, first_unwanted, member, named_by, unknown_class}
use Rattle.layer_rules.specs.WellFormed.{IsWellFormed}
use Rattle.layer_core.specs.declared.back.Back.{Back}
use Rattle.layer_core.specs.declared.back.Back.TheVariants.{Classes, Member, Same, Marks}
use Rattle.layer_core.specs.declared.index.Index.{Index}
use Rattle.layer_core.specs.declared.taken.Left.{Left}
use Rattle.layer_core.specs.declared.taken.Taken.{Taken}
use Rattle.layer_core.specs.Backs.{AreTaken, IsTaken, IsWayBack, fits_taken, has_some, left_beside, with_all_taken, with_left, with_taken, with_this}
use Rattle.layer_core.specs.Commands.{draft_rule, lower_rule}
use Rattle.layer_core.specs.Indexes.{IsIndex}
use Rattle.layer_core.specs.Joined.{alone_rule, joined_flaw, place_among, too_many_classes}
use Rattle.layer_core.specs.MadeLayers.{gone, parted_from, with_less}
use Rattle.layer_core.specs.Outcomes.{IsIndexed, IsSomeWellFormed}
use Rattle.layer_core.specs.OwnRules.{first_broken}
use Rattle.layer_core.specs.Regrouped.{IsOneOf, all_joined, beside, first_other}
use Rattle.layer_core.proofs.BackLemmas.{mark_fits, without_differs}
use Rattle.layer_core.proofs.ElsewhereLemmas.{not_so}
use Rattle.layer_core.proofs.GoneLemmas.{gone_by, same_classes}
use Rattle.layer_core.proofs.JoinFlawLemmas.{joined_least}
use Rattle.layer_core.proofs.KeptLemmas.{IsGoodClass}
use Rattle.layer_core.proofs.OutcomeLemmas.{good_less, index_but}
use Rattle.layer_core.proofs.PartFlawLemmas.{few_classes, good_classes, parted_unflawed, same_marks}
use Rattle.layer_core.proofs.RegroupLemmas.{comes_back, joined_last, joined_new, joined_parts, one_so, sharing_filtered}

-- ---- lists from their end

pub last_is : {X : Type 0} (xs : List X) (x : X) → 0 < length xs → x ≡ get_or xs (length xs - 1) x → xs ≡ take (length xs - 1) xs ++ x ∷ []
last_is xs x some is =
    sym (take_all (length xs - 1 + 1) xs (omega arith)) ∙ take_more xs (length xs - 1) x (omega (arith, some)) ∙ ap (λ y. take (length xs - 1) xs ++ y ∷ []) (sym is)

pub left_last : (id : AnnId) (more_ : List Left) (left : Left) (classes : List Class) → with_left id (more_ ++ left ∷ []) classes ≡ with_left id more_ (joined left.kind (id ∷ left.beside ∷ []) classes)
left_last id [] left classes = refl
left_last id (x ∷ xs) left classes = ap (joined x.kind (id ∷ x.beside ∷ [])) (left_last id xs left classes)

pub taken_last : (more_ : List Taken) (taken : Taken) (layer : Annotations) → with_all_taken (more_ ++ taken ∷ []) layer ≡ with_all_taken more_ (with_taken taken layer)
taken_last [] taken layer = refl
taken_last (x ∷ xs) taken layer = ap (with_taken x) (taken_last xs taken layer)

first_true : (a b : Bool) → (a && b) ≡ true → a ≡ true
first_true true b e = refl
first_true false b e = e

last_true : (a b : Bool) → (a && b) ≡ true → b ≡ true
last_true true b e = e
last_true false b e = absurd (let f : false ≡ true = e in cc)

pub all_front : {X : Type 0} (test : X → Bool) (xs : List X) (x : X) → list_all test (xs ++ x ∷ []) ≡ true → list_all test xs ≡ true
all_front test xs x e = first_true (list_all test xs) (list_all test (x ∷ [])) (sym (list_all-append test xs (x ∷ [])) ∙ e)

pub all_but : {X : Type 0} (test : X → Bool) (front : List X) (x : X) (behind : List X) → list_all test (front ++ x ∷ behind) ≡ true → list_all test (front ++ behind) ≡ true
all_but test [] x behind e = last_true (test x) (list_all test behind) e
all_but test (y ∷ ys) x behind e =
    ap (λ b. b && list_all test (ys ++ behind)) (first_true (test y) (list_all test (ys ++ x ∷ behind)) e) ∙ all_but test ys x behind (last_true (test y) (list_all test (ys ++ x ∷ behind)) e)

pub all_last : {X : Type 0} (test : X → Bool) (xs : List X) (x : X) → list_all test (xs ++ x ∷ []) ≡ true → test x ≡ true
all_last test xs x e = first_true (test x) true (last_true (list_all test xs) (list_all test (x ∷ [])) (sym (list_all-append test xs (x ∷ [])) ∙ e))

pub all_more : {X : Type 0} (test : X → Bool) (xs : List X) (x : X) → list_all test xs ≡ true → test x ≡ true → list_all test (xs ++ x ∷ []) ≡ true
all_more test xs x front last = list_all-append test xs (x ∷ []) ∙ ap (λ b. b && (test x && true)) front ∙ ap (λ b. b && true) last

-- ---- the index, where classes change

pub index_with : (layer : Annotations) (classes : List Class) (but : Option AnnId) (index : Index) → IsIndex but layer index → IsIndex but (with_classes layer classes) index
index_with layer classes but index is =
    record {
      namers = λ id other apart_ names. is.namers id other apart_ (sym (ap (λ o. option_map_or (λ mark. list_any (is_id id) (named_by mark)) o false) (same_marks layer classes other.kind other.number)) ∙ names);
      spans = is.spans;
    }

pub indexed_with : (layer : Annotations) (classes : List Class) (index : Option Index) → IsIndexed layer index → IsIndexed (with_classes layer classes) index
indexed_with layer classes None is = tt
indexed_with layer classes (Some index) is = index_with layer classes None index is

-- ---- a member that leaves

pub left_again : (id : AnnId) (kind : RelId) (left more_ : List Left) (beside_ : AnnId) (before after : List Class) (class : Class) → AreClasses before → class_with kind.n id before ≡ Some class → beside_ ≡ first_other id class.members
    → more_ ≡ left ++ (let l : Left = record { kind = kind; beside = beside_ } in l) ∷ [] → after ≡ parted kind.n id before → with_left id more_ after ≡ with_left id left before
left_again id kind left more_ beside_ before after class all found is longer gone_ =
    ap (λ ls. with_left id ls after) longer ∙ left_last id left (record { kind = kind; beside = beside_ }) after
    ∙ ap (λ cs. with_left id left (joined kind (id ∷ beside_ ∷ []) cs)) gone_ ∙ ap (with_left id left) (comes_back kind id beside_ before class all found is)

pub left_stays : (id : AnnId) (kind : RelId) (left more_ : List Left) (stays : Option AnnId) (before after : List Class) → AreClasses before → stays ≡ beside kind.n id before → more_ ≡ left ++ left_beside kind stays
    → after ≡ parted kind.n id before → with_left id more_ after ≡ with_left id left before
left_stays id kind left more_ stays before after all is longer gone_ = split (class_with kind.n id before) refl
  where
    no_more : (xs : List Left) → xs ++ [] ≡ xs
    no_more [] = refl
    no_more (x ∷ xs) = ap (λ ys. x ∷ ys) (no_more xs)

    split : (o : Option Class) → class_with kind.n id before ≡ o → with_left id more_ after ≡ with_left id left before
    split None found =
        let none : stays ≡ None = is ∙ ap (option_map (λ class. first_other id class.members)) found in
        ap (λ ls. with_left id ls after) (longer ∙ ap (λ s. left ++ left_beside kind s) none ∙ no_more left) ∙ ap (with_left id left) (gone_ ∙ sym (part_none kind.n id before found))
    split (Some class) found =
        let one : stays ≡ Some (first_other id class.members) = is ∙ ap (option_map (λ class. first_other id class.members)) found in
        left_again id kind left more_ (first_other id class.members) before after class all found refl (longer ∙ ap (λ s. left ++ left_beside kind s) one) gone_

-- ---- an annotation that is taken away

pub gone_told : (layer less new : Annotations) (id : AnnId) (kinds : List ℕ) → less ≡ without layer id → IsClassList layer.classes → kinds ≡ dedup ◌==◌ (map (λ class. class.kind.n) layer.classes)
    → new ≡ with_classes less (parted_from id less.classes kinds) → new ≡ gone layer id
gone_told layer less new id kinds is all once by =
    let same : less.classes ≡ layer.classes = ap (λ (l : Annotations). l.classes) is ∙ same_classes layer id.kind id.number in
    gone_by layer less new id kinds is (subst IsClassList (sym same) all) (once ∙ ap (λ cs. dedup ◌==◌ (map (λ class. class.kind.n) cs)) (sym same)) by

-- it stands again in the classes that it left
pub taken_leads : (layer less new : Annotations) (id : AnnId) (mark : Option Mark) (left : List Left) (classes : List Class) → mark ≡ mark_at layer id → less ≡ without layer id → new ≡ with_classes less classes
    → with_left id left new.classes ≡ less.classes → IsTaken (record { id = id; mark = mark; left = left }) new layer
taken_leads layer less new id mark left classes was is by back =
    record {
      fits = ap (λ o. option_map_or (is_of_kind id.kind) o true) was ∙ mark_fits layer id.kind id.number;
      leads =
          ap (λ cs. with_this (with_classes new cs) id.kind id.number mark) back
          ∙ ap (λ l. with_this (with_classes l less.classes) id.kind id.number mark) by
          ∙ ap (with_this less id.kind id.number) was
          ∙ subst (λ l. with_this l id.kind id.number (mark_at layer id) ≡ layer) (sym is) (without_differs layer id);
    }

pub taken_alone : (layer new : Annotations) (id : AnnId) (mark : Option Mark) (left : List Left) → mark ≡ mark_at layer id → new ≡ without layer id → left ≡ [] → IsTaken (record { id = id; mark = mark; left = left }) new layer
taken_alone layer new id mark left was is none = taken_leads layer new new id mark left new.classes was is refl (ap (λ ls. with_left id ls new.classes) none)

pub taken_more : (all more_ : List Taken) (taken : Taken) (layer before earlier : Annotations) → AreTaken all before earlier → IsTaken taken layer before → more_ ≡ all ++ taken ∷ [] → AreTaken more_ layer earlier
taken_more all more_ taken layer before earlier are is longer =
    record {
      fits = ap (list_all fits_taken) longer ∙ all_more fits_taken all taken are.fits is.fits;
      leads = ap (λ ts. with_all_taken ts layer) longer ∙ taken_last all taken layer ∙ ap (with_all_taken all) is.leads ∙ are.leads;
    }

pub marks_lead : (taken given : List Taken) (layer earlier : Annotations) → AreTaken given layer earlier → taken ≡ given → IsWayBack (Marks taken) layer earlier
marks_lead taken given layer earlier are is = subst (λ ts. IsWayBack (Marks ts) layer earlier) (sym is) (record { fits = are.fits; leads = are.leads })

pub one_leads : (all : List Taken) (taken : Taken) (layer earlier : Annotations) → all ≡ taken ∷ [] → IsTaken taken layer earlier → IsWayBack (Marks all) layer earlier
one_leads all taken layer earlier one is = marks_lead all (taken ∷ []) layer earlier (record { fits = ap (λ b. b && true) is.fits; leads = is.leads }) one

-- ---- a member that leaves, and what leads back

pub member_leads : (layer : Annotations) (kind : RelId) (id other : AnnId) → IsClassList layer.classes → Some other ≡ beside kind.n id layer.classes
    → IsWayBack (Member kind id other) (with_classes layer (parted kind.n id layer.classes)) layer
member_leads layer kind id other all is = split (class_with kind.n id layer.classes) refl
  where
    split : (o : Option Class) → class_with kind.n id layer.classes ≡ o → IsWayBack (Member kind id other) (with_classes layer (parted kind.n id layer.classes)) layer
    split None found = absurd (let f : Some other ≡ None = is ∙ ap (option_map (λ class. first_other id class.members)) found in cc)
    split (Some class) found =
        let e : Some other ≡ Some (first_other id class.members) = is ∙ ap (option_map (λ class. first_other id class.members)) found in
        record { fits = refl; leads = ap (with_classes layer) (comes_back kind id other layer.classes class all.ordered found (let f : other ≡ first_other id class.members = cc in f)) }

pub same_leads : (layer : Annotations) (kind : RelId) (id : AnnId) → None ≡ beside kind.n id layer.classes → IsWayBack Same (with_classes layer (parted kind.n id layer.classes)) layer
same_leads layer kind id is = split (class_with kind.n id layer.classes) refl
  where
    split : (o : Option Class) → class_with kind.n id layer.classes ≡ o → IsWayBack Same (with_classes layer (parted kind.n id layer.classes)) layer
    split None found = record { fits = refl; leads = ap (with_classes layer) (sym (part_none kind.n id layer.classes found)) }
    split (Some class) found = absurd (let f : None ≡ Some (first_other id class.members) = is ∙ ap (option_map (λ class. first_other id class.members)) found in cc)

-- no rule is broken where a member leaves its class
pub parted_rule : (conf : Configuration) (characters : ℕ) (layer : Annotations) (kind : ℕ) (id : AnnId) → IsWellFormed conf characters layer
    → draft_rule conf characters (with_less (with_classes layer (parted kind id layer.classes))) ≡ None
parted_rule conf characters layer kind id well = ap (option_map (λ (flaw : Flaw). flaw.rule)) (parted_unflawed conf characters layer kind id well)

-- ---- members that are joined

pub sought_same : (kind : ℕ) (ids sought : List AnnId) (classes : List Class) → sought ≡ ascending ids → filter (shares kind sought) classes ≡ filter (shares kind ids) classes
sought_same kind ids sought classes is = ap (λ s. filter (shares kind s) classes) is ∙ each classes
  where
    members_same : (ms : List AnnId) → list_any (λ id. is_among id (ascending ids)) ms ≡ list_any (λ id. is_among id ids) ms
    members_same [] = refl
    members_same (m ∷ ms) = ap (λ b. b || list_any (λ id. is_among id (ascending ids)) ms) (has_rank-ascending ids (rank m)) ∙ ap (λ b. is_among m ids || b) (members_same ms)

    each : (cs : List Class) → filter (shares kind (ascending ids)) cs ≡ filter (shares kind ids) cs
    each [] = refl
    each (x ∷ xs) =
        ap (λ b. cond ((x.kind.n == kind) && b) (x ∷ filter (shares kind (ascending ids)) xs) (filter (shares kind (ascending ids)) xs)) (members_same x.members)
        ∙ ap (λ ys. cond (shares kind ids x) (x ∷ ys) ys) (each xs)

pub alone_is : (conf : Configuration) (layer : Annotations) (class : Class) (told equal out : Option Rule) → told ≡ class_rule conf layer class → equal ≡ equiv_members conf layer class → out ≡ option_or told equal
    → out ≡ alone_rule conf layer class
alone_is conf layer class told equal out t e is =
    is ∙ ap (λ o. option_or o equal) t ∙ ap (option_or (class_rule conf layer class)) e
    ∙ grouped (unknown_class conf class) (class_not_for_use conf class) (first_missing layer class.members) (first_unwanted (map (member conf layer) class.members)) (equiv_members conf layer class)
  where
    or_none : (o : Option Rule) → o ≡ option_or o None
    or_none None = refl
    or_none (Some rule) = refl

    grouped : (a b c d e : Option Rule) → option_or (first_of (a ∷ b ∷ c ∷ d ∷ [])) e ≡ first_broken (a ∷ b ∷ c ∷ d ∷ e ∷ [])
    grouped (Some a) b c d e = refl
    grouped None (Some b) c d e = refl
    grouped None None (Some c) d e = refl
    grouped None None None (Some d) e = refl
    grouped None None None None e = or_none e

-- how many classes there are where members are joined
fewer_classes : (test : Class → Bool) (classes : List Class) → length (filter test classes) + length (filter (λ class. not (test class)) classes) ≡ length classes
fewer_classes test [] = refl
fewer_classes test (x ∷ xs) =
    elim (test x) as (λ b. length (cond b (x ∷ filter test xs) (filter test xs)) + length (cond (not b) (x ∷ filter (λ class. not (test class)) xs) (filter (λ class. not (test class)) xs)) ≡ suc (length xs)) [
      | true ↦ omega (arith, fewer_classes test xs)
      | false ↦ omega (arith, fewer_classes test xs)
    ]

pub sharing_few : (test : Class → Bool) (classes sharing_ : List Class) (m n : ℕ) → m ≡ length classes → n ≡ length sharing_ → sharing_ ≡ filter test classes → n ≤ m
sharing_few test classes sharing_ m n all some is = omega (arith, fewer_classes test classes, ap length is, all, some)

pub one_too_many_is : (kind : RelId) (ids : List AnnId) (classes sharing_ : List Class) (m n : ℕ) → m ≡ length classes → n ≡ length sharing_ → sharing_ ≡ filter (shares kind.n ids) classes
    → (if nat_lt (m - n) 10000 then None else Some (LayerFull letter.Text)) ≡ option_map (λ flaw. flaw.rule) (too_many_classes (joined kind ids classes))
one_too_many_is kind ids classes sharing_ m n all some is =
    let others : List Class = filter (λ class. not (shares kind.n ids class)) classes in
    let count : m - n ≡ length others = omega (arith, fewer_classes (shares kind.n ids) classes, ap length is, all, some) in
    ap (λ k. if nat_lt k 10000 then None else Some (LayerFull letter.Text)) count ∙ turned (length others) (length (joined kind ids classes)) (length-insert_class (joined_class kind ids classes) others)
  where
    turned : (k l : ℕ) → l ≡ suc k → ◌≡◌ {A = Option Rule} (if nat_lt k 10000 then None else Some (LayerFull letter.Text)) (option_map (λ (flaw : Flaw). flaw.rule) (if nat_lt 10000 l then Some (record { rule = LayerFull letter.Text; at = at.Class 10000 }) else None))
    turned k l e = split (nat_lt k 10000) (nat_lt 10000 l) (other k l e)
      where
        other : (k l : ℕ) → l ≡ suc k → nat_lt 10000 l ≡ not (nat_lt k 10000)
        other k l e = grind (arith, nat_tests)

        split : (a b : Bool) → b ≡ not a → ◌≡◌ {A = Option Rule} (if a then None else Some (LayerFull letter.Text)) (option_map (λ (flaw : Flaw). flaw.rule) (if b then Some (record { rule = LayerFull letter.Text; at = at.Class 10000 }) else None))
        split true true f = absurd (let g : true ≡ false = f in cc)
        split true false f = refl
        split false true f = refl
        split false false f = absurd (let g : false ≡ true = f in cc)

-- the rule of the class that is made, or else of one class too many
pub planned : (conf : Configuration) (layer : Annotations) (kind : RelId) (ids all : List AnnId) (classes sharing_ given : List Class) (broken many out : Option Rule) → classes ≡ layer.classes → sharing_ ≡ filter (shares kind.n ids) classes
    → given ≡ sharing_ → all ≡ ids ++ flat_map (λ class. class.members) given → broken ≡ alone_rule conf layer (let c : Class = record { kind = kind; members = ascending all } in c)
    → many ≡ option_map (λ flaw. flaw.rule) (too_many_classes (joined kind ids layer.classes)) → out ≡ option_or broken many → out ≡ option_map (λ flaw. flaw.rule) (joined_flaw conf layer kind ids)
planned conf layer kind ids all classes sharing_ given broken many out same found as_ gathered one full is =
    let members : all ≡ ids ++ sharing kind.n ids layer.classes =
    gathered ∙ ap (λ cs. ids ++ flat_map (λ class. class.members) cs) (as_ ∙ found ∙ ap (filter (shares kind.n ids)) same) ∙ ap (λ ms. ids ++ ms) (sym (sharing_filtered kind.n ids layer.classes)) in
    is ∙ ap (λ o. option_or o many) (one ∙ ap (λ ms. alone_rule conf layer (let c : Class = record { kind = kind; members = ascending ms } in c)) members)
    ∙ ap (option_or (alone_rule conf layer (joined_class kind ids layer.classes))) full
    ∙ mapped (alone_rule conf layer (joined_class kind ids layer.classes)) (at.Class (place_among (joined_class kind ids layer.classes) (apart kind.n ids layer.classes))) (too_many_classes (joined kind ids layer.classes))
  where
    mapped : (o : Option Rule) (place : FlawPlace) (full : Option Flaw)
        → option_or o (option_map (λ (flaw : Flaw). flaw.rule) full) ≡ option_map (λ (flaw : Flaw). flaw.rule) (option_or (option_map (λ rule. let f : Flaw = record { rule = rule; at = place } in f) o) full)
    mapped None place full = refl
    mapped (Some rule) place full = refl

-- the members that leave are those that the kept class does not have
pub out_has : (q : ℕ) (ids all out : List AnnId) (given : List Class) (kept : Class) → all ≡ ids ++ flat_map (λ class. class.members) given → out ≡ filter (λ id. not (has_rank (rank id) (ascending kept.members))) all
    → has_rank q out ≡ ((has_rank q ids || has_rank q (flat_map (λ class. class.members) given)) && not (has_rank q kept.members))
out_has q ids all out given kept gathered is =
    ap (has_rank q) is ∙ each all
    ∙ ap (λ b. has_rank q all && not b) (has_rank-ascending kept.members q)
    ∙ ap (λ ms. has_rank q ms && not (has_rank q kept.members)) gathered
    ∙ ap (λ b. b && not (has_rank q kept.members)) (list_any-append (λ id. rank id == q) ids (flat_map (λ class. class.members) given))
  where
    gone_ : (a b c : Bool) → (a ≡ true → c ≡ true) → (b && not c) ≡ ((a || b) && not c)
    gone_ true true c f = refl
    gone_ true false true f = refl
    gone_ true false false f = absurd (let g : false ≡ true = f refl in cc)
    gone_ false b c f = refl

    stays : (a b c : Bool) → (a ≡ true → c ≡ false) → (a || (b && not c)) ≡ ((a || b) && not c)
    stays true b c f = sym (ap not (f refl))
    stays false b c f = refl

    each : (xs : List AnnId) → has_rank q (filter (λ id. not (has_rank (rank id) (ascending kept.members))) xs) ≡ (has_rank q xs && not (has_rank q (ascending kept.members)))
    each [] = refl
    each (x ∷ xs) =
        elim (has_rank (rank x) (ascending kept.members)) as (λ b. has_rank (rank x) (ascending kept.members) ≡ b
        → has_rank q (cond (not b) (x ∷ filter (λ id. not (has_rank (rank id) (ascending kept.members))) xs) (filter (λ id. not (has_rank (rank id) (ascending kept.members))) xs)) ≡ (((rank x == q) || has_rank q xs) && not (has_rank q (ascending kept.members)))) [
          | true ↦ λ e. each xs ∙ gone_ (rank x == q) (has_rank q xs) (has_rank q (ascending kept.members)) (λ f. ap (λ p. has_rank p (ascending kept.members)) (sym (eqb-true (rank x) q f)) ∙ e)
          | false ↦ λ e. ap (λ b. (rank x == q) || b) (each xs) ∙ stays (rank x == q) (has_rank q xs) (has_rank q (ascending kept.members)) (λ f. ap (λ p. has_rank p (ascending kept.members)) (sym (eqb-true (rank x) q f)) ∙ e)
        ] refl

some_member : (class : Class) → IsClass class → has_some class ≡ true
some_member class is = positive (length class.members) is.some
  where
    positive : (n : ℕ) → 0 < n → nat_lt 0 n ≡ true
    positive n h = grind (arith, nat_tests)

some_filtered : (test : Class → Bool) (classes : List Class) → AreClasses classes → list_all has_some (filter test classes) ≡ true
some_filtered test [] all = refl
some_filtered test (x ∷ xs) all =
    elim (test x) as (λ b. list_all has_some (cond b (x ∷ filter test xs) (filter test xs)) ≡ true) [
      | true ↦ ap (λ b. b && list_all has_some (filter test xs)) (some_member x all.0) ∙ some_filtered test xs all.2
      | false ↦ some_filtered test xs all.2
    ]

joined_are : (layer : Annotations) (kind : RelId) (ids : List AnnId) → IsSomeWellFormed layer → IsLayer layer → 0 < length ids → AreClasses (joined kind ids layer.classes)
joined_are layer kind ids well kept some = (joined_kept kind ids layer.classes some (let few : length layer.classes ≤ 10000 = few_classes well.0 well.1.0 layer well.1.1 in omega arith) kept.classes).ordered

two_members : (conf : Configuration) (layer : Annotations) (class : Class) → IsGoodClass conf layer class → nat_lt (length class.members) 2 ≡ false
two_members conf layer class good = first_false (nat_lt (length class.members) 2) (are_bad_members conf layer class.kind.n class.members) (not_so (nat_lt (length class.members) 2 || are_bad_members conf layer class.kind.n class.members) EquivMembers good.equal)
  where
    first_false : (a b : Bool) → (a || b) ≡ false → a ≡ false
    first_false true b e = e
    first_false false b e = refl

pub leads_to_shared : (layer : Annotations) (kind : RelId) (ids out : List AnnId) (rest : List Class) (kept : Class) (back : Back) → IsSomeWellFormed layer → IsLayer layer → 0 < length ids → IsOneOf kept rest (filter (shares kind.n ids) layer.classes)
    → ((q : ℕ) → has_rank q out ≡ ((has_rank q ids || has_rank q (flat_map (λ class. class.members) rest)) && not (has_rank q kept.members))) → back ≡ Classes kind out rest
    → IsWayBack back (with_classes layer (joined kind ids layer.classes)) layer
leads_to_shared layer kind ids out rest kept back well is some one leave told =
    let others : List Class = one.front ++ one.behind in
    let good : IsGoodClass well.0 layer kept =
    (one_so (IsGoodClass well.0 layer) one.front kept one.behind (subst (AllByRecursion (IsGoodClass well.0 layer)) one.all (All-filter (IsGoodClass well.0 layer) (shares kind.n ids) layer.classes (good_classes well.0 well.1.0 layer well.1.1)))).0 in
    subst (λ b. IsWayBack b (with_classes layer (joined kind ids layer.classes)) layer) (sym (told ∙ ap (Classes kind out) one.less))
    (record {
      fits = all_but has_some one.front kept one.behind (ap (list_all has_some) (sym one.all) ∙ some_filtered (shares kind.n ids) layer.classes is.classes.ordered);
      leads = ap (with_classes layer) (joined_parts kind ids out layer.classes one.front kept one.behind is.classes.ordered (joined_are layer kind ids well is some) one.all (two_members well.0 layer kept good)
          (λ q. leave q ∙ ap (λ cs. (has_rank q ids || has_rank q (flat_map (λ class. class.members) cs)) && not (has_rank q kept.members)) one.less));
    })

-- the class that was taken out of some at a place, and the others
pub one_of : (classes all others : List Class) (i : ℕ) (class : Class) → all ≡ classes → i < length all → class ≡ get_or all i class → others ≡ take i all ++ drop (suc i) all → IsOneOf class others classes
one_of classes all others i class same within is less = record { front = take i all; behind = drop (suc i) all; all = sym same ∙ parts all i class within is; less = less }
  where
    parts : (xs : List Class) (i : ℕ) (x : Class) → i < length xs → x ≡ get_or xs i x → xs ≡ take i xs ++ x ∷ drop (suc i) xs
    parts [] i x h e = absurd (omega arith)
    parts (y ∷ ys) zero x h e = ap (λ z. z ∷ ys) (sym e)
    parts (y ∷ ys) (suc i) x h e = ap (λ zs. y ∷ zs) (parts ys i x (omega arith) e)

pub leads_to_new : (layer : Annotations) (kind : RelId) (ids out : List AnnId) (again : List Class) (back : Back) → IsSomeWellFormed layer → IsLayer layer → 0 < length ids → filter (shares kind.n ids) layer.classes ≡ []
    → out ≡ ids → again ≡ [] → back ≡ Classes kind out again → IsWayBack back (with_classes layer (joined kind ids layer.classes)) layer
leads_to_new layer kind ids out again back well is some found same none told =
    subst (λ b. IsWayBack b (with_classes layer (joined kind ids layer.classes)) layer) (sym (told ∙ ap (λ o. Classes kind o again) same ∙ ap (Classes kind ids) none))
    (record { fits = refl; leads = ap (with_classes layer) (joined_new kind ids layer.classes (joined_are layer kind ids well is some) found some) })

-- ---- classes that are made again, from their end

pub joined_step : (layer made first : Annotations) (left others classes : List Class) (class : Class) → left ≡ others ++ class ∷ [] → made ≡ with_classes layer (joined class.kind class.members layer.classes)
    → with_classes layer (all_joined left layer.classes) ≡ with_classes first (all_joined classes first.classes) → with_classes made (all_joined others made.classes) ≡ with_classes first (all_joined classes first.classes)
joined_step layer made first left others classes class is by so_far =
    ap (λ l. with_classes l (all_joined others l.classes)) by
    ∙ sym (ap (λ cs. with_classes layer cs) (ap (λ ls. all_joined ls layer.classes) is ∙ joined_last others class layer.classes))
    ∙ so_far

pub left_step : (layer made first : Annotations) (id : AnnId) (left others all : List Left) (class : Left) → left ≡ others ++ class ∷ [] → made ≡ with_classes layer (joined class.kind (id ∷ class.beside ∷ []) layer.classes)
    → with_classes layer (with_left id left layer.classes) ≡ with_classes first (with_left id all first.classes) → with_classes made (with_left id others made.classes) ≡ with_classes first (with_left id all first.classes)
left_step layer made first id left others all class is by so_far =
    ap (λ l. with_classes l (with_left id others l.classes)) by
    ∙ sym (ap (λ cs. with_classes layer cs) (ap (λ ls. with_left id ls layer.classes) is ∙ left_last id others class layer.classes))
    ∙ so_far

pub taken_step : (layer made first : Annotations) (left others all : List Taken) (taken : Taken) → left ≡ others ++ taken ∷ [] → made ≡ with_taken taken layer
    → with_all_taken left layer ≡ with_all_taken all first → with_all_taken others made ≡ with_all_taken all first
taken_step layer made first left others all taken is by so_far =
    ap (with_all_taken others) by ∙ sym (taken_last others taken layer) ∙ ap (λ ls. with_all_taken ls layer) (sym is) ∙ so_far

pub has_member_in : (class : Class) → has_some class ≡ true → 0 < length class.members
has_member_in class e = positive (length class.members) e
  where
    positive : (n : ℕ) → nat_lt 0 n ≡ true → 0 < n
    positive n h = grind (arith, nat_tests)

-- ---- taking an annotation away

pub gone_differs : (layer : Annotations) (id : AnnId) (index : Index) → IsIndex None layer index → IsIndex (Some id) (gone layer id) index
gone_differs layer id index is =
    let less : Annotations = without layer id in
    index_with less (parted_from id less.classes (map (λ class. class.kind.n) less.classes)) (Some id) index (index_but less layer id index (without_differs layer id) is)

pub gone_good : (conf : Configuration) (layer : Annotations) (id : AnnId) → HasGoodSpans conf layer → HasGoodSpans conf (gone layer id)
gone_good conf layer id good = good_less conf layer id.kind id.number good

-- the rule that is told stands where no other is lower
pub lower_same : (own told made : Option Rule) → told ≡ made → lower_rule own told ≡ lower_rule own made
lower_same own told made is = ap (lower_rule own) is

-- the rule that is broken where members are joined
pub joined_rule : (conf : Configuration) (characters : ℕ) (layer : Annotations) (kind : RelId) (ids : List AnnId) → IsWellFormed conf characters layer
    → draft_rule conf characters (with_less (with_classes layer (joined kind ids layer.classes))) ≡ option_map (λ flaw. flaw.rule) (joined_flaw conf layer kind ids)
joined_rule conf characters layer kind ids well = ap (option_map (λ (flaw : Flaw). flaw.rule)) (joined_least conf characters layer kind ids well)
