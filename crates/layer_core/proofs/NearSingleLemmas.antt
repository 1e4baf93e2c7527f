-- The rules on one annotation or class alone, where one annotation was changed: they can be broken only at it, at those that name it and at the classes that have it.
use Rattle.std.proofs.Common.{◌≡◌, ℕ, ◌+◌, ◌<◌, ◌≤◌, zero, suc, Bool, true, false, not, cond, List, [], ◌∷◌, map, length, drop, nat_lt, nat_le, slice_get, refl, sym, ◌∙◌, ap, Option, Some, None, if◌then◌else◌, arith, tests}
use Rattle.std.proofs.lemmas.Bool.{lt-ltb, le-ltb, leb-true}
use Rattle.std.specs.Option.{option_or, option_map, option_map_or, option_and_then}
use Rattle.std.specs.List.{AllByRecursion, filter, list_any}
use Rattle.mark_base.specs.declared.ann_id.AnnId.{AnnId}
use Rattle.conf_model.specs.Configurations.{Configuration}
use Rattle.layer_model.specs.declared.mark.Mark.{Mark}
use Rattle.layer_model.specs.declared.class.Class.{Class}
use Rattle.layer_model.specs.declared.rule.Rule.{Rule}
use Rattle.layer_model.specs.declared.flaw.Flaw.{Flaw}
use Rattle.layer_model.specs.declared.flaw.FlawPlace.{FlawPlace}
use Rattle.layer_model.specs.declared.flaw.FlawPlace.TheVariants as at
use Rattle.layer_model.specs.Annotations.{Annotations}
use Rattle.layer_model.specs.Layers.{mark_at}
use Rattle.layer_model.specs.LayerIds.{ids_of}
use Rattle.layer_model.specs.Rules.{number_of}
use Rattle.layer_rules.specs.FlawPlaces.{by_place, first_rule, places}
use Rattle.layer_rules.specs.MarkRules.{unknown_type, unknown_class, not_for_use, class_not_for_use, bad_fragments, out_of_text, span_too_long, named_by, first_missing, wanted_by, member, first_unwanted, unknown_role, argument_type, too_many, unknown_value}
use Rattle.layer_rules.specs.LayerRules.{is_id}
use Rattle.layer_rules.specs.WellFormed.{IsWellFormed, no_class}
use Rattle.layer_rules.specs.LowestFlaw.{at_single, class_rule, first_of, flaw_at, lower_flaw, lowest_at, lowest_from, mark_rule, single_rules}
use Rattle.layer_rules.proofs.FlawLemmas.{lower_assoc}
use Rattle.layer_rules.proofs.PlaceLemmas.{class_places, lowest-append, lowest_classes}
use Rattle.layer_rules.proofs.WalkLemmas.{single_walk}
use Rattle.layer_core.specs.Commands.{lower_rule}
use Rattle.layer_core.specs.Namers.{names_it}
use Rattle.layer_core.specs.Near.{class_near, has_it, is_near, lowest_class_rule, lowest_rule, near_ids, single_near}
use Rattle.layer_core.proofs.ElsewhereLemmas.{AlikeBut, along, first_false, last_false, none_any, unmapped}
use Rattle.layer_core.proofs.AlikeLemmas.{StandAlike, admitted_same, members_same, missing_same, wanted_same}

-- ---- the rules of flaws

-- the rule that a flaw is of
abbrev pub rule_in : Option Flaw → Option Rule
rule_in flaw = option_map (λ found. found.rule) flaw

turned : (x y : ℕ) → nat_lt y x ≡ not (nat_le x y)
turned x y = split (nat_le x y) refl
  where
    is_not : (m n : ℕ) → nat_le m n ≡ false → n < m
    is_not m n e = search (arith, tests)

    split : (b : Bool) → nat_le x y ≡ b → nat_lt y x ≡ not b
    split true is = le-ltb y x (leb-true x y is)
    split false is = lt-ltb y x (is_not x y is)

-- the lower of two rules is that of the lower of two flaws
pub lower_in : (a b : Option Flaw) → rule_in (lower_flaw a b) ≡ lower_rule (rule_in a) (rule_in b)
lower_in None b = refl
lower_in (Some a) None = refl
lower_in (Some a) (Some b) = choose (nat_le (number_of a.rule) (number_of b.rule)) ∙ sym (ap (λ c. if c then Some b.rule else Some a.rule) (turned (number_of a.rule) (number_of b.rule)))
  where
    choose : (c : Bool) → rule_in (if c then Some a else Some b) ≡ (if not c then Some b.rule else Some a.rule)
    choose true = refl
    choose false = refl

pub in_place : (place : FlawPlace) (rule : Option Rule) → rule_in (flaw_at place rule) ≡ rule
in_place place None = refl
in_place place (Some rule) = refl

-- which two of three rules are compared first does not matter
pub lower_thrice : (a b c : Option Rule) → lower_rule (lower_rule a b) c ≡ lower_rule a (lower_rule b c)
lower_thrice a b c =
    let fa : Option Flaw = flaw_at (at.Class 0) a in
    let fb : Option Flaw = flaw_at (at.Class 0) b in
    let fc : Option Flaw = flaw_at (at.Class 0) c in
    let ea : a ≡ rule_in fa = sym (in_place (at.Class 0) a) in
    let eb : b ≡ rule_in fb = sym (in_place (at.Class 0) b) in
    let ec : c ≡ rule_in fc = sym (in_place (at.Class 0) c) in
    (λ i. lower_rule (lower_rule (ea i) (eb i)) (ec i))
    ∙ ap (λ r. lower_rule r (rule_in fc)) (sym (lower_in fa fb)) ∙ sym (lower_in (lower_flaw fa fb) fc)
    ∙ ap rule_in (lower_assoc fa fb fc)
    ∙ lower_in fa (lower_flaw fb fc) ∙ ap (lower_rule (rule_in fa)) (lower_in fb fc)
    ∙ sym (λ i. lower_rule (ea i) (lower_rule (eb i) (ec i)))

pub lower_none : (a : Option Rule) → lower_rule a None ≡ a
lower_none None = refl
lower_none (Some a) = refl

-- ---- a loop over annotations, or over classes

-- what is left at the end of a list
pub ended : {X : Type 0} (xs : List X) (i : ℕ) → length xs ≤ i → drop i xs ≡ []
ended [] zero h = refl
ended [] (suc i) h = refl
ended (x ∷ xs) zero h = absurd (omega arith)
ended (x ∷ xs) (suc i) h = ended xs i (omega arith)

pub more_ids : (conf : Configuration) (characters : ℕ) (layer : Annotations) (lowest : Option Rule) (id : AnnId) (rest later : List AnnId) (whole : Option Rule) → rest ≡ id ∷ later
    → lower_rule lowest (lowest_rule conf characters layer rest) ≡ whole
    → lower_rule (lower_rule lowest (option_and_then (mark_rule conf characters layer) (mark_at layer id))) (lowest_rule conf characters layer later) ≡ whole
more_ids conf characters layer lowest id rest later whole is before =
    lower_thrice lowest (option_and_then (mark_rule conf characters layer) (mark_at layer id)) (lowest_rule conf characters layer later)
    ∙ sym (ap (λ r. lower_rule lowest (lowest_rule conf characters layer r)) is) ∙ before

pub no_more_ids : (conf : Configuration) (characters : ℕ) (layer : Annotations) (lowest : Option Rule) (rest : List AnnId) (whole : Option Rule) → rest ≡ []
    → lower_rule lowest (lowest_rule conf characters layer rest) ≡ whole → lowest ≡ whole
no_more_ids conf characters layer lowest rest whole is before = sym (lower_none lowest) ∙ sym (ap (λ r. lower_rule lowest (lowest_rule conf characters layer r)) is) ∙ before

pub more_classes : (conf : Configuration) (layer : Annotations) (id : AnnId) (lowest : Option Rule) (class : Class) (rest later : List Class) (whole : Option Rule) → rest ≡ class ∷ later
    → lower_rule lowest (lowest_class_rule conf layer id rest) ≡ whole
    → lower_rule (lower_rule lowest (class_near conf layer id class)) (lowest_class_rule conf layer id later) ≡ whole
more_classes conf layer id lowest class rest later whole is before =
    lower_thrice lowest (class_near conf layer id class) (lowest_class_rule conf layer id later)
    ∙ sym (ap (λ r. lower_rule lowest (lowest_class_rule conf layer id r)) is) ∙ before

pub no_more_classes : (conf : Configuration) (layer : Annotations) (id : AnnId) (lowest : Option Rule) (rest : List Class) (whole : Option Rule) → rest ≡ []
    → lower_rule lowest (lowest_class_rule conf layer id rest) ≡ whole → lowest ≡ whole
no_more_classes conf layer id lowest rest whole is before = sym (lower_none lowest) ∙ sym (ap (λ r. lower_rule lowest (lowest_class_rule conf layer id r)) is) ∙ before

-- ---- what the change does not touch breaks none of these rules

none_of_these : (rules_ : List (Option Rule)) → AllByRecursion (λ rule. rule ≡ None) rules_ → first_of rules_ ≡ None
none_of_these [] all = refl
none_of_these (rule ∷ rules_) all = ap (λ o. option_or o (first_of rules_)) all.0 ∙ none_of_these rules_ all.1

-- what a place does not break, the annotation there does not
unbroken_by : (f : AnnId → Mark → Option Rule) (g : ℕ → Class → Option Rule) (layer : Annotations) (id : AnnId) (mark : Mark) → mark_at layer id ≡ Some mark
    → by_place f g layer (at.Mark id) ≡ None → f id mark ≡ None
unbroken_by f g layer id mark is none = sym (ap (option_and_then (f id)) is) ∙ none

-- nor the class
unbroken_class : (f : AnnId → Mark → Option Rule) (g : ℕ → Class → Option Rule) (layer : Annotations) (index : ℕ) (class : Class) → slice_get layer.classes index ≡ Some class
    → by_place f g layer (at.Class index) ≡ None → g index class ≡ None
unbroken_class f g layer index class is none = sym (ap (option_and_then (g index)) is) ∙ none

mark_kept : (conf : Configuration) (characters : ℕ) (a b : Annotations) (other : AnnId) (mark : Mark) → IsWellFormed conf characters b → mark_at b other ≡ Some mark → StandAlike a b (named_by mark)
    → mark_rule conf characters a mark ≡ None
mark_kept conf characters a b other mark kept is alike_ =
    none_of_these
    (unknown_type conf mark ∷ not_for_use conf mark ∷ bad_fragments mark ∷ out_of_text characters mark ∷ span_too_long mark
    ∷ first_missing a (named_by mark) ∷ first_unwanted (wanted_by conf a mark) ∷ unknown_role conf mark ∷ argument_type conf a mark ∷ too_many conf mark
    ∷ unknown_value conf mark ∷ []) (
      unbroken_by (λ id. unknown_type conf) (λ i. unknown_class conf) b other mark is (kept.types (at.Mark other)),
      (
        unbroken_by (λ id. not_for_use conf) (λ i. class_not_for_use conf) b other mark is (kept.for_use (at.Mark other)),
        (
          unbroken_by (λ id. bad_fragments) no_class b other mark is (kept.fragments (at.Mark other)),
          (
            unbroken_by (λ id. out_of_text characters) no_class b other mark is (kept.in_text (at.Mark other)),
            (
              unbroken_by (λ id. span_too_long) no_class b other mark is (kept.short (at.Mark other)),
              (
                missing_same a b (named_by mark) alike_
                    ∙ unbroken_by (λ id m. first_missing b (named_by m)) (λ i c. first_missing b c.members) b other mark is (kept.there (at.Mark other)),
                (
                  ap first_unwanted (wanted_same conf a b mark alike_)
                      ∙ unbroken_by (λ id m. first_unwanted (wanted_by conf b m)) (λ i c. first_unwanted (map (member conf b) c.members)) b other mark is (kept.fitting (at.Mark other)),
                  (
                    unbroken_by (λ id. unknown_role conf) no_class b other mark is (kept.roles (at.Mark other)),
                    (
                      admitted_same conf a b mark alike_ ∙ unbroken_by (λ id. argument_type conf b) no_class b other mark is (kept.admitted (at.Mark other)),
                      (
                        unbroken_by (λ id. too_many conf) no_class b other mark is (kept.not_too_many (at.Mark other)),
                        (unbroken_by (λ id. unknown_value conf) no_class b other mark is (kept.values (at.Mark other)), tt),
                      ),
                    ),
                  ),
                ),
              ),
            ),
          ),
        ),
      ),
    )

class_kept : (conf : Configuration) (characters : ℕ) (a b : Annotations) (index : ℕ) (class : Class) → IsWellFormed conf characters b → slice_get b.classes index ≡ Some class → StandAlike a b class.members
    → class_rule conf a class ≡ None
class_kept conf characters a b index class kept is alike_ =
    none_of_these (unknown_class conf class ∷ class_not_for_use conf class ∷ first_missing a class.members ∷ first_unwanted (map (member conf a) class.members) ∷ []) (
      unbroken_class (λ id. unknown_type conf) (λ i. unknown_class conf) b index class is (kept.types (at.Class index)),
      (
        unbroken_class (λ id. not_for_use conf) (λ i. class_not_for_use conf) b index class is (kept.for_use (at.Class index)),
        (
          missing_same a b class.members alike_
              ∙ unbroken_class (λ id m. first_missing b (named_by m)) (λ i c. first_missing b c.members) b index class is (kept.there (at.Class index)),
          (
            ap first_unwanted (members_same conf a b class.members alike_)
                ∙ unbroken_class (λ id m. first_unwanted (wanted_by conf b m)) (λ i c. first_unwanted (map (member conf b) c.members)) b index class is (kept.fitting (at.Class index)),
            tt,
          ),
        ),
      ),
    )

-- what does not have a changed ID among some stands as before
stand_as_before : (a b : Annotations) (id : AnnId) (ids : List AnnId) → AlikeBut a b id → list_any (is_id id) ids ≡ false → StandAlike a b ids
stand_as_before a b id ids but none = along (λ other. is_id id other ≡ false) (λ other. mark_at a other ≡ mark_at b other) ids (λ other e. but.marks other e) (none_any (is_id id) ids none)

far_mark : (conf : Configuration) (characters : ℕ) (a b : Annotations) (id other : AnnId) → IsWellFormed conf characters b → AlikeBut a b id → is_near a id other ≡ false
    → option_and_then (mark_rule conf characters a) (mark_at a other) ≡ None
far_mark conf characters a b id other kept but far = split (mark_at a other) refl
  where
    split : (o : Option Mark) → mark_at a other ≡ o → option_and_then (mark_rule conf characters a) o ≡ None
    split None is = refl
    split (Some mark) is =
        mark_kept conf characters a b other mark kept (sym (but.marks other (first_false (is_id id other) (names_it a id other) far)) ∙ is)
        (stand_as_before a b id (named_by mark) but
        (sym (ap (λ o. option_map_or (λ m. list_any (is_id id) (named_by m)) o false) is) ∙ last_false (is_id id other) (names_it a id other) far))

far_class : (conf : Configuration) (characters : ℕ) (a b : Annotations) (id : AnnId) (index : ℕ) (class : Class) → IsWellFormed conf characters b → AlikeBut a b id
    → slice_get a.classes index ≡ Some class → has_it id class ≡ false → class_rule conf a class ≡ None
far_class conf characters a b id index class kept but is far =
    class_kept conf characters a b index class kept (sym (ap (λ cs. slice_get cs index) but.classes) ∙ is) (stand_as_before a b id class.members but far)

-- ---- the walk over what is near

lowest_marks : (conf : Configuration) (characters : ℕ) (layer : Annotations) (ids : List AnnId)
    → rule_in (lowest_at (at_single conf characters layer) (map at.Mark ids)) ≡ lowest_rule conf characters layer ids
lowest_marks conf characters layer [] = refl
lowest_marks conf characters layer (id ∷ ids) =
    lower_in (flaw_at (at.Mark id) (at_single conf characters layer (at.Mark id))) (lowest_at (at_single conf characters layer) (map at.Mark ids))
    ∙ ap (λ r. lower_rule r (rule_in (lowest_at (at_single conf characters layer) (map at.Mark ids)))) (in_place (at.Mark id) (at_single conf characters layer (at.Mark id)))
    ∙ ap (lower_rule (option_and_then (mark_rule conf characters layer) (mark_at layer id))) (lowest_marks conf characters layer ids)

lowest_kept : (conf : Configuration) (characters : ℕ) (layer : Annotations) (keep : AnnId → Bool) (ids : List AnnId)
    → ((id : AnnId) → keep id ≡ false → option_and_then (mark_rule conf characters layer) (mark_at layer id) ≡ None)
    → lowest_rule conf characters layer ids ≡ lowest_rule conf characters layer (filter keep ids)
lowest_kept conf characters layer keep [] none = refl
lowest_kept conf characters layer keep (id ∷ ids) none = split (keep id) refl (lowest_kept conf characters layer keep ids none)
  where
    split : (b : Bool) → keep id ≡ b → lowest_rule conf characters layer ids ≡ lowest_rule conf characters layer (filter keep ids) → lowest_rule conf characters layer (id ∷ ids) ≡ lowest_rule conf characters layer (cond b (id ∷ filter keep ids) (filter keep ids))
    split true is later = ap (lower_rule (option_and_then (mark_rule conf characters layer) (mark_at layer id))) later
    split false is later = ap (λ r. lower_rule r (lowest_rule conf characters layer ids)) (none id is) ∙ later

lowest_of_classes : (conf : Configuration) (layer : Annotations) (id : AnnId) (index : ℕ) (classes : List Class) → AllByRecursion (λ class. has_it id class ≡ false → class_rule conf layer class ≡ None) classes
    → rule_in (lowest_from index (class_rule conf layer) classes) ≡ lowest_class_rule conf layer id classes
lowest_of_classes conf layer id index [] all = refl
lowest_of_classes conf layer id index (class ∷ classes) all =
    lower_in (flaw_at (at.Class index) (class_rule conf layer class)) (lowest_from (index + 1) (class_rule conf layer) classes)
    ∙ ap (λ r. lower_rule r (rule_in (lowest_from (index + 1) (class_rule conf layer) classes))) (in_place (at.Class index) (class_rule conf layer class) ∙ near (has_it id class) refl)
    ∙ ap (lower_rule (class_near conf layer id class)) (lowest_of_classes conf layer id (index + 1) classes all.1)
  where
    near : (b : Bool) → has_it id class ≡ b → class_rule conf layer class ≡ (if has_it id class then class_rule conf layer class else None)
    near true is = sym (ap (λ b. if b then class_rule conf layer class else None) is)
    near false is = all.0 is ∙ sym (ap (λ b. if b then class_rule conf layer class else None) is)

pub each_class : (P : Class → Type 0) (classes : List Class) → ((index : ℕ) (class : Class) → slice_get classes index ≡ Some class → P class) → AllByRecursion P classes
each_class P [] h = tt
each_class P (class ∷ classes) h = (h zero class refl, each_class P classes (λ index c e. h (suc index) c e))

-- the first of these rules is broken by what is near
pub single_is_near : (conf : Configuration) (characters : ℕ) (a b : Annotations) (id : AnnId) → IsWellFormed conf characters b → AlikeBut a b id
    → rule_in (first_rule (single_rules conf characters a) (places a)) ≡ single_near conf characters a id
unfolding single_near
single_is_near conf characters a b id kept but =
    ap rule_in (sym (single_walk conf characters a) ∙ lowest-append (at_single conf characters a) (map at.Mark (ids_of a)) (class_places a))
    ∙ lower_in (lowest_at (at_single conf characters a) (map at.Mark (ids_of a))) (lowest_at (at_single conf characters a) (class_places a))
    ∙ ap (λ r. lower_rule r (rule_in (lowest_at (at_single conf characters a) (class_places a))))
    (lowest_marks conf characters a (ids_of a) ∙ lowest_kept conf characters a (is_near a id) (ids_of a) (λ other far. far_mark conf characters a b id other kept but far))
    ∙ ap (lower_rule (lowest_rule conf characters a (near_ids a id)))
    (ap rule_in (lowest_classes (at_single conf characters a) (class_rule conf a) 0 a.classes (λ k j j_is. ap (λ i. option_and_then (class_rule conf a) (slice_get a.classes i)) (let same : j ≡ k = omega arith in same)))
    ∙ lowest_of_classes conf a id 0 a.classes (each_class (λ class. has_it id class ≡ false → class_rule conf a class ≡ None) a.classes (λ index class is far. far_class conf characters a b id index class kept but is far)))

-- where nothing near breaks one of these rules, nothing does
pub none_near : (conf : Configuration) (characters : ℕ) (a b : Annotations) (id : AnnId) → IsWellFormed conf characters b → AlikeBut a b id → None ≡ single_near conf characters a id
    → None ≡ first_rule (single_rules conf characters a) (places a)
none_near conf characters a b id kept but none =
    sym (unmapped (λ (found : Flaw). found.rule) (first_rule (single_rules conf characters a) (places a)) (single_is_near conf characters a b id kept but ∙ sym none))
