-- Where members of a well-formed layer are joined, only the class that they make can break a rule, or one class too many.
use Rattle.std.proofs.Common.{◌≡◌, ℕ, ◌+◌, ◌<◌, ◌≤◌, ◌||◌, suc, Bool, true, false, not, cond, nat_lt, List, [], ◌∷◌, map, length, Option, Some, None, refl, sym, ◌∙◌, ap, arith}
use Rattle.std.proofs.lemmas.Bool.Decides.{nat_tests}
use Rattle.std.specs.Option.{option_or}
use Rattle.std.specs.List.{AllByRecursion}
use Rattle.mark_base.specs.declared.ann_id.AnnId.{AnnId}
use Rattle.mark_base.specs.declared.ann_id.Kind.TheVariants as letter
use Rattle.mark_base.specs.declared.table_places.RelId.{RelId}
use Rattle.conf_model.specs.Configurations.{Configuration}
use Rattle.layer_model.specs.declared.mark.Mark.{Mark}
use Rattle.layer_model.specs.declared.class.Class.{Class}
use Rattle.layer_model.specs.declared.rule.Rule.{Rule}
use Rattle.layer_model.specs.declared.rule.Rule.TheVariants.{EquivMembers, LayerFull}
use Rattle.layer_model.specs.declared.flaw.Flaw.{Flaw}
use Rattle.layer_model.specs.declared.flaw.FlawPlace.{FlawPlace}
use Rattle.layer_model.specs.declared.flaw.FlawPlace.TheVariants as at
use Rattle.layer_model.specs.Annotations.{Annotations}
use Rattle.layer_model.specs.Classes.{apart, comes_before, insert_class, joined, joined_class, shares}
use Rattle.layer_model.specs.Layers.{mark_at, with_classes}
use Rattle.layer_model.specs.LayerIds.{ids_of}
use Rattle.layer_model.proofs.ClassOrder.{All-filter}
use Rattle.layer_rules.specs.FlawPlaces.{by_place, first_place, first_rule, places}
use Rattle.layer_rules.specs.LowestFlaw.{first_from, flaw_at}
use Rattle.layer_rules.specs.MarkRules.{argument_type, bad_fragments, class_not_for_use, first_missing, first_unwanted, member, named_by, not_for_use, out_of_text, span_too_long, too_many, unknown_class, unknown_role, unknown_type, unknown_value, wanted_by, where_so}
use Rattle.layer_rules.specs.LayerRules.{attribute_there, bad_text, classes_full, equiv_members, layer_full, overlap_refused, same_event, same_relation, same_span, too_deep}
use Rattle.layer_rules.specs.WellFormed.{IsWellFormed, in_order, least_flaw, no_class}
use Rattle.layer_rules.proofs.FullLemmas.{few_classes as few_of_classes, many_classes}
use Rattle.layer_rules.proofs.PassLemmas.{classes_first, classes_none}
use Rattle.layer_rules.proofs.PlaceLemmas.{class_places, first-append}
use Rattle.layer_core.specs.Joined.{alone_rule, joined_flaw, place_among, too_many_classes}
use Rattle.layer_core.proofs.ElsewhereLemmas.{all_of, along}
use Rattle.layer_core.proofs.AlikeLemmas.{StandAlike, bad_members_same, members_same, missing_same}
use Rattle.layer_core.proofs.KeptLemmas.{IsGoodClass, mark_kept}
use Rattle.layer_core.proofs.PartFlawLemmas.{alike_with, good_classes, same_marks, stays_with}

-- ---- a class among others that break no rule

or_none : {X : Type 0} (o : Option X) → option_or o None ≡ o
or_none None = refl
or_none (Some x) = refl

none_from : (q : Class → Option Rule) (i : ℕ) (classes : List Class) → AllByRecursion (λ class. q class ≡ None) classes → first_from i (λ _. q) classes ≡ None
none_from q i [] all = refl
none_from q i (x ∷ xs) all = ap (λ o. option_or (flaw_at (at.Class i) o) (first_from (i + 1) (λ _. q) xs)) all.0 ∙ none_from q (i + 1) xs all.1

inserted_flaw : (q : Class → Option Rule) (class : Class) (others : List Class) (i k : ℕ) → k ≡ i + place_among class others → AllByRecursion (λ other. q other ≡ None) others
    → first_from i (λ _. q) (insert_class class others) ≡ flaw_at (at.Class k) (q class)
inserted_flaw q class [] i k is all = or_none (flaw_at (at.Class i) (q class)) ∙ ap (λ j. flaw_at (at.Class j) (q class)) (let same : i ≡ k = omega arith in same)
inserted_flaw q class (x ∷ xs) i k is all =
    elim (comes_before class x) as (λ b. k ≡ i + cond b 0 (suc (place_among class xs)) → first_from i (λ _. q) (cond b (class ∷ x ∷ xs) (x ∷ insert_class class xs)) ≡ flaw_at (at.Class k) (q class)) [
      | true ↦ λ here.
          ap (option_or (flaw_at (at.Class i) (q class))) (none_from q (i + 1) (x ∷ xs) all) ∙ or_none (flaw_at (at.Class i) (q class))
          ∙ ap (λ j. flaw_at (at.Class j) (q class)) (let same : i ≡ k = omega arith in same)
      | false ↦ λ later.
          ap (λ o. option_or (flaw_at (at.Class i) o) (first_from (i + 1) (λ _. q) (insert_class class xs))) all.0
          ∙ inserted_flaw q class xs (i + 1) k (omega arith) all.1
    ] is

-- ---- the flaws of the rules, one by one

none_of_marks : (told : FlawPlace → Option Rule) (ids : List AnnId) → ((id : AnnId) → told (at.Mark id) ≡ None) → first_place told (map at.Mark ids) ≡ None
none_of_marks told [] none = refl
none_of_marks told (id ∷ ids) none = ap (λ o. option_or (flaw_at (at.Mark id) o) (first_place told (map at.Mark ids))) (none id) ∙ none_of_marks told ids none

-- a rule that no annotation breaks is broken first by a class
among_classes : (told : FlawPlace → Option Rule) (layer : Annotations) → ((id : AnnId) → told (at.Mark id) ≡ None) → first_place told (places layer) ≡ first_place told (class_places layer)
among_classes told layer none =
    first-append told (map at.Mark (ids_of layer)) (class_places layer) ∙ ap (λ o. option_or o (first_place told (class_places layer))) (none_of_marks told (ids_of layer) none)

-- the first flaw of some
abbrev pub first_flaw : List (Option Flaw) → Option Flaw
first_flaw [] = None
first_flaw (flaw ∷ flaws) = option_or flaw (first_flaw flaws)

-- rules with the flaw that each tells first
abbrev pub AllTell : List (FlawPlace → Option Rule) → List (Option Flaw) → List FlawPlace → Type 0
AllTell [] flaws ps = first_flaw flaws ≡ None
AllTell (told ∷ tests) [] ps = (first_place told ps ≡ None) × AllTell tests [] ps
AllTell (told ∷ tests) (flaw ∷ flaws) ps = (first_place told ps ≡ flaw) × AllTell tests flaws ps

first_told : (tests : List (FlawPlace → Option Rule)) (flaws : List (Option Flaw)) (ps : List FlawPlace) → AllTell tests flaws ps → first_rule tests ps ≡ first_flaw flaws
first_told [] flaws ps all = sym all
first_told (told ∷ tests) [] ps all = ap (λ o. option_or o (first_rule tests ps)) all.0 ∙ first_told tests [] ps all.1
first_told (told ∷ tests) (flaw ∷ flaws) ps all = ap (λ o. option_or o (first_rule tests ps)) all.0 ∙ ap (option_or flaw) (first_told tests flaws ps all.1)

full_flaw : (classes : List Class) → first_from 0 classes_full classes ≡ too_many_classes classes
full_flaw classes = split (nat_lt 10000 (length classes)) refl
  where
    split : (b : Bool) → nat_lt 10000 (length classes) ≡ b → first_from 0 classes_full classes ≡ cond b (Some (record { rule = LayerFull letter.Text; at = at.Class 10000 })) None
    split true is = many_classes 0 classes (omega arith) (let many : 10000 < length classes = grind (arith, nat_tests) in omega arith)
    split false is = few_of_classes 0 classes (let few : length classes ≤ 10000 = grind (arith, nat_tests) in omega arith)

-- ---- the law

-- what a class breaks is a flaw of the first of its rules, whichever rules stand between
five_flaws : (place : FlawPlace) (a b c d e : Option Rule) (full : Option Flaw)
    → first_flaw (flaw_at place a ∷ flaw_at place b ∷ flaw_at place c ∷ flaw_at place d ∷ flaw_at place e ∷ full ∷ []) ≡ option_or (flaw_at place (option_or a (option_or b (option_or c (option_or d (option_or e None)))))) full
five_flaws place (Some a) b c d e full = refl
five_flaws place None (Some b) c d e full = refl
five_flaws place None None (Some c) d e full = refl
five_flaws place None None None (Some d) e full = refl
five_flaws place None None None None (Some e) full = refl
five_flaws place None None None None None full = or_none full

-- a rule on each class by itself is broken by the class that is put among others, or by none
at_inserted : (f : AnnId → Mark → Option Rule) (q : Class → Option Rule) (made : Annotations) (class : Class) (others : List Class) (broken : Option Rule) → made.classes ≡ insert_class class others
    → ((id : AnnId) → by_place f (λ _. q) made (at.Mark id) ≡ None) → AllByRecursion (λ other. q other ≡ None) others → q class ≡ broken
    → first_place (by_place f (λ _. q) made) (places made) ≡ flaw_at (at.Class (place_among class others)) broken
at_inserted f q made class others broken is marks all e =
    among_classes (by_place f (λ _. q) made) made marks ∙ classes_first f (λ _. q) made ∙ ap (first_from 0 (λ _. q)) is
    ∙ inserted_flaw q class others 0 (place_among class others) (omega arith) all ∙ ap (flaw_at (at.Class (place_among class others))) e

-- a rule on annotations alone is broken by none
at_none : (f : AnnId → Mark → Option Rule) (made : Annotations) → ((id : AnnId) → by_place f no_class made (at.Mark id) ≡ None) → first_place (by_place f no_class made) (places made) ≡ None
at_none f made marks = among_classes (by_place f no_class made) made marks ∙ classes_none f made

inserted_least : (conf : Configuration) (characters : ℕ) (layer made : Annotations) (class : Class) (others : List Class) → made.classes ≡ insert_class class others
    → ((id : AnnId) → AllByRecursion (λ told. told (at.Mark id) ≡ None) (in_order conf characters made)) → AllByRecursion (IsGoodClass conf made) others → StandAlike made layer class.members
    → least_flaw conf characters made ≡ option_or (flaw_at (at.Class (place_among class others)) (alone_rule conf layer class)) (too_many_classes made.classes)
unfolding least_flaw
inserted_least conf characters layer made class others is marks good alike =
    let place : FlawPlace = at.Class (place_among class others) in
    let all_ : (q : Class → Option Rule) → ((other : Class) → IsGoodClass conf made other → q other ≡ None) → AllByRecursion (λ other. q other ≡ None) others =
    λ q each. along (IsGoodClass conf made) (λ other. q other ≡ None) others each good in
    first_told (in_order conf characters made)
    (flaw_at place (unknown_class conf class) ∷ flaw_at place (class_not_for_use conf class) ∷ None ∷ None ∷ None ∷ flaw_at place (first_missing layer class.members) ∷ flaw_at place (first_unwanted (map (member conf layer) class.members))
    ∷ None ∷ None ∷ None ∷ None ∷ None ∷ None ∷ None ∷ None ∷ None ∷ flaw_at place (equiv_members conf layer class) ∷ None ∷ None ∷ too_many_classes made.classes ∷ []) (places made) (
      at_inserted (λ i. unknown_type conf) (unknown_class conf) made class others (unknown_class conf class) is (λ id. (marks id).0) (all_ (unknown_class conf) (λ other one. one.known)) refl,
      (
        at_inserted (λ i. not_for_use conf) (class_not_for_use conf) made class others (class_not_for_use conf class) is (λ id. (marks id).1.0) (all_ (class_not_for_use conf) (λ other one. one.for_use)) refl,
        (
          at_none (λ i. bad_fragments) made (λ id. (marks id).1.1.0),
          (
            at_none (λ i. out_of_text characters) made (λ id. (marks id).1.1.1.0),
            (
              at_none (λ i. span_too_long) made (λ id. (marks id).1.1.1.1.0),
              (
                at_inserted (λ i m. first_missing made (named_by m)) (λ c. first_missing made c.members) made class others (first_missing layer class.members) is (λ id. (marks id).1.1.1.1.1.0)
                    (all_ (λ c. first_missing made c.members) (λ other one. one.there)) (missing_same made layer class.members alike),
                (
                  at_inserted (λ i m. first_unwanted (wanted_by conf made m)) (λ c. first_unwanted (map (member conf made) c.members)) made class others (first_unwanted (map (member conf layer) class.members)) is (λ id. (marks id).1.1.1.1.1.1.0)
                      (all_ (λ c. first_unwanted (map (member conf made) c.members)) (λ other one. one.fitting)) (ap first_unwanted (members_same conf made layer class.members alike)),
                  (
                    at_none (λ i. unknown_role conf) made (λ id. (marks id).1.1.1.1.1.1.1.0),
                    (
                      at_none (λ i. argument_type conf made) made (λ id. (marks id).1.1.1.1.1.1.1.1.0),
                      (
                        at_none (λ i. too_many conf) made (λ id. (marks id).1.1.1.1.1.1.1.1.1.0),
                        (
                          at_none (λ i. unknown_value conf) made (λ id. (marks id).1.1.1.1.1.1.1.1.1.1.0),
                          (
                            at_none (too_deep made) made (λ id. (marks id).1.1.1.1.1.1.1.1.1.1.1.0),
                            (
                              at_none (same_span made) made (λ id. (marks id).1.1.1.1.1.1.1.1.1.1.1.1.0),
                              (
                                at_none (same_event made) made (λ id. (marks id).1.1.1.1.1.1.1.1.1.1.1.1.1.0),
                                (
                                  at_none (same_relation made) made (λ id. (marks id).1.1.1.1.1.1.1.1.1.1.1.1.1.1.0),
                                  (
                                    at_none (attribute_there made) made (λ id. (marks id).1.1.1.1.1.1.1.1.1.1.1.1.1.1.1.0),
                                    (
                                      at_inserted (λ i m. None) (equiv_members conf made) made class others (equiv_members conf layer class) is (λ id. (marks id).1.1.1.1.1.1.1.1.1.1.1.1.1.1.1.1.0)
                                          (all_ (equiv_members conf made) (λ other one. one.equal)) (ap (λ bad. where_so (nat_lt (length class.members) 2 || bad) EquivMembers) (bad_members_same conf made layer class.kind.n class.members alike)),
                                      (
                                        at_none (overlap_refused conf made) made (λ id. (marks id).1.1.1.1.1.1.1.1.1.1.1.1.1.1.1.1.1.0),
                                        (
                                          at_none (λ i. bad_text) made (λ id. (marks id).1.1.1.1.1.1.1.1.1.1.1.1.1.1.1.1.1.1.0),
                                          (
                                            among_classes (by_place (layer_full made) classes_full made) made (λ id. (marks id).1.1.1.1.1.1.1.1.1.1.1.1.1.1.1.1.1.1.1.0) ∙ classes_first (layer_full made) classes_full made ∙ full_flaw made.classes,
                                            refl,
                                          ),
                                        ),
                                      ),
                                    ),
                                  ),
                                ),
                              ),
                            ),
                          ),
                        ),
                      ),
                    ),
                  ),
                ),
              ),
            ),
          ),
        ),
      ),
    )
    ∙ five_flaws place (unknown_class conf class) (class_not_for_use conf class) (first_missing layer class.members) (first_unwanted (map (member conf layer) class.members)) (equiv_members conf layer class) (too_many_classes made.classes)

pub joined_least : (conf : Configuration) (characters : ℕ) (layer : Annotations) (kind : RelId) (members : List AnnId) → IsWellFormed conf characters layer
    → least_flaw conf characters (with_classes layer (joined kind members layer.classes)) ≡ joined_flaw conf layer kind members
joined_least conf characters layer kind members kept =
    let classes : List Class = joined kind members layer.classes in
    let class : Class = joined_class kind members layer.classes in
    let others : List Class = apart kind.n members layer.classes in
    inserted_least conf characters layer (with_classes layer classes) class others refl
    (λ id. mark_kept conf characters (with_classes layer classes) layer id (λ mark is. stays_with conf characters layer classes id mark kept is) kept)
    (alike_with conf layer classes others (All-filter (IsGoodClass conf layer) (λ other. not (shares kind.n members other)) layer.classes (good_classes conf characters layer kept)))
    (all_of (λ id. mark_at (with_classes layer classes) id ≡ mark_at layer id) class.members (λ id. same_marks layer classes id.kind id.number))
