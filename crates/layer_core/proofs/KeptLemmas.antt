-- What stands as before and names what stands as before breaks no rule that it did not break.
use Rattle.std.proofs.Common.{◌≡◌, ℕ, Bool, false, ◌||◌, map, length, slice_get, Option, Some, None, option_map, option_and_then, nat_lt, refl, sym, ◌∙◌, ap}
use Rattle.std.specs.List.{AllByRecursion}
use Rattle.mark_base.specs.declared.ann_id.AnnId.{AnnId}
use Rattle.conf_model.specs.Configurations.{Configuration}
use Rattle.layer_model.specs.declared.mark.Mark.{Mark}
use Rattle.layer_model.specs.declared.class.Class.{Class}
use Rattle.layer_model.specs.declared.rule.Rule.{Rule}
use Rattle.layer_model.specs.declared.rule.Rule.TheVariants.{EquivMembers, SameSpan, SameEvent, SameRelation, AttributeThere, OverlapRefused}
use Rattle.layer_model.specs.declared.flaw.FlawPlace.TheVariants as at
use Rattle.layer_model.specs.Annotations.{Annotations}
use Rattle.layer_model.specs.Layers.{mark_at}
use Rattle.layer_rules.specs.FlawPlaces.{by_place}
use Rattle.layer_rules.specs.MarkRules.{argument_type, first_missing, first_unwanted, member, named_by, wanted_by, where_so, unknown_type, unknown_class, not_for_use, class_not_for_use, bad_fragments, out_of_text, span_too_long, unknown_role, too_many, unknown_value}
use Rattle.layer_rules.specs.LayerRules.{equiv_members, layer_full, lower_pair, refused_overlap, same_attributes, same_events, same_relations, same_spans, too_deep, bad_text, classes_full, same_span, same_event, same_relation, attribute_there, overlap_refused}
use Rattle.layer_rules.specs.WellFormed.{IsWellFormed, in_order, no_class}
use Rattle.layer_core.specs.Touched.{makes_pair}
use Rattle.layer_core.proofs.ElsewhereLemmas.{unmapped}
use Rattle.layer_core.proofs.AlikeLemmas.{StandAlike, missing_same, wanted_same, admitted_same, each_false, bad_members_same, members_same}

-- ---- what stands as before and names what stands as before

-- what stands under an ID stood there before, names what stands as before, begins the same chain, makes no pair that it did not make, and is not one too many
pub record Stays (conf : Configuration) (a b : Annotations) (id : AnnId) (mark : Mark) : Type 0 where
  pub stood : mark_at b id ≡ Some mark
  pub named : StandAlike a b (named_by mark)
  pub deep : too_deep a id mark ≡ too_deep b id mark
  pub unpaired : (pairs : Mark → Mark → Bool) → ((lower : Mark) → makes_pair conf mark lower ≡ false → pairs mark lower ≡ false) → lower_pair pairs b id mark ≡ None → lower_pair pairs a id mark ≡ None
  pub room : layer_full a id mark ≡ None

-- what stands under an ID breaks no rule where it broke none before
at_mark : (f g : AnnId → Mark → Option Rule) (p q : ℕ → Class → Option Rule) (a b : Annotations) (id : AnnId) → ((mark : Mark) → mark_at a id ≡ Some mark → mark_at b id ≡ Some mark)
    → ((mark : Mark) → mark_at a id ≡ Some mark → g id mark ≡ None → f id mark ≡ None) → by_place g q b (at.Mark id) ≡ None → by_place f p a (at.Mark id) ≡ None
at_mark f g p q a b id stood use_ none = split (mark_at a id) refl
  where
    split : (o : Option Mark) → mark_at a id ≡ o → option_and_then (f id) o ≡ None
    split None is = refl
    split (Some mark) is = use_ mark is (sym (ap (option_and_then (g id)) (stood mark is)) ∙ none)

pub mark_kept : (conf : Configuration) (characters : ℕ) (a b : Annotations) (id : AnnId) → ((mark : Mark) → mark_at a id ≡ Some mark → Stays conf a b id mark) → IsWellFormed conf characters b
    → AllByRecursion (λ told. told (at.Mark id) ≡ None) (in_order conf characters a)
mark_kept conf characters a b id stays kept = (
  ruled (λ i. unknown_type conf) (λ i. unknown_type conf) (λ i. unknown_class conf) (λ i. unknown_class conf) (λ mark is e. e) (kept.types (at.Mark id)),
  (
    ruled (λ i. not_for_use conf) (λ i. not_for_use conf) (λ i. class_not_for_use conf) (λ i. class_not_for_use conf) (λ mark is e. e) (kept.for_use (at.Mark id)),
    (
      ruled (λ i. bad_fragments) (λ i. bad_fragments) no_class no_class (λ mark is e. e) (kept.fragments (at.Mark id)),
      (
        ruled (λ i. out_of_text characters) (λ i. out_of_text characters) no_class no_class (λ mark is e. e) (kept.in_text (at.Mark id)),
        (
          ruled (λ i. span_too_long) (λ i. span_too_long) no_class no_class (λ mark is e. e) (kept.short (at.Mark id)),
          (
            ruled (λ i m. first_missing a (named_by m)) (λ i m. first_missing b (named_by m)) (λ i c. first_missing a c.members) (λ i c. first_missing b c.members)
                (λ mark is e. missing_same a b (named_by mark) (stays mark is).named ∙ e) (kept.there (at.Mark id)),
            (
              ruled (λ i m. first_unwanted (wanted_by conf a m)) (λ i m. first_unwanted (wanted_by conf b m)) (λ i c. first_unwanted (map (member conf a) c.members)) (λ i c. first_unwanted (map (member conf b) c.members))
                  (λ mark is e. ap first_unwanted (wanted_same conf a b mark (stays mark is).named) ∙ e) (kept.fitting (at.Mark id)),
              (
                ruled (λ i. unknown_role conf) (λ i. unknown_role conf) no_class no_class (λ mark is e. e) (kept.roles (at.Mark id)),
                (
                  ruled (λ i. argument_type conf a) (λ i. argument_type conf b) no_class no_class (λ mark is e. admitted_same conf a b mark (stays mark is).named ∙ e) (kept.admitted (at.Mark id)),
                  (
                    ruled (λ i. too_many conf) (λ i. too_many conf) no_class no_class (λ mark is e. e) (kept.not_too_many (at.Mark id)),
                    (
                      ruled (λ i. unknown_value conf) (λ i. unknown_value conf) no_class no_class (λ mark is e. e) (kept.values (at.Mark id)),
                      (
                        ruled (too_deep a) (too_deep b) no_class no_class (λ mark is e. (stays mark is).deep ∙ e) (kept.shallow (at.Mark id)),
                        (
                          ruled (same_span a) (same_span b) no_class no_class (λ mark is e. paired same_spans SameSpan mark is (λ lower n. (each_false conf mark lower n).0) e) (kept.spans_differ (at.Mark id)),
                          (
                            ruled (same_event a) (same_event b) no_class no_class (λ mark is e. paired same_events SameEvent mark is (λ lower n. (each_false conf mark lower n).1.0) e) (kept.events_differ (at.Mark id)),
                            (
                              ruled (same_relation a) (same_relation b) no_class no_class (λ mark is e. paired same_relations SameRelation mark is (λ lower n. (each_false conf mark lower n).1.1.0) e) (kept.relations_differ (at.Mark id)),
                              (
                                ruled (attribute_there a) (attribute_there b) no_class no_class (λ mark is e. paired same_attributes AttributeThere mark is (λ lower n. (each_false conf mark lower n).1.1.1.0) e) (kept.attributes_differ (at.Mark id)),
                                (
                                  ruled (λ i m. None) (λ i m. None) (λ i. equiv_members conf a) (λ i. equiv_members conf b) (λ mark is e. e) (kept.members (at.Mark id)),
                                  (
                                    ruled (overlap_refused conf a) (overlap_refused conf b) no_class no_class (λ mark is e. paired (refused_overlap conf) OverlapRefused mark is (λ lower n. (each_false conf mark lower n).1.1.1.1) e) (kept.overlaps (at.Mark id)),
                                    (
                                      ruled (λ i. bad_text) (λ i. bad_text) no_class no_class (λ mark is e. e) (kept.texts (at.Mark id)),
                                      (ruled (layer_full a) (layer_full b) classes_full classes_full (λ mark is e. (stays mark is).room) (kept.room (at.Mark id)), tt),
                                    ),
                                  ),
                                ),
                              ),
                            ),
                          ),
                        ),
                      ),
                    ),
                  ),
                ),
              ),
            ),
          ),
        ),
      ),
    ),
  ),
)
  where
    ruled : (f g : AnnId → Mark → Option Rule) (p q : ℕ → Class → Option Rule) → ((mark : Mark) → mark_at a id ≡ Some mark → g id mark ≡ None → f id mark ≡ None) → by_place g q b (at.Mark id) ≡ None → by_place f p a (at.Mark id) ≡ None
    ruled f g p q use_ none = at_mark f g p q a b id (λ mark is. (stays mark is).stood) use_ none

    paired : (pairs : Mark → Mark → Bool) (rule : AnnId → Rule) (mark : Mark) → mark_at a id ≡ Some mark → ((lower : Mark) → makes_pair conf mark lower ≡ false → pairs mark lower ≡ false)
        → option_map rule (lower_pair pairs b id mark) ≡ None → option_map rule (lower_pair pairs a id mark) ≡ None
    paired pairs rule mark is each e = ap (option_map rule) ((stays mark is).unpaired pairs each (unmapped rule (lower_pair pairs b id mark) e))

-- a class breaks no rule but perhaps the one on how many there are
pub record IsGoodClass (conf : Configuration) (layer : Annotations) (class : Class) : Type 0 where
  pub known : unknown_class conf class ≡ None
  pub for_use : class_not_for_use conf class ≡ None
  pub there : first_missing layer class.members ≡ None
  pub fitting : first_unwanted (map (member conf layer) class.members) ≡ None
  pub equal : equiv_members conf layer class ≡ None

-- each class of a well-formed layer is good
pub good_class : (conf : Configuration) (characters : ℕ) (layer : Annotations) (index : ℕ) (class : Class) → IsWellFormed conf characters layer → slice_get layer.classes index ≡ Some class → IsGoodClass conf layer class
good_class conf characters layer index class kept is =
    record {
      known = told (λ i. unknown_class conf) (kept.types (at.Class index));
      for_use = told (λ i. class_not_for_use conf) (kept.for_use (at.Class index));
      there = told (λ i c. first_missing layer c.members) (kept.there (at.Class index));
      fitting = told (λ i c. first_unwanted (map (member conf layer) c.members)) (kept.fitting (at.Class index));
      equal = told (λ i. equiv_members conf layer) (kept.members (at.Class index));
    }
  where
    told : (p : ℕ → Class → Option Rule) → option_and_then (p index) (slice_get layer.classes index) ≡ None → p index class ≡ None
    told p e = sym (ap (option_and_then (p index)) is) ∙ e

-- a class whose members stand as before is as good as before
pub good_alike : (conf : Configuration) (a b : Annotations) (class : Class) → StandAlike a b class.members → IsGoodClass conf b class → IsGoodClass conf a class
good_alike conf a b class all good =
    record {
      known = good.known;
      for_use = good.for_use;
      there = missing_same a b class.members all ∙ good.there;
      fitting = ap first_unwanted (members_same conf a b class.members all) ∙ good.fitting;
      equal = ap (λ bad. where_so (nat_lt (length class.members) 2 || bad) EquivMembers) (bad_members_same conf a b class.kind.n class.members all) ∙ good.equal;
    }

at_class : (f : AnnId → Mark → Option Rule) (p : ℕ → Class → Option Rule) (layer : Annotations) (index : ℕ) → ((class : Class) → slice_get layer.classes index ≡ Some class → p index class ≡ None)
    → by_place f p layer (at.Class index) ≡ None
at_class f p layer index use_ = split (slice_get layer.classes index) refl
  where
    split : (o : Option Class) → slice_get layer.classes index ≡ o → option_and_then (p index) o ≡ None
    split None is = refl
    split (Some class) is = use_ class is

-- a good class that is not one too many breaks no rule
pub class_kept : (conf : Configuration) (characters : ℕ) (layer : Annotations) (index : ℕ)
    → ((class : Class) → slice_get layer.classes index ≡ Some class → IsGoodClass conf layer class) → ((class : Class) → slice_get layer.classes index ≡ Some class → classes_full index class ≡ None)
    → AllByRecursion (λ told. told (at.Class index) ≡ None) (in_order conf characters layer)
class_kept conf characters layer index good few = (
  at_class (λ i. unknown_type conf) (λ i. unknown_class conf) layer index (λ class is. (good class is).known),
  (
    at_class (λ i. not_for_use conf) (λ i. class_not_for_use conf) layer index (λ class is. (good class is).for_use),
    (
      none (λ i. bad_fragments),
      (
        none (λ i. out_of_text characters),
        (
          none (λ i. span_too_long),
          (
            at_class (λ i m. first_missing layer (named_by m)) (λ i c. first_missing layer c.members) layer index (λ class is. (good class is).there),
            (
              at_class (λ i m. first_unwanted (wanted_by conf layer m)) (λ i c. first_unwanted (map (member conf layer) c.members)) layer index (λ class is. (good class is).fitting),
              (
                none (λ i. unknown_role conf),
                (
                  none (λ i. argument_type conf layer),
                  (
                    none (λ i. too_many conf),
                    (
                      none (λ i. unknown_value conf),
                      (
                        none (too_deep layer),
                        (
                          none (same_span layer),
                          (
                            none (same_event layer),
                            (
                              none (same_relation layer),
                              (
                                none (attribute_there layer),
                                (
                                  at_class (λ i m. None) (λ i. equiv_members conf layer) layer index (λ class is. (good class is).equal),
                                  (
                                    none (overlap_refused conf layer),
                                    (
                                      none (λ i. bad_text),
                                      (at_class (layer_full layer) classes_full layer index few, tt),
                                    ),
                                  ),
                                ),
                              ),
                            ),
                          ),
                        ),
                      ),
                    ),
                  ),
                ),
              ),
            ),
          ),
        ),
      ),
    ),
  ),
)
  where
    none : (f : AnnId → Mark → Option Rule) → by_place f no_class layer (at.Class index) ≡ None
    none f = at_class f no_class layer index (λ class is. refl)
