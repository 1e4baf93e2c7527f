-- Where a layer differs from a well-formed one under one ID alone, only the places that the change touches can break a rule.
use Rattle.std.proofs.Common.{◌≡◌, ℕ, Bool, true, false, ◌||◌, cond, List, [], ◌∷◌, slice_get, Option, Some, None, option_map, option_and_then, is_some, refl, sym, ◌∙◌, ap}
use Rattle.std.specs.Option.{option_or, option_map_or}
use Rattle.std.specs.List.{AllByRecursion, filter, list_any}
use Rattle.mark_base.specs.declared.ann_id.AnnId.{AnnId}
use Rattle.conf_model.specs.Configurations.{Configuration}
use Rattle.layer_model.specs.declared.class.Class.{Class}
use Rattle.layer_model.specs.declared.rule.Rule.{Rule}
use Rattle.layer_model.specs.declared.flaw.FlawPlace.{FlawPlace}
use Rattle.layer_model.specs.declared.flaw.FlawPlace.TheVariants as at
use Rattle.layer_model.specs.Annotations.{Annotations}
use Rattle.layer_model.specs.Layers.{mark_at}
use Rattle.layer_rules.specs.FlawPlaces.{first_place, first_rule, places}
use Rattle.layer_rules.specs.MarkRules.{named_by}
use Rattle.layer_rules.specs.LayerRules.{is_id, layer_full, classes_full}
use Rattle.layer_rules.specs.WellFormed.{IsWellFormed, in_order, least_flaw}
use Rattle.layer_core.specs.MadeLayers.{falls_by}
use Rattle.layer_core.specs.Backs.{DiffersUnder}
use Rattle.layer_core.specs.Touched.{is_one_too_many, pairs_with, touched, touched_flaw}
use Rattle.layer_core.proofs.ElsewhereLemmas.{first_false, last_false, along, none_any, AlikeBut, alike}
use Rattle.layer_core.proofs.AlikeLemmas.{falls_apart, names_apart, StandAlike, stand_alike, deep_same, pair_none, pairs_apart}
use Rattle.layer_core.proofs.KeptLemmas.{mark_kept, good_class, good_alike, class_kept}

-- ---- a place that the change does not touch breaks no rule

mark_unbroken : (conf : Configuration) (characters : ℕ) (a b : Annotations) (changed id : AnnId) → AlikeBut a b changed → IsWellFormed conf characters b → touched conf a changed (at.Mark id) ≡ false
    → AllByRecursion (λ told. told (at.Mark id) ≡ None) (in_order conf characters a)
mark_unbroken conf characters a b changed id but kept out =
    let falls = falls_by 16 a changed id in
    let pairs = pairs_with conf a changed id in
    let within : is_one_too_many a id ≡ false = last_false (falls || pairs) (is_one_too_many a id) out in
    let near : (falls || pairs) ≡ false = first_false (falls || pairs) (is_one_too_many a id) out in
    let far : falls_by 16 a changed id ≡ false = first_false falls pairs near in
    let apart : pairs_with conf a changed id ≡ false = last_false falls pairs near in
    mark_kept conf characters a b id (λ mark is.
    record {
      stood = sym (but.marks id (falls_apart 16 a changed id far)) ∙ is;
      named = stand_alike 15 a b changed (named_by mark) but.marks (names_apart 15 a changed id mark far is);
      deep = deep_same a b changed id mark but.marks is far;
      unpaired = λ pairs_ each none. pair_none pairs_ a b changed id mark but.marks (pairs_apart pairs_ conf a changed id mark is apart each) none;
      room = not_some (layer_full a id mark) (sym (ap (λ o. option_map_or (λ m. is_some (layer_full a id m)) o false) is) ∙ within);
    }) kept
  where
    not_some : (o : Option Rule) → is_some o ≡ false → o ≡ None
    not_some None e = refl
    not_some (Some rule) e = absurd (let f : true ≡ false = e in cc)

class_unbroken : (conf : Configuration) (characters : ℕ) (a b : Annotations) (changed : AnnId) (index : ℕ) → AlikeBut a b changed → IsWellFormed conf characters b → touched conf a changed (at.Class index) ≡ false
    → AllByRecursion (λ told. told (at.Class index) ≡ None) (in_order conf characters a)
class_unbroken conf characters a b changed index but kept out =
    class_kept conf characters a index
    (λ class is. good_alike conf a b class (names class is) (good_class conf characters b index class kept (stood class is)))
    (λ class is. sym (ap (option_and_then (classes_full index)) (stood class is)) ∙ kept.room (at.Class index))
  where
    stood : (class : Class) → slice_get a.classes index ≡ Some class → slice_get b.classes index ≡ Some class
    stood class is = sym (ap (λ cs. slice_get cs index) but.classes) ∙ is

    names : (class : Class) → slice_get a.classes index ≡ Some class → StandAlike a b class.members
    names class is =
        along (λ id. is_id changed id ≡ false) (λ id. mark_at a id ≡ mark_at b id) class.members (λ id e. but.marks id e)
        (none_any (is_id changed) class.members (sym (ap (λ o. option_map_or (λ c. list_any (is_id changed) c.members) o false) is) ∙ out))

unbroken : (conf : Configuration) (characters : ℕ) (a b : Annotations) (changed : AnnId) → AlikeBut a b changed → IsWellFormed conf characters b → (place : FlawPlace) → touched conf a changed place ≡ false
    → AllByRecursion (λ told. told place ≡ None) (in_order conf characters a)
unbroken conf characters a b changed but kept (at.Mark id) out = mark_unbroken conf characters a b changed id but kept out
unbroken conf characters a b changed but kept (at.Class index) out = class_unbroken conf characters a b changed index but kept out

-- ---- the least flaw is found among the places that the change touches

first_filter : (told : FlawPlace → Option Rule) (keep : FlawPlace → Bool) (ps : List FlawPlace) → ((p : FlawPlace) → keep p ≡ false → told p ≡ None) → first_place told ps ≡ first_place told (filter keep ps)
first_filter told keep [] none = refl
first_filter told keep (p ∷ ps) none =
    elim (keep p) as (λ b. keep p ≡ b → first_place told (p ∷ ps) ≡ first_place told (cond b (p ∷ filter keep ps) (filter keep ps))) [
      | true ↦ λ _. ap (option_or (option_map (λ rule. record { rule = rule; at = p }) (told p))) (first_filter told keep ps none)
      | false ↦ λ out. ap (λ o. option_or (option_map (λ rule. record { rule = rule; at = p }) o) (first_place told ps)) (none p out) ∙ first_filter told keep ps none
    ] refl

rules_filter : (tests : List (FlawPlace → Option Rule)) (keep : FlawPlace → Bool) (ps : List FlawPlace) → ((p : FlawPlace) → keep p ≡ false → AllByRecursion (λ told. told p ≡ None) tests)
    → first_rule tests ps ≡ first_rule tests (filter keep ps)
rules_filter [] keep ps none = refl
rules_filter (told ∷ tests) keep ps none =
    ap (λ o. option_or o (first_rule tests ps)) (first_filter told keep ps (λ p out. (none p out).0))
    ∙ ap (option_or (first_place told (filter keep ps))) (rules_filter tests keep ps (λ p out. (none p out).1))

pub least_is_touched : (conf : Configuration) (characters : ℕ) (layer earlier : Annotations) (changed : AnnId) → IsWellFormed conf characters earlier → DiffersUnder layer changed earlier
    → least_flaw conf characters layer ≡ touched_flaw conf characters layer changed
unfolding least_flaw
least_is_touched conf characters layer earlier changed kept differs =
    rules_filter (in_order conf characters layer) (touched conf layer changed) (places layer) (unbroken conf characters layer earlier changed (alike layer earlier changed differs) kept)
