-- A curated layer in which nothing is lacking breaks no rule but three.
use Rattle.std.proofs.Common.{◌≡◌, ℕ, ◌≤◌, ◌==◌, Bool, true, false, List, [], ◌∷◌, slice_get, refl, sym, ◌∙◌, ap, subst, Option, Some, None, All}
use Rattle.std.proofs.lemmas.Option.{same_Some}
use Rattle.std.specs.Option.{option_and_then, option_map, option_map_or, option_or}
use Rattle.std.specs.List.{AllByRecursion}
use Rattle.mark_base.specs.declared.ann_id.AnnId.{AnnId}
use Rattle.mark_base.specs.declared.ann_id.Kind.{Kind}
use Rattle.mark_base.specs.declared.ann_id.Kind.TheVariants as letter
use Rattle.conf_model.specs.Configurations.{Configuration}
use Rattle.layer_model.specs.declared.class.Class.{Class}
use Rattle.layer_model.specs.declared.mark.Mark.{Mark}
use Rattle.layer_model.specs.declared.flaw.Flaw.{Flaw}
use Rattle.layer_model.specs.declared.flaw.FlawPlace.{FlawPlace}
use Rattle.layer_model.specs.declared.flaw.FlawPlace.TheVariants as at
use Rattle.layer_model.specs.declared.rule.Rule.{Rule}
use Rattle.layer_model.specs.declared.rule.Rule.TheVariants.{AttributeThere, LayerFull, OverlapRefused}
use Rattle.layer_model.specs.Annotations.{Annotations}
use Rattle.layer_model.specs.Layers.{mark_at}
use Rattle.layer_rules.specs.FlawPlaces.{by_place, first_place, first_rule, places}
use Rattle.layer_rules.specs.LayerRules.{attribute_there, classes_full, counted_letter, counted_with, is_id, layer_full, lower_pair, overlap_refused, refused_overlap, same_attributes}
use Rattle.layer_rules.specs.MarkRules.{where_so}
use Rattle.layer_rules.specs.WellFormed.{IsWellFormed, Never, Obeys, at_argument_type, at_attribute_there, at_bad_fragments, at_bad_text, at_equiv_members, at_layer_full, at_no_such, at_not_for_use, at_out_of_text, at_overlap_refused, at_same_event, at_same_relation, at_same_span, at_span_too_long, at_too_deep, at_too_many, at_unknown_role, at_unknown_type, at_unknown_value, at_wrong_kind, commit_fault, in_order, least_flaw, no_class}
use Rattle.content_keys.specs.Nodes.{IsIn}
use Rattle.unanimous_merge.specs.Readings.{readings}
use Rattle.unanimous_merge.proofs.ListLemmas.{all_cons, all_head, all_none, all_tail}
use Rattle.curator_decisions.specs.Curated.{count_of_letter, curated}
use Rattle.curator_decisions.specs.CuratedLaws.{BreaksThree, IsOfThree, first_of_three, three_in_order}
use Rattle.curator_decisions.specs.DecisionFaults.{first_broken, missing}
use Rattle.curator_decisions.specs.Decisions.{Decided, items_in}
use Rattle.curator_decisions.proofs.CuratedClasses.{classes, made, made_part}
use Rattle.curator_decisions.proofs.CuratedNames.{IsWhole, Known, new}
use Rattle.curator_decisions.proofs.CuratedOwn.{arguments_carry, counts_carry, ends_carry, fragments_carry, kinds_carry, names_carry, reaches_carry, roles_carry, texts_carry, types_carry, use_carries, values_carry}
use Rattle.curator_decisions.proofs.CuratedPairs.{chains_carry, enough_carries, members_carry}
use Rattle.curator_decisions.proofs.CuratedParts.{IsPart, Row, none_some}
use Rattle.curator_decisions.proofs.CuratedTaken.{same_events_never, same_relations_never, same_spans_never, twins}

-- the rules that the layer keeps
pub record KeepsOthers (conf : Configuration) (characters : ℕ) (layer : Annotations) : Type 0 where
  pub types : Never (at_unknown_type conf layer)
  pub for_use : Never (at_not_for_use conf layer)
  pub fragments : Never (at_bad_fragments layer)
  pub in_text : Never (at_out_of_text characters layer)
  pub short : Never (at_span_too_long layer)
  pub there : Never (at_no_such layer)
  pub fitting : Never (at_wrong_kind conf layer)
  pub roles : Never (at_unknown_role conf layer)
  pub admitted : Never (at_argument_type conf layer)
  pub not_too_many : Never (at_too_many conf layer)
  pub values : Never (at_unknown_value conf layer)
  pub shallow : Never (at_too_deep layer)
  pub spans_differ : Never (at_same_span layer)
  pub events_differ : Never (at_same_event layer)
  pub relations_differ : Never (at_same_relation layer)
  pub members : Never (at_equiv_members conf layer)
  pub texts : Never (at_bad_text layer)
  pub enough : commit_fault conf layer ≡ None

module _ (first : Row) (rest : List Row) (all : (row : Row) → IsIn row (first ∷ rest) → IsWhole row) (decided : Decided) (closed : missing (readings (first ∷ rest)) decided ≡ None)
    (few : (kind : Kind) → count_of_letter kind (items_in (readings (first ∷ rest)) decided) ≤ 999999999) (conf : Configuration) (characters : ℕ) (obey : (row : Row) → IsIn row (first ∷ rest) → Obeys conf characters row.1) where
  abbrev rows : List Row
  rows = first ∷ rest

  abbrev layer : Annotations
  layer = made first rest all decided closed few

  abbrev In : Row → AnnId → Type 0
  In = Known rows all decided closed few

  abbrev called : Row → AnnId → AnnId
  called = new rows all decided closed few

  whole : (row : Row) → IsIn row rows → IsWellFormed conf characters row.1
  whole row k = (obey row k).well_formed

  is_part : IsPart rows layer In called
  is_part = made_part first rest all decided closed few

  pub keeps : KeepsOthers conf characters (curated (readings rows) decided)
  keeps = record {
    types = types_carry rows layer In called is_part conf (λ row k. (whole row k).types);
    for_use = use_carries rows layer In called is_part conf (λ row k. (whole row k).for_use);
    fragments = fragments_carry rows layer In called is_part (λ row k. (whole row k).fragments);
    in_text = ends_carry rows layer In called is_part characters (λ row k. (whole row k).in_text);
    short = reaches_carry rows layer In called is_part (λ row k. (whole row k).short);
    there = names_carry rows layer In called is_part (λ row k. (whole row k).there);
    fitting = kinds_carry rows layer In called is_part conf (λ row k. (whole row k).fitting);
    roles = roles_carry rows layer In called is_part conf (λ row k. (whole row k).roles);
    admitted = arguments_carry rows layer In called is_part conf (λ row k. (whole row k).admitted);
    not_too_many = counts_carry rows layer In called is_part conf (λ row k. (whole row k).not_too_many);
    values = values_carry rows layer In called is_part conf (λ row k. (whole row k).values);
    shallow = chains_carry rows layer In called is_part (twins rows all decided closed few (classes first rest all decided closed few)) (λ row k. (whole row k).shallow);
    spans_differ = same_spans_never rows all decided closed few (classes first rest all decided closed few);
    events_differ = same_events_never rows all decided closed few (classes first rest all decided closed few);
    relations_differ = same_relations_never rows all decided closed few (classes first rest all decided closed few);
    members = members_carry rows layer In called is_part conf (λ row k. (whole row k).members);
    texts = texts_carry rows layer In called is_part (λ row k. (whole row k).texts);
    enough = enough_carries rows layer In called is_part conf (λ row k. (obey row k).enough);
  }

-- ---- what a place tells

abbrev OnlyThree : (FlawPlace → Option Rule) → Type 0
OnlyThree broken = (place : FlawPlace) (rule : Rule) → broken place ≡ Some rule → IsOfThree rule

kept : (broken : FlawPlace → Option Rule) → Never broken → OnlyThree broken
kept broken never place rule e = none_some (sym (never place) ∙ e)

each_all : (xs : List (FlawPlace → Option Rule)) → AllByRecursion OnlyThree xs → All OnlyThree xs
each_all [] h = all_none OnlyThree
each_all (x ∷ xs) h = all_cons OnlyThree x xs h.0 (each_all xs h.1)

-- what is told of rules of which each tells one of the three
first_place_three : (broken : FlawPlace → Option Rule) → OnlyThree broken → (all : List FlawPlace) (flaw : Flaw) → first_place broken all ≡ Some flaw → IsOfThree flaw.rule
first_place_three broken only [] flaw e = none_some e
first_place_three broken only (place ∷ more) flaw e = split (first_place_three broken only more flaw) (broken place) refl e
  where
    split : (first_place broken more ≡ Some flaw → IsOfThree flaw.rule) → (o : Option Rule) → broken place ≡ o → option_or (option_map (λ rule. let f : Flaw = record { rule = rule; at = place } in f) o) (first_place broken more) ≡ Some flaw → IsOfThree flaw.rule
    split later None g h = later h
    split later (Some rule) g h =
        let same : rule ≡ flaw.rule = ap (λ (f : Flaw). f.rule) (same_Some _ _ h) in
        let P : Rule → Type 0 = IsOfThree in
        subst P same (only place rule g)

first_rule_three : (rules : List (FlawPlace → Option Rule)) (all : List FlawPlace) → AllByRecursion OnlyThree rules → (flaw : Flaw) → first_rule rules all ≡ Some flaw → IsOfThree flaw.rule
first_rule_three [] all only flaw e = none_some e
first_rule_three (broken ∷ more) all only flaw e = split (first_rule_three more all only.1 flaw) (first_place broken all) refl e
  where
    split : (first_rule more all ≡ Some flaw → IsOfThree flaw.rule) → (o : Option Flaw) → first_place broken all ≡ o → option_or o (first_rule more all) ≡ Some flaw → IsOfThree flaw.rule
    split later None g h = later h
    split later (Some first) g h = first_place_three broken only.0 all flaw (g ∙ h)

module _ (conf : Configuration) (layer : Annotations) where
  of_place : (f : AnnId → Mark → Option Rule) (g : ℕ → Class → Option Rule) → ((id : AnnId) (mark : Mark) (rule : Rule) → f id mark ≡ Some rule → IsOfThree rule) → ((index : ℕ) (class : Class) (rule : Rule) → g index class ≡ Some rule → IsOfThree rule)
      → OnlyThree (by_place f g layer)
  of_place f g marks groups (at.Mark id) rule e = split (mark_at layer id) e
    where
      split : (o : Option Mark) → option_and_then (f id) o ≡ Some rule → IsOfThree rule
      split None h = none_some h
      split (Some mark) h = marks id mark rule h
  of_place f g marks groups (at.Class index) rule e = split (slice_get layer.classes index) e
    where
      split : (o : Option Class) → option_and_then (g index) o ≡ Some rule → IsOfThree rule
      split None h = none_some h
      split (Some class) h = groups index class rule h

  of_told : {X : Type 0} (told : X → Rule) → ((x : X) → IsOfThree (told x)) → (o : Option X) (rule : Rule) → option_map told o ≡ Some rule → IsOfThree rule
  of_told told each None rule e = none_some e
  of_told told each (Some x) rule e = let P : Rule → Type 0 = IsOfThree in subst P (same_Some _ _ e) (each x)

  of_test : (b : Bool) (kind : Kind) (rule : Rule) → where_so b (LayerFull kind) ≡ Some rule → IsOfThree rule
  of_test false kind rule e = none_some e
  of_test true kind rule e = let P : Rule → Type 0 = IsOfThree in subst P (same_Some _ _ e) tt

  of_attributes : OnlyThree (at_attribute_there layer)
  of_attributes = of_place (attribute_there layer) no_class (λ id mark rule e. of_told AttributeThere (λ x. tt) (lower_pair same_attributes layer id mark) rule e) (λ index class rule e. none_some e)

  of_overlaps : OnlyThree (at_overlap_refused conf layer)
  of_overlaps = of_place (overlap_refused conf layer) no_class (λ id mark rule e. of_told OverlapRefused (λ x. tt) (lower_pair (refused_overlap conf) layer id mark) rule e) (λ index class rule e. none_some e)

  of_room : OnlyThree (at_layer_full layer)
  of_room = of_place (layer_full layer) classes_full
      (λ id mark rule e. of_test (option_map_or (is_id id) (slice_get (counted_with layer id.kind) 10000) false) (counted_letter id.kind) rule e)
      (λ index class rule e. of_test (index == 10000) letter.Text rule e)

  -- the first of the three that a layer breaks is one of them
  pub three_told : (rule : Rule) → first_of_three conf layer ≡ Some rule → IsOfThree rule
  three_told rule e = split (first_rule (three_in_order conf layer) (places layer)) refl e
    where
      split : (o : Option Flaw) → first_rule (three_in_order conf layer) (places layer) ≡ o → option_map (λ flaw. flaw.rule) o ≡ Some rule → IsOfThree rule
      split None g h = none_some h
      split (Some flaw) g h = let P : Rule → Type 0 = IsOfThree in subst P (same_Some _ _ h) (first_rule_three (three_in_order conf layer) (places layer) (of_attributes, (of_overlaps, (of_room, tt))) flaw g)

-- ---- what such a layer breaks

nothing_at : (broken : FlawPlace → Option Rule) (all : List FlawPlace) → Never broken → first_place broken all ≡ None
nothing_at broken [] never = refl
nothing_at broken (place ∷ more) never = (λ i. option_or (option_map (λ rule. let flaw : Flaw = record { rule = rule; at = place } in flaw) (never place i)) (nothing_at broken more never i))

or_nothing : {X : Type 0} (o : Option X) → option_or o None ≡ o
or_nothing None = refl
or_nothing (Some x) = refl

module _ (conf : Configuration) (characters : ℕ) (layer : Annotations) (keeps : KeepsOthers conf characters layer) where
  flaws : least_flaw conf characters layer ≡ first_rule (three_in_order conf layer) (places layer)
  unfolding least_flaw
  flaws = λ i.
      option_or (nothing_at (at_unknown_type conf layer) (places layer) keeps.types i) (
      option_or (nothing_at (at_not_for_use conf layer) (places layer) keeps.for_use i) (
      option_or (nothing_at (at_bad_fragments layer) (places layer) keeps.fragments i) (
      option_or (nothing_at (at_out_of_text characters layer) (places layer) keeps.in_text i) (
      option_or (nothing_at (at_span_too_long layer) (places layer) keeps.short i) (
      option_or (nothing_at (at_no_such layer) (places layer) keeps.there i) (
      option_or (nothing_at (at_wrong_kind conf layer) (places layer) keeps.fitting i) (
      option_or (nothing_at (at_unknown_role conf layer) (places layer) keeps.roles i) (
      option_or (nothing_at (at_argument_type conf layer) (places layer) keeps.admitted i) (
      option_or (nothing_at (at_too_many conf layer) (places layer) keeps.not_too_many i) (
      option_or (nothing_at (at_unknown_value conf layer) (places layer) keeps.values i) (
      option_or (nothing_at (at_too_deep layer) (places layer) keeps.shallow i) (
      option_or (nothing_at (at_same_span layer) (places layer) keeps.spans_differ i) (
      option_or (nothing_at (at_same_event layer) (places layer) keeps.events_differ i) (
      option_or (nothing_at (at_same_relation layer) (places layer) keeps.relations_differ i) (
      option_or (first_place (at_attribute_there layer) (places layer)) (
      option_or (nothing_at (at_equiv_members conf layer) (places layer) keeps.members i) (
      option_or (first_place (at_overlap_refused conf layer) (places layer)) (
      option_or (nothing_at (at_bad_text layer) (places layer) keeps.texts i) (
      option_or (first_place (at_layer_full layer) (places layer)) (
      None))))))))))))))))))))

  pub first_is : first_broken conf characters layer ≡ first_of_three conf layer
  first_is = (λ i. option_or (option_map (λ flaw. flaw.rule) (flaws i)) (keeps.enough i)) ∙ or_nothing (first_of_three conf layer)

  pub suffice : All Never (three_in_order conf layer) → Obeys conf characters layer
  suffice three = record {
    well_formed = record {
      types = keeps.types;
      for_use = keeps.for_use;
      fragments = keeps.fragments;
      in_text = keeps.in_text;
      short = keeps.short;
      there = keeps.there;
      fitting = keeps.fitting;
      roles = keeps.roles;
      admitted = keeps.admitted;
      not_too_many = keeps.not_too_many;
      values = keeps.values;
      shallow = keeps.shallow;
      spans_differ = keeps.spans_differ;
      events_differ = keeps.events_differ;
      relations_differ = keeps.relations_differ;
      attributes_differ = all_head Never (at_attribute_there layer) (at_overlap_refused conf layer ∷ at_layer_full layer ∷ []) three;
      members = keeps.members;
      overlaps = all_head Never (at_overlap_refused conf layer) (at_layer_full layer ∷ []) (all_tail Never (at_attribute_there layer) (at_overlap_refused conf layer ∷ at_layer_full layer ∷ []) three);
      texts = keeps.texts;
      room = all_head Never (at_layer_full layer) [] (all_tail Never (at_overlap_refused conf layer) (at_layer_full layer ∷ []) (all_tail Never (at_attribute_there layer) (at_overlap_refused conf layer ∷ at_layer_full layer ∷ []) three));
    };
    enough = keeps.enough;
  }

  pub breaks_three : BreaksThree conf characters layer
  breaks_three = record {
    places = each_all (in_order conf characters layer) (
      kept _ keeps.types,
      (
        kept _ keeps.for_use,
        (
          kept _ keeps.fragments,
          (
            kept _ keeps.in_text,
            (
              kept _ keeps.short,
              (
                kept _ keeps.there,
                (
                  kept _ keeps.fitting,
                  (
                    kept _ keeps.roles,
                    (
                      kept _ keeps.admitted,
                      (
                        kept _ keeps.not_too_many,
                        (
                          kept _ keeps.values,
                          (kept _ keeps.shallow, (kept _ keeps.spans_differ, (kept _ keeps.events_differ, (kept _ keeps.relations_differ, (of_attributes conf layer, (kept _ keeps.members, (of_overlaps conf layer, (kept _ keeps.texts, (of_room conf layer, tt))))))))),
                        ),
                      ),
                    ),
                  ),
                ),
              ),
            ),
          ),
        ),
      ),
    );
    enough = keeps.enough;
  }
