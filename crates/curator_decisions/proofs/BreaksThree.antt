-- What curated layers of finished layers break, and what refusals tell of it.
use Rattle.std.proofs.Common.{◌≡◌, ℕ, ◌<◌, ◌≤◌, Bool, true, false, cond, List, [], ◌∷◌, length, refl, sym, ◌∙◌, ap, subst, inl, inr, Option, Some, None, All, arith}
use Rattle.std.proofs.lemmas.Option.{same_Some}
use Rattle.std.specs.Option.{is_some, option_map, option_map_or, option_or}
use Rattle.std.specs.List.{list_all}
use Rattle.mark_base.specs.declared.ann_id.Kind.{Kind}
use Rattle.conf_model.specs.Configurations.{Configuration}
use Rattle.layer_model.specs.declared.rule.Rule.{Rule}
use Rattle.layer_model.specs.Annotations.{Annotations}
use Rattle.layer_model.specs.Coherent.{IsCoherent}
use Rattle.layer_model.specs.Layers.{IsLayer}
use Rattle.layer_rules.specs.LayerRules.{counted_with}
use Rattle.layer_rules.specs.WellFormed.{IsWellFormed, Obeys, least_flaw}
use Rattle.content_keys.specs.Nodes.{IsIn}
use Rattle.unanimous_merge.specs.Items.{Held}
use Rattle.unanimous_merge.specs.Readings.{readings}
use Rattle.unanimous_merge.proofs.ListLemmas.{all_head, all_tail}
use Rattle.curator_decisions.specs.declared.decision_fault.DecisionFault.{DecisionFault}
use Rattle.curator_decisions.specs.declared.decision_fault.DecisionFault.TheVariants.{Broken, NeedsItem, NoItem}
use Rattle.curator_decisions.specs.declared.verdict.Verdict.{Verdict}
use Rattle.curator_decisions.specs.declared.verdict.Verdict.TheVariants.{Accept, Reject}
use Rattle.curator_decisions.specs.Curated.{curated}
use Rattle.curator_decisions.specs.CuratedLaws.{AreFinished, DecidedLayersBreakThree, DecisionsBreakThree, FirstBrokenIsOfThree, IsOfThree, TakingBackBreaksThree, ThreeSuffice, VerdictsBreakThree}
use Rattle.curator_decisions.specs.DecisionFaults.{changed_fault, first_broken, lacking, layer_fault, missing, needed, undecided_fault, verdict_fault}
use Rattle.curator_decisions.specs.Decisions.{Decided, held_as, is_in, verdict_on, with_verdict, without_verdict}
use Rattle.curator_decisions.proofs.CuratedCounts.{few_counted, few_in, layer_fits}
use Rattle.curator_decisions.proofs.CuratedNames.{IsWhole}
use Rattle.curator_decisions.proofs.CuratedParts.{Row, none_some}
use Rattle.curator_decisions.proofs.CuratedRules.{KeepsOthers, breaks_three, first_is, keeps, suffice, three_told}
use Rattle.curator_decisions.proofs.DecidedSteps.{nothing_lacks}
use Rattle.curator_decisions.proofs.DecidedVerdicts.{set_others, taken_others}

-- a well-formed layer is coherent
abbrev pub Coheres : Type 0
Coheres = (conf : Configuration) (characters : ℕ) (layer : Annotations) → IsLayer layer → IsWellFormed conf characters layer → IsCoherent layer

-- a well-formed layer has no least flaw
abbrev pub Unflawed : Type 0
Unflawed = (conf : Configuration) (characters : ℕ) (layer : Annotations) → IsWellFormed conf characters layer → least_flaw conf characters layer ≡ None

pub all_in : {X : Type 0} (P : X → Type 0) (xs : List X) → All P xs → (x : X) → IsIn x xs → P x
all_in P [] h x k = absurd k
all_in P (y ∷ ys) h x k = elim k [ inl e ↦ subst P (sym e) (all_head P y ys h) | inr m ↦ all_in P ys (all_tail P y ys h) x m ]

pub keeps_others : Coheres → (conf : Configuration) (characters : ℕ) (rows : List Row) (decided : Decided) → AreFinished conf characters rows → missing (readings rows) decided ≡ None → KeepsOthers conf characters (curated (readings rows) decided)
keeps_others cohere conf characters [] decided done closed = absurd (let some : 0 < 0 = done.some in omega arith)
keeps_others cohere conf characters (row ∷ rows) decided done closed =
    let layers : (r : Row) → IsIn r (row ∷ rows) → IsLayer r.1 = all_in (λ (z : Row). IsLayer z.1) (row ∷ rows) done.layers in
    let obey : (r : Row) → IsIn r (row ∷ rows) → Obeys conf characters r.1 = all_in (λ (z : Row). Obeys conf characters z.1) (row ∷ rows) done.obey in
    let whole : (r : Row) → IsIn r (row ∷ rows) → IsWhole r = λ r k. (layers r k, cohere conf characters r.1 (layers r k) (obey r k).well_formed) in
    let counts : (r : Row) → IsIn r (row ∷ rows) → (kind : Kind) → length (counted_with r.1 kind) ≤ 10000 = λ r k. few_counted r.1 (layer_fits r.1 (layers r k)) (obey r k).well_formed.room in
    keeps row rows whole decided closed (few_in (row ∷ rows) decided done.few counts) conf characters obey

pub break_three : Coheres → DecidedLayersBreakThree
break_three cohere conf characters rows decided done closed = breaks_three conf characters (curated (readings rows) decided) (keeps_others cohere conf characters rows decided done closed)

pub first_of : Coheres → FirstBrokenIsOfThree
first_of cohere conf characters rows decided done closed = first_is conf characters (curated (readings rows) decided) (keeps_others cohere conf characters rows decided done closed)

pub three_suffice : Coheres → ThreeSuffice
three_suffice cohere conf characters rows decided done closed = suffice conf characters (curated (readings rows) decided) (keeps_others cohere conf characters rows decided done closed)

-- ---- refusals

abbrev rule_in : Rule → DecisionFault → Rule
rule_in other (Broken rule) = rule
rule_in other fault = other

abbrev is_broken : DecisionFault → Bool
is_broken (Broken rule) = true
is_broken fault = false

-- another fault is no broken rule
other_fault : {A : Type 0} (fault : DecisionFault) (rule : Rule) → is_broken fault ≡ false → Some fault ≡ Some (Broken rule) → A
other_fault fault rule isnt e = absurd (let f : false ≡ true = sym isnt ∙ ap is_broken (same_Some _ _ e) in cc)

rule_told : (o : Option Rule) (rule : Rule) → option_map Broken o ≡ Some (Broken rule) → o ≡ Some rule
rule_told None rule e = none_some e
rule_told (Some other) rule e = ap Some (ap (rule_in other) (same_Some _ _ e))

-- the layer of decisions in which nothing is missing breaks one of the three
layer_tells : Coheres → (conf : Configuration) (characters : ℕ) (rows : List Row) (decided : Decided) (rule : Rule) → AreFinished conf characters rows → missing (readings rows) decided ≡ None → layer_fault conf characters (readings rows) decided ≡ Some (Broken rule) → IsOfThree rule
layer_tells cohere conf characters rows decided rule done closed e =
    three_told conf (curated (readings rows) decided) rule (sym (first_of cohere conf characters rows decided done closed) ∙ rule_told (first_broken conf characters (curated (readings rows) decided)) rule e)

needed_tells : {A : Type 0} (o : Option Held) (later : Option DecisionFault) (rule : Rule) → option_or (needed o) later ≡ Some (Broken rule) → (o ≡ None → later ≡ Some (Broken rule) → A) → A
needed_tells None later rule e f = f refl e
needed_tells (Some held) later rule e f = other_fault (NeedsItem _) rule refl e

past_items : (b : Bool) (later : Option DecisionFault) (rule : Rule) → option_or (cond b None (Some NoItem)) later ≡ Some (Broken rule) → later ≡ Some (Broken rule)
past_items true later rule e = e
past_items false later rule e = other_fault NoItem rule refl e

pub decisions_break : Coheres → DecisionsBreakThree
decisions_break cohere conf characters rows decided rule done e =
    needed_tells (missing (readings rows) decided) (layer_fault conf characters (readings rows) decided) rule
    (past_items (list_all (λ one. is_some (held_as (readings rows) one.0)) decided) (option_or (needed (missing (readings rows) decided)) (layer_fault conf characters (readings rows) decided)) rule e)
    (λ closed later. layer_tells cohere conf characters rows decided rule done closed later)

-- a step on an item, whose fault is one of the verdict or one behind it
step_tells : (o : Option DecisionFault) (later : Option DecisionFault) (rule : Rule) → ((fault : DecisionFault) → o ≡ Some fault → is_broken fault ≡ false) → option_or o later ≡ Some (Broken rule) → later ≡ Some (Broken rule)
step_tells None later rule isnt e = e
step_tells (Some fault) later rule isnt e = other_fault fault rule (isnt fault refl) e

verdict_tells : (b : Bool) (verdict : Verdict) (fault : DecisionFault) → verdict_fault b verdict ≡ Some fault → is_broken fault ≡ false
verdict_tells true Accept fault e = sym (ap is_broken (same_Some _ _ e))
verdict_tells true Reject fault e = none_some e
verdict_tells false Accept fault e = none_some e
verdict_tells false Reject fault e = sym (ap is_broken (same_Some _ _ e))

undecided_tells : (o : Option Verdict) (fault : DecisionFault) → undecided_fault o ≡ Some fault → is_broken fault ≡ false
undecided_tells None fault e = sym (ap is_broken (same_Some _ _ e))
undecided_tells (Some verdict) fault e = none_some e

pub verdicts_break : Coheres → VerdictsBreakThree
verdicts_break cohere conf characters rows decided item verdict rule done accepted e = split (held_as (readings rows) item) refl e
  where
    split : (o : Option Held) → held_as (readings rows) item ≡ o
        → option_map_or (λ held. option_or (verdict_fault (is_in (readings rows) decided held) verdict) (changed_fault conf characters (readings rows) (with_verdict decided item verdict) held)) o (Some NoItem) ≡ Some (Broken rule) → IsOfThree rule
    split None is h = other_fault NoItem rule refl h
    split (Some held) is h =
        needed_tells (lacking (readings rows) (with_verdict decided item verdict) held) (layer_fault conf characters (readings rows) (with_verdict decided item verdict)) rule
        (step_tells (verdict_fault (is_in (readings rows) decided held) verdict) (changed_fault conf characters (readings rows) (with_verdict decided item verdict) held) rule (verdict_tells (is_in (readings rows) decided held) verdict) h)
        (λ lacks later. layer_tells cohere conf characters rows (with_verdict decided item verdict) rule done
        (nothing_lacks conf characters (readings rows) decided item accepted (with_verdict decided item verdict) (set_others decided item verdict) held is lacks) later)

pub taking_back_breaks : Coheres → TakingBackBreaksThree
taking_back_breaks cohere conf characters rows decided item rule done accepted e = split (held_as (readings rows) item) refl e
  where
    split : (o : Option Held) → held_as (readings rows) item ≡ o
        → option_map_or (λ held. option_or (undecided_fault (verdict_on item decided)) (changed_fault conf characters (readings rows) (without_verdict decided item) held)) o (Some NoItem) ≡ Some (Broken rule) → IsOfThree rule
    split None is h = other_fault NoItem rule refl h
    split (Some held) is h =
        needed_tells (lacking (readings rows) (without_verdict decided item) held) (layer_fault conf characters (readings rows) (without_verdict decided item)) rule
        (step_tells (undecided_fault (verdict_on item decided)) (changed_fault conf characters (readings rows) (without_verdict decided item) held) rule (undecided_tells (verdict_on item decided)) h)
        (λ lacks later. layer_tells cohere conf characters rows (without_verdict decided item) rule done
        (nothing_lacks conf characters (readings rows) decided item accepted (without_verdict decided item) (taken_others decided item) held is lacks) later)
