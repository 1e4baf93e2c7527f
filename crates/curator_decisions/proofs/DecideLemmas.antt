-- The first fault of a decision, by places.
use Rattle.std.proofs.Common.{◌≡◌, ◌<◌, ℕ, Bool, true, false, cond, get_or, length, is_some, List, Option, Some, None, refl, sym, ap, ◌∙◌, option_map}
use Rattle.std.specs.List.{list_all}
use Rattle.std.specs.BTreeMap.{BTreeMap}
use Rattle.std.specs.Option.{option_map_or, option_or}
use Rattle.conf_model.specs.Configurations.{Configuration}
use Rattle.layer_model.specs.Annotations.{Annotations}
use Rattle.unanimous_merge.specs.declared.entry.Entry.{Entry}
use Rattle.unanimous_merge.specs.declared.item.ItemId.{ItemId}
use Rattle.unanimous_merge.specs.declared.merged.Merged.{Merged}
use Rattle.unanimous_merge.specs.Items.{Held}
use Rattle.unanimous_merge.specs.Merges.{IsMerged}
use Rattle.unanimous_merge.specs.Readings.{readings}
use Rattle.curator_decisions.specs.declared.decision_fault.DecisionFault.{DecisionFault}
use Rattle.curator_decisions.specs.declared.decision_fault.DecisionFault.TheVariants as no
use Rattle.curator_decisions.specs.declared.verdict.Verdict.{Verdict}
use Rattle.curator_decisions.specs.Deciding.{IsFirstFault}
use Rattle.curator_decisions.specs.DecisionFaults.{changed_fault, decide_fault, decision_fault, layer_fault, missing, needed, undecide_fault, undecided_fault, verdict_fault}
use Rattle.curator_decisions.specs.Decisions.{Decided, is_in, verdict_on, with_verdict, without_verdict}
use Rattle.curator_decisions.specs.Naming.{entry_as, is_needed_at, lacked_at, named_at}
use Rattle.curator_decisions.specs.Placing.{AreNames, is_in_at}
use Rattle.curator_decisions.proofs.NamingLemmas.{all_held, flags, found_good, held, held_is, in_at, missing_is}

pub told : (first : Option DecisionFault) (fault : DecisionFault) → first ≡ Some fault → IsFirstFault first fault
told first no.NoItem e = e
told first no.AlreadyIn e = e
told first no.NotIn e = e
told first no.NotDecided e = e
told first (no.NeedsItem item) e = e
told first (no.Broken rule) e = e
told first no.Memory e = tt

module _ (conf : Configuration) (n : ℕ) (snapshot : List (List ℕ × Annotations)) (merged : Merged) (m : IsMerged merged snapshot) (decided : Decided) (item : ItemId) where
  abbrev changed : Decided → Held → Option DecisionFault
  changed after held = changed_fault conf n (readings snapshot) after held

  pub decide_none : (verdict : Verdict) → None ≡ entry_as merged.firsts.items item → decide_fault conf n (readings snapshot) decided item verdict ≡ Some no.NoItem
  decide_none verdict e =
      ap (λ o. option_map_or (λ held. option_or (verdict_fault (is_in (readings snapshot) decided held) verdict) (changed (with_verdict decided item verdict) held)) o (Some no.NoItem)) (held_is snapshot merged m item ∙ ap (option_map (held snapshot merged m)) (sym e))

  pub decide_some : (verdict : Verdict) (e : Entry) → Some e ≡ entry_as merged.firsts.items item → (here : Bool) → here ≡ is_in_at (flags snapshot merged m) decided e
      → decide_fault conf n (readings snapshot) decided item verdict ≡ option_or (verdict_fault here verdict) (changed (with_verdict decided item verdict) (held snapshot merged m e))
  decide_some verdict e is here at =
      ap (λ o. option_map_or (λ held. option_or (verdict_fault (is_in (readings snapshot) decided held) verdict) (changed (with_verdict decided item verdict) held)) o (Some no.NoItem)) (held_is snapshot merged m item ∙ ap (option_map (held snapshot merged m)) (sym is))
      ∙ ap (λ b. option_or (verdict_fault b verdict) (changed (with_verdict decided item verdict) (held snapshot merged m e))) (in_at snapshot merged m decided e (found_good snapshot merged m item e (sym is)) ∙ sym at)

  pub undecide_none : None ≡ entry_as merged.firsts.items item → undecide_fault conf n (readings snapshot) decided item ≡ Some no.NoItem
  undecide_none e =
      ap (λ o. option_map_or (λ held. option_or (undecided_fault (verdict_on item decided)) (changed (without_verdict decided item) held)) o (Some no.NoItem)) (held_is snapshot merged m item ∙ ap (option_map (held snapshot merged m)) (sym e))

  pub undecide_some : (e : Entry) → Some e ≡ entry_as merged.firsts.items item
      → undecide_fault conf n (readings snapshot) decided item ≡ option_or (undecided_fault (verdict_on item decided)) (changed (without_verdict decided item) (held snapshot merged m e))
  undecide_some e is =
      ap (λ o. option_map_or (λ held. option_or (undecided_fault (verdict_on item decided)) (changed (without_verdict decided item) held)) o (Some no.NoItem)) (held_is snapshot merged m item ∙ ap (option_map (held snapshot merged m)) (sym is))

module _ (conf : Configuration) (n : ℕ) (snapshot : List (List ℕ × Annotations)) (merged : Merged) (m : IsMerged merged snapshot) (pairs : Decided) where
  abbrev rest : Option DecisionFault
  rest = option_or (needed (missing (readings snapshot) pairs)) (layer_fault conf n (readings snapshot) pairs)

  of_items : (b : Bool) → list_all (λ one. is_some (entry_as merged.firsts.items one.0)) pairs ≡ b → decision_fault conf n (readings snapshot) pairs ≡ option_or (cond b None (Some no.NoItem)) rest
  of_items b e = ap (λ t. option_or (cond t None (Some no.NoItem)) rest) (all_held snapshot merged m pairs ∙ e)

  pub of_none : list_all (λ one. is_some (entry_as merged.firsts.items one.0)) pairs ≡ false → decision_fault conf n (readings snapshot) pairs ≡ Some no.NoItem
  of_none e = of_items false e

  pub of_some : list_all (λ one. is_some (entry_as merged.firsts.items one.0)) pairs ≡ true → (all : List (BTreeMap ℕ ℕ)) → AreNames {T = ℕ} (λ at. at) merged.rows.items all → (needs : List Bool)
      → ((q : ℕ) → q < length merged.table → get_or needs q false ≡ is_needed_at (named_at snapshot all) (flags snapshot merged m) pairs merged.firsts.items q) → (found : Option Entry) → found ≡ lacked_at needs (flags snapshot merged m) pairs merged.firsts.items
      → decision_fault conf n (readings snapshot) pairs ≡ option_or (needed (option_map (held snapshot merged m) found)) (layer_fault conf n (readings snapshot) pairs)
  of_some e all places needs flagged found is =
      of_items true e ∙ ap (λ o. option_or (needed o) (layer_fault conf n (readings snapshot) pairs)) (missing_is snapshot merged m all places pairs needs flagged ∙ ap (option_map (held snapshot merged m)) (sym is))

pub undecided_free : (o : Option Verdict) → is_some o ≡ false → undecided_fault o ≡ Some no.NotDecided
undecided_free None e = refl
undecided_free (Some verdict) e = cc

pub undecided_taken : (o : Option Verdict) → is_some o ≡ true → undecided_fault o ≡ None
undecided_taken None e = cc
undecided_taken (Some verdict) e = refl
