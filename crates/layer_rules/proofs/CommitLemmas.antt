-- The events of a layer in turn, and the first that has too few arguments.
use Rattle.std.proofs.Common.{◌≡◌, ℕ, List, [], ◌∷◌, refl, sym, ◌∙◌, ap, Option, Some, None}
use Rattle.std.specs.Option.{option_or, option_map, option_and_then}
use Rattle.std.specs.List.{AllByRecursion}
use Rattle.std.specs.List.Sorted.{IsStrictlySortedBy}
use Rattle.std.specs.Map.{keys_of}
use Rattle.std.specs.Ordering.{nat_cmp}
use Rattle.std.specs.FinMap as finite
use Rattle.mark_base.specs.declared.ann_id.Kind.TheVariants as letter
use Rattle.conf_model.specs.Configurations.{Configuration}
use Rattle.layer_model.specs.declared.event.Event.{Event}
use Rattle.layer_model.specs.declared.rule.Rule.{Rule}
use Rattle.layer_model.specs.declared.rule.Rule.TheVariants.{TooFew}
use Rattle.layer_model.specs.declared.rule.RoleAt.TheVariants as role
use Rattle.layer_model.specs.Annotations.{Annotations}
use Rattle.layer_model.proofs.Maps.{same_list}
use Rattle.mark_base.specs.ReadIds.{id_at}
use Rattle.layer_rules.specs.WellFormed.{commit_fault, first_told, too_few, too_few_of}
use Rattle.layer_rules.proofs.PlaceLemmas.{entries_found}

-- the rule on one event
abbrev pub few_at : Configuration → ℕ → Event → Option Rule
few_at conf number event = option_map (λ place. TooFew (id_at letter.Event number) (role.Event event.kind place)) (too_few_of conf event)

-- the first of some events that has too few arguments
abbrev pub first_few : Configuration → List (ℕ × Event) → Option Rule
first_few conf [] = None
first_few conf (entry ∷ more) = option_or (few_at conf entry.0 entry.1) (first_few conf more)

by_keys : (conf : Configuration) (layer : Annotations) (es : List (ℕ × Event)) → AllByRecursion (λ e. finite.get layer.events e.0 ≡ Some e.1) es
    → first_few conf es ≡ first_told (too_few conf layer) (keys_of es)
by_keys conf layer [] all = refl
by_keys conf layer (e ∷ es) all =
    ap (λ o. option_or o (first_few conf es)) (sym (ap (option_and_then (few_at conf e.0)) all.0)) ∙ ap (option_or (too_few conf layer e.0)) (by_keys conf layer es all.1)

-- the first of all events
pub all_events : (conf : Configuration) (layer : Annotations) (rest es : List (ℕ × Event)) → finite.from_entries {R = nat_cmp} es ≡ layer.events
    → rest ≡ es → IsStrictlySortedBy nat_cmp (keys_of es) → first_few conf rest ≡ commit_fault conf layer
unfolding commit_fault
all_events conf layer rest es is gives sorted =
    let whole : rest ≡ finite.entries layer.events = gives ∙ sym (same_list es sorted) ∙ ap finite.entries is in
    ap (first_few conf) whole ∙ by_keys conf layer (finite.entries layer.events) (entries_found layer.events)

pub few_found : (conf : Configuration) (rest later : List (ℕ × Event)) (n : ℕ) (event : Event) (rule : Rule) (whole : Option Rule)
    → rest ≡ (n, event) ∷ later → Some rule ≡ few_at conf n event → first_few conf rest ≡ whole → Some rule ≡ whole
few_found conf rest later n event rule whole is told before = ap (λ o. option_or o (first_few conf later)) told ∙ sym (ap (first_few conf) is) ∙ before

pub few_passed : (conf : Configuration) (rest later : List (ℕ × Event)) (n : ℕ) (event : Event) (whole : Option Rule)
    → rest ≡ (n, event) ∷ later → None ≡ few_at conf n event → first_few conf rest ≡ whole → first_few conf later ≡ whole
few_passed conf rest later n event whole is told before = ap (λ o. option_or o (first_few conf later)) told ∙ sym (ap (first_few conf) is) ∙ before

pub few_nowhere : (conf : Configuration) (rest : List (ℕ × Event)) (whole : Option Rule) → rest ≡ [] → first_few conf rest ≡ whole → None ≡ whole
few_nowhere conf rest whole is before = sym (ap (first_few conf) is) ∙ before
