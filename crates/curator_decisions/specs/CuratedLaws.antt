-- Which rules a curated layer can break. Where its layers obey a configuration, and no item that is in names one that is
-- not, there are three: attributes of one type on one annotation, overlaps, and how many there are of a letter.
use Rattle.std.specs.Prelude.{◌≡◌, ℕ, ◌<◌, List, [], ◌∷◌, length, Option, Some, None, option_map, All, ⊤}
use Rattle.conf_model.specs.Configurations.{Configuration}
use Rattle.layer_model.specs.declared.flaw.FlawPlace.{FlawPlace}
use Rattle.layer_model.specs.declared.rule.Rule.{Rule}
use Rattle.layer_model.specs.declared.rule.Rule.TheVariants.{AttributeThere, LayerFull, OverlapRefused}
use Rattle.layer_model.specs.Annotations.{Annotations}
use Rattle.layer_model.specs.Layers.{IsLayer}
use Rattle.layer_rules.specs.FlawPlaces.{first_rule, places}
use Rattle.layer_rules.specs.WellFormed.{Never, Obeys, at_attribute_there, at_layer_full, at_overlap_refused, commit_fault, in_order}
use Rattle.unanimous_merge.specs.declared.item.ItemId.{ItemId}
use Rattle.unanimous_merge.specs.Readings.{readings}
use Rattle.curator_decisions.specs.declared.decision_fault.DecisionFault.TheVariants.{Broken}
use Rattle.curator_decisions.specs.declared.verdict.Verdict.{Verdict}
use Rattle.curator_decisions.specs.Curated.{curated}
use Rattle.curator_decisions.specs.DecisionFaults.{decide_fault, decision_fault, first_broken, missing, undecide_fault}
use Rattle.curator_decisions.specs.Decisions.{Decided}

-- a rule that decisions can break
abbrev pub IsOfThree : Rule → Type 0
IsOfThree (AttributeThere id) = ⊤
IsOfThree (OverlapRefused id) = ⊤
IsOfThree (LayerFull letter) = ⊤
IsOfThree rule = ⊥

-- what a place of a layer breaks of these rules, in the order of their numbers
abbrev pub three_in_order : Configuration → Annotations → List (FlawPlace → Option Rule)
three_in_order conf layer = at_attribute_there layer ∷ at_overlap_refused conf layer ∷ at_layer_full layer ∷ []

-- the first of the three that a layer breaks
abbrev pub first_of_three : Configuration → Annotations → Option Rule
first_of_three conf layer = option_map (λ flaw. flaw.rule) (first_rule (three_in_order conf layer) (places layer))

-- whatever a place of a layer breaks is one of the three, and each event has as many arguments as its roles ask
pub record BreaksThree (conf : Configuration) (characters : ℕ) (layer : Annotations) : Type 0 where
  pub places : All (λ broken. (place : FlawPlace) (rule : Rule) → broken place ≡ Some rule → IsOfThree rule) (in_order conf characters layer)
  pub enough : commit_fault conf layer ≡ None

-- the layers of a snapshot obey a configuration on a text of so many characters; they are fewer than 100,000, each with at
-- most 10,000 annotations of a letter, so that no letter runs out of IDs
pub record AreFinished (conf : Configuration) (characters : ℕ) (rows : List (List ℕ × Annotations)) : Type 0 where
  pub some : 0 < length rows
  pub few : length rows < 100000
  pub layers : All (λ row. IsLayer row.1) rows
  pub obey : All (λ row. Obeys conf characters row.1) rows

-- ---- where nothing is lacking

-- the curated layer breaks only the three
abbrev pub DecidedLayersBreakThree : Type 0
DecidedLayersBreakThree =
    (conf : Configuration) (characters : ℕ) (rows : List (List ℕ × Annotations)) (decided : Decided) → AreFinished conf characters rows → missing (readings rows) decided ≡ None
    → BreaksThree conf characters (curated (readings rows) decided)

-- so the first rule that it breaks is the first of the three, and nothing else need be looked at
abbrev pub FirstBrokenIsOfThree : Type 0
FirstBrokenIsOfThree =
    (conf : Configuration) (characters : ℕ) (rows : List (List ℕ × Annotations)) (decided : Decided) → AreFinished conf characters rows → missing (readings rows) decided ≡ None
    → first_broken conf characters (curated (readings rows) decided) ≡ first_of_three conf (curated (readings rows) decided)

-- and where it breaks none of the three it obeys
abbrev pub ThreeSuffice : Type 0
ThreeSuffice =
    (conf : Configuration) (characters : ℕ) (rows : List (List ℕ × Annotations)) (decided : Decided) → AreFinished conf characters rows → missing (readings rows) decided ≡ None
    → All Never (three_in_order conf (curated (readings rows) decided)) → Obeys conf characters (curated (readings rows) decided)

-- ---- what a refusal can tell

-- decisions are refused for a broken rule only where it is one of the three
abbrev pub DecisionsBreakThree : Type 0
DecisionsBreakThree =
    (conf : Configuration) (characters : ℕ) (rows : List (List ℕ × Annotations)) (decided : Decided) (rule : Rule) → AreFinished conf characters rows
    → decision_fault conf characters (readings rows) decided ≡ Some (Broken rule) → IsOfThree rule

-- so is a verdict on top of accepted decisions
abbrev pub VerdictsBreakThree : Type 0
VerdictsBreakThree =
    (conf : Configuration) (characters : ℕ) (rows : List (List ℕ × Annotations)) (decided : Decided) (item : ItemId) (verdict : Verdict) (rule : Rule) → AreFinished conf characters rows
    → decision_fault conf characters (readings rows) decided ≡ None → decide_fault conf characters (readings rows) decided item verdict ≡ Some (Broken rule) → IsOfThree rule

-- and the taking back of one
abbrev pub TakingBackBreaksThree : Type 0
TakingBackBreaksThree =
    (conf : Configuration) (characters : ℕ) (rows : List (List ℕ × Annotations)) (decided : Decided) (item : ItemId) (rule : Rule) → AreFinished conf characters rows
    → decision_fault conf characters (readings rows) decided ≡ None → undecide_fault conf characters (readings rows) decided item ≡ Some (Broken rule) → IsOfThree rule
