-- What a verdict changes, and what it leaves: the list of decisions stands for a map from items to verdicts, and a step
-- that is not refused leads from accepted decisions to accepted decisions.
use Rattle.std.specs.Prelude.{◌≡◌, ◌≢◌, ℕ, List, Some, None}
use Rattle.conf_model.specs.Configurations.{Configuration}
use Rattle.unanimous_merge.specs.declared.item.ItemId.{ItemId}
use Rattle.unanimous_merge.specs.Readings.{Reading}
use Rattle.curator_decisions.specs.declared.verdict.Verdict.{Verdict}
use Rattle.curator_decisions.specs.Decisions.{Ascend, Decided, verdict_on, with_verdict, without_verdict}
use Rattle.curator_decisions.specs.Curated.{curated}
use Rattle.curator_decisions.specs.DecisionFaults.{decide_fault, decision_fault, undecide_fault}

-- ---- a map of items

-- the verdict that is set is the verdict on its item
abbrev pub VerdictIsSet : Type 0
VerdictIsSet = (decided : Decided) (item : ItemId) (verdict : Verdict) → verdict_on item (with_verdict decided item verdict) ≡ Some verdict

-- and on each other item the verdict stays
abbrev pub OthersStaySet : Type 0
OthersStaySet = (decided : Decided) (item : ItemId) (verdict : Verdict) (other : ItemId) → other ≢ item → verdict_on other (with_verdict decided item verdict) ≡ verdict_on other decided

-- once it is taken back there is none on its item
abbrev pub VerdictIsTakenBack : Type 0
VerdictIsTakenBack = (decided : Decided) (item : ItemId) → verdict_on item (without_verdict decided item) ≡ None

-- and on each other item the verdict stays
abbrev pub OthersStay : Type 0
OthersStay = (decided : Decided) (item other : ItemId) → other ≢ item → verdict_on other (without_verdict decided item) ≡ verdict_on other decided

-- the verdicts are the same on every item
abbrev pub SameVerdicts : Decided → Decided → Type 0
SameVerdicts a b = (item : ItemId) → verdict_on item a ≡ verdict_on item b

-- decisions with the same verdicts are the same
abbrev pub DecisionsAreAMap : Type 0
DecisionsAreAMap = (a b : Decided) → Ascend a → Ascend b → SameVerdicts a b → a ≡ b

-- and they make the same layer
abbrev pub SameVerdictsSameLayer : Type 0
SameVerdictsSameLayer = (layers : List Reading) (a b : Decided) → SameVerdicts a b → curated layers a ≡ curated layers b

-- ---- steps

-- accepted decisions stay accepted by a verdict that is not refused
abbrev pub AcceptedWithVerdict : Type 0
AcceptedWithVerdict =
    (conf : Configuration) (characters : ℕ) (layers : List Reading) (decided : Decided) (item : ItemId) (verdict : Verdict) → decision_fault conf characters layers decided ≡ None
    → decide_fault conf characters layers decided item verdict ≡ None → decision_fault conf characters layers (with_verdict decided item verdict) ≡ None

-- and where a verdict is taken back without a refusal
abbrev pub AcceptedWithoutVerdict : Type 0
AcceptedWithoutVerdict =
    (conf : Configuration) (characters : ℕ) (layers : List Reading) (decided : Decided) (item : ItemId) → decision_fault conf characters layers decided ≡ None
    → undecide_fault conf characters layers decided item ≡ None → decision_fault conf characters layers (without_verdict decided item) ≡ None
