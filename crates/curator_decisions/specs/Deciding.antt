-- What a decision that is refused tells.
use Rattle.std.specs.Prelude.{◌≡◌, Option, Some, ⊤}
use Rattle.curator_decisions.specs.declared.decision_fault.DecisionFault.{DecisionFault}
use Rattle.curator_decisions.specs.declared.decision_fault.DecisionFault.TheVariants as no

-- the fault that is told is the first one; want of memory tells nothing
abbrev pub IsFirstFault : Option DecisionFault → DecisionFault → Type 0
IsFirstFault first no.Memory = ⊤
IsFirstFault first fault = first ≡ Some fault
