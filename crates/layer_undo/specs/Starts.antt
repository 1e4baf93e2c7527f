-- What the refusals of a desk say.
use Rattle.std.specs.Prelude.{◌≡◌, ℕ, List, Some, Result, Err, ⊤}
use Rattle.conf_model.specs.Configurations.{Configuration}
use Rattle.layer_model.specs.declared.rule.Rule.{Rule}
use Rattle.layer_model.specs.Annotations.{Annotations}
use Rattle.layer_core.specs.declared.command.Command.{Command}
use Rattle.layer_core.specs.declared.refusal.Refusal.{Refusal}
use Rattle.layer_core.specs.declared.refusal.Refusal.TheVariants as refused
use Rattle.layer_rules.specs.declared.check_fault.CheckFault.{CheckFault}
use Rattle.layer_rules.specs.declared.check_fault.CheckFault.TheVariants as fault
use Rattle.layer_rules.specs.WellFormed.{IsWellFormed, least_flaw}
use Rattle.layer_undo.specs.declared.desk_start.DeskStart.{DeskStart}
use Rattle.layer_undo.specs.declared.desk_start.DeskStart.TheVariants.{Base, At, Memory}
use Rattle.layer_undo.specs.Replays.{Outcome, first_refusal}

-- a refusal is the rule that is told; want of memory tells nothing
abbrev pub IsRefused : {X : Type 0} → Result X Rule → Refusal → Type 0
IsRefused answer (refused.Rule broken) = answer ≡ Err broken
IsRefused answer refused.Memory = ⊤

-- why a desk is not opened: the least flaw of its base; else the first refusal of its scripts; or want of memory
abbrev pub IsDeskStart : Configuration → ℕ → Annotations → List Command → List Command → DeskStart → Type 0
IsDeskStart conf characters base done undone (Base flaw) = least_flaw conf characters base ≡ Some flaw
IsDeskStart conf characters base done undone (At index rule) =
    IsWellFormed conf characters base × (first_refusal conf characters base done undone ≡ Some (index, rule))
IsDeskStart conf characters base done undone Memory = ⊤

-- why commands carried out in turn stopped: at the first that is refused, or for want of memory
abbrev pub IsStop : Outcome → DeskStart → Type 0
IsStop outcome (Base flaw) = ⊥
IsStop outcome (At index rule) = outcome ≡ Err (index, rule)
IsStop outcome Memory = ⊤

-- nothing but want of memory
abbrev pub IsWantOfMemory : DeskStart → Type 0
IsWantOfMemory (Base flaw) = ⊥
IsWantOfMemory (At index rule) = ⊥
IsWantOfMemory Memory = ⊤

-- the fault of a layer as the fault of a base
abbrev pub start_of : CheckFault → DeskStart
start_of (fault.Flaw flaw) = Base flaw
start_of fault.Memory = Memory
