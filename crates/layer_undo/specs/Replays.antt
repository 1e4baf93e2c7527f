-- Commands that are carried out in turn.
use Rattle.std.specs.Prelude.{ℕ, ◌+◌, List, [], ◌∷◌, ◌++◌, length, reverse, nat_lt, Option, Some, Result, Ok, Err, if◌then◌else◌}
use Rattle.std.specs.Result.{result_err}
use Rattle.conf_model.specs.Configurations.{Configuration}
use Rattle.layer_model.specs.declared.rule.Rule.{Rule}
use Rattle.layer_model.specs.declared.rule.Rule.TheVariants.{DeskFull}
use Rattle.layer_model.specs.Annotations.{Annotations}
use Rattle.layer_core.specs.declared.command.Command.{Command}
use Rattle.layer_core.specs.Commands.{Applied, apply}

-- the layer that some commands make, or the index of the first that is refused with the rule that refuses it
abbrev pub Outcome : Type 0
Outcome = Result Annotations (ℕ × Rule)

-- what comes behind the command of an index: the rest, on the layer that it makes, or its refusal
abbrev pub next : ℕ → Result Applied Rule → (Annotations → Outcome) → Outcome
next at (Ok applied) rest = rest applied.layer
next at (Err rule) rest = Err (at, rule)

-- commands carried out in turn on a layer, where the first has this index
abbrev pub replay_from : Configuration → ℕ → ℕ → Annotations → List Command → Outcome
replay_from conf characters at layer [] = Ok layer
replay_from conf characters at layer (command ∷ commands) =
    next at (apply conf characters layer command) (λ made. replay_from conf characters (at + 1) made commands)

-- commands carried out in turn on a layer, for a configuration and a text of so many characters
abbrev pub replay : Configuration → ℕ → Annotations → List Command → Outcome
replay conf characters base commands = replay_from conf characters 0 base commands

-- the first refusal of two scripts from a layer: there are more than 4,096 commands, or one is refused where done, and then undone from its end, are carried out in turn
abbrev pub first_refusal : Configuration → ℕ → Annotations → List Command → List Command → Option (ℕ × Rule)
first_refusal conf characters base done undone =
    if nat_lt 4096 (length done + length undone) then Some (4096, DeskFull) else result_err (replay conf characters base (done ++ reverse undone))
