-- What the reader of a configuration tells.
use Rattle.std.specs.Prelude.{◌≡◌, ℕ, List, Err, ⊤}
use Rattle.conf_model.specs.declared.conf_fault.ConfFault.{ConfFault}
use Rattle.conf_model.specs.declared.conf_fault.ConfFault.TheVariants.{At, Memory}
use Rattle.conf_model.specs.ConfOf.{conf_of}

-- what a refusal says: the first fault of the bytes and its line, or want of memory
abbrev pub IsFault : List ℕ → ConfFault → Type 0
IsFault bytes (At line what) = conf_of bytes ≡ Err (record { line = line; what = what })
IsFault bytes Memory = ⊤
