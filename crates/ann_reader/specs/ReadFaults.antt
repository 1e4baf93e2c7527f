-- What the reader of an .ann file tells.
use Rattle.std.specs.Prelude.{◌≡◌, ℕ, List, Option, Some, ⊤}
use Rattle.conf_model.specs.Configurations.{Configuration}
use Rattle.ann_reader.specs.declared.ann_fault.AnnFault.{AnnFault}
use Rattle.ann_reader.specs.declared.ann_fault.AnnFault.TheVariants.{At, Memory}
use Rattle.ann_reader.specs.LineFaults.{Fault}
use Rattle.ann_reader.specs.AnnFaults.{ann_fault}

-- what a refusal says: the fault and its line, or want of memory
abbrev pub Tells : Option Fault → AnnFault → Type 0
Tells fault (At line what) = fault ≡ Some (record { line = line; what = what })
Tells fault Memory = ⊤

-- a refusal tells the first fault of the file
abbrev pub IsFault : Configuration → List ℕ → List ℕ → AnnFault → Type 0
IsFault conf text bytes = Tells (ann_fault conf text bytes)
