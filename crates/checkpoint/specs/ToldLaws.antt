-- What the entries of a checkpoint are.
use Rattle.std.specs.Prelude.{◌≡◌, ℕ, List, map}
use Rattle.entry_bytes.specs.Entries.{entry_bytes}
use Rattle.project_machine.specs.Entries.{pieces_of}
use Rattle.project_machine.specs.ProjectState.{ProjectState}
use Rattle.checkpoint.specs.Runs.{IsCheckpoint}

-- the entries of a checkpoint are the pieces of the project that it tells, in their order, and no others
abbrev pub CheckpointsArePieces : Type 0
CheckpointsArePieces = (entries : List (List ℕ)) (s : ProjectState) → IsCheckpoint entries s → entries ≡ map entry_bytes (pieces_of s)
