-- Laws of checkpoints: what is read of a piece is determined, each project that can be restored has a checkpoint, and nothing is at fault with one.
use Rattle.std.specs.Prelude.{◌≡◌, ℕ, List, [], ◌++◌, map}
use Rattle.entry_bytes.specs.declared.entry.Entry.{Entry}
use Rattle.entry_bytes.specs.Entries.{entry_bytes}
use Rattle.project_machine.specs.Entries.{pieces_of}
use Rattle.project_machine.specs.Legal.{IsSound}
use Rattle.project_machine.specs.ProjectState.{ProjectState}
use Rattle.checkpoint.specs.declared.so_far.SoFar.{SoFar}
use Rattle.checkpoint.specs.Reading.{Begins, Reads}
use Rattle.checkpoint.specs.Runs.{IsCheckpoint, IsFault, IsReadTo}

-- a first piece leaves one thing
abbrev pub FirstLeavesOne : Type 0
FirstLeavesOne = (e : Entry) (a b : SoFar) → Begins e a → Begins e b → a ≡ b

-- a piece that is read behind others leaves one thing
abbrev pub NextLeavesOne : Type 0
NextLeavesOne = (entries : List (List ℕ)) (so a b : SoFar) (e : Entry) → IsReadTo entries so → Reads so e a → Reads so e b → a ≡ b

-- a checkpoint tells one project, and none goes on behind the last piece of another
abbrev pub CheckpointsTellOne : Type 0
CheckpointsTellOne = (entries more : List (List ℕ)) (s t : ProjectState) → IsCheckpoint entries s → IsCheckpoint (entries ++ more) t → (more ≡ []) × (s ≡ t)

-- one entry at most is the first at fault
abbrev pub FaultIsOne : Type 0
FaultIsOne = (entries : List (List ℕ)) (m n : ℕ) → IsFault entries m → IsFault entries n → m ≡ n

-- the pieces of each project that can be restored are a checkpoint, which tells it
abbrev pub SoundStatesHaveCheckpoints : Type 0
SoundStatesHaveCheckpoints = (s : ProjectState) → IsSound s → IsCheckpoint (map entry_bytes (pieces_of s)) s

-- of entries that begin with a checkpoint, none is the first at fault
abbrev pub CheckpointsHaveNoFault : Type 0
CheckpointsHaveNoFault = (entries more : List (List ℕ)) (s : ProjectState) (n : ℕ) → IsCheckpoint entries s → IsFault (entries ++ more) n → ⊥

-- none of the pieces of a project that can be restored is the first at fault, and nothing is lacking behind them
abbrev pub PiecesHaveNoFault : Type 0
PiecesHaveNoFault = (s : ProjectState) (n : ℕ) → IsSound s → IsFault (map entry_bytes (pieces_of s)) n → ⊥

-- two projects that can be restored are one where the same entries begin with the pieces of each
abbrev pub PiecesTellOne : Type 0
PiecesTellOne = (s t : ProjectState) (more other : List (List ℕ)) → IsSound s → IsSound t → map entry_bytes (pieces_of s) ++ more ≡ map entry_bytes (pieces_of t) ++ other → s ≡ t
