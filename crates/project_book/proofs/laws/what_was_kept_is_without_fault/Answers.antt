use Rattle.std.proofs.Common.{refl, ℕ, map}
use Rattle.entry_bytes.specs.Entries.{entry_bytes}
use Rattle.project_machine.specs.Entries.{pieces_of}
use Rattle.project_machine.specs.History.{after, encoded}
use Rattle.project_machine.specs.Legal.{IsSound}
use Rattle.project_machine.specs.Opening.{IsReplay, restored}
use Rattle.project_machine.specs.ProjectState.{ProjectState}
use Rattle.checkpoint.specs.SoundLaws.{CheckpointsHaveNoFault, SoundStatesHaveCheckpoints}
use Rattle.project_book.specs.Opening.{IsEntryAtFault}
use Rattle.project_book.proofs.FaultLemmas.{none_at_fault}
use Rattle.project_book.proofs.PieceLemmas.{StatesTold}
use Rattle.project_book.proofs.laws.what_was_kept_is_without_fault.Goals as goal

without_fault : CheckpointsHaveNoFault → SoundStatesHaveCheckpoints → StatesTold → (s : ProjectState) (n : ℕ) → IsSound s → IsEntryAtFault (map entry_bytes (pieces_of s)) n → ⊥
without_fault faultless have told s n sound =
    let replay : IsReplay (map entry_bytes (pieces_of s)) (restored s) = told s sound in
    none_at_fault faultless have (map entry_bytes (pieces_of s)) (restored s) n replay.legal replay.told

pub returns-clause-entries : goal.returns-clause-entries
returns-clause-entries c = λ log n legal. none_at_fault c.checkpoints_have_no_fault.ensures.checkpoints c.sound_states_have_checkpoints.ensures (encoded log) log n legal refl

pub returns-clause-pieces : goal.returns-clause-pieces
returns-clause-pieces c = without_fault c.checkpoints_have_no_fault.ensures.checkpoints c.sound_states_have_checkpoints.ensures c.states_are_told_apart.ensures

pub returns-clause-left : goal.returns-clause-left
returns-clause-left c = λ log n legal free low.
    without_fault c.checkpoints_have_no_fault.ensures.checkpoints c.sound_states_have_checkpoints.ensures c.states_are_told_apart.ensures (after log) n (c.verdicts_are_accepted.ensures.sound log legal free low)
