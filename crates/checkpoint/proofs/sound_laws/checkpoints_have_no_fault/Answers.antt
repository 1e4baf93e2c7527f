use Rattle.checkpoint.proofs.SamePieces.{Laws}
use Rattle.checkpoint.proofs.SameRuns.{no_fault, no_fault_alone, told_apart}
use Rattle.checkpoint.proofs.sound_laws.checkpoints_have_no_fault.Goals as goal

pub returns : goal.returns
returns c =
    let laws : Laws = record {
      apart = c.entries_are_told_apart.ensures.no_two;
      back = c.sound_configurations_are_read_back.ensures;
      loads = c.loads_are_read_again.ensures;
      typed = c.typed_scripts_are_read_again.ensures;
      again = c.scripts_are_told_apart.ensures.read_again;
      accepted = c.accepted_scripts_can_be_written.ensures;
      flawless = c.unflawed_layers.ensures.unflawed;
    } in
    record {
      checkpoints = no_fault laws;
      pieces = λ s n sound. no_fault_alone laws _ s n (c.sound_states_have_checkpoints.ensures s sound);
      apart = λ s t more other sound good same. told_apart laws _ _ more other s t (c.sound_states_have_checkpoints.ensures s sound) (c.sound_states_have_checkpoints.ensures t good) same;
    }
