use Rattle.checkpoint.proofs.SoundCheckpoints.{sound_checkpoint}
use Rattle.checkpoint.proofs.sound_laws.sound_states_have_checkpoints.Goals as goal

pub returns : goal.returns
returns c = sound_checkpoint c.sound_configurations_are_read_back.ensures c.written_layers_are_utf8.ensures
