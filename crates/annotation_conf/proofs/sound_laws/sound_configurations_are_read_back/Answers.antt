use Rattle.annotation_conf.proofs.SoundRoundTrip.{text_read_back}
use Rattle.annotation_conf.proofs.sound_laws.sound_configurations_are_read_back.Goals as goal

pub returns : goal.returns
returns c = λ conf s. text_read_back conf s
