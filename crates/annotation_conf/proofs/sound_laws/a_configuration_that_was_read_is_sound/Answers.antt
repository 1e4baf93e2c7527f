use Rattle.annotation_conf.proofs.SoundLaw.{sound}
use Rattle.annotation_conf.proofs.sound_laws.a_configuration_that_was_read_is_sound.Goals as goal

pub returns : goal.returns
returns c = λ conf e. sound c.args.bytes.now conf e
