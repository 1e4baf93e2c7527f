use Rattle.annotation_conf.proofs.SoundRoundTrip.{read_back}
use Rattle.annotation_conf.proofs.sound_laws.a_configuration_that_was_read_is_read_back.Goals as goal

pub returns : goal.returns
returns c = λ conf e. read_back c.args.bytes.now conf e
