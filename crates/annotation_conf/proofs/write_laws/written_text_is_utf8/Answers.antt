use Rattle.annotation_conf.proofs.WrittenReads.{written_reads, written_valid}
use Rattle.annotation_conf.proofs.WrittenSound.{sound_spelled}
use Rattle.annotation_conf.proofs.write_laws.written_text_is_utf8.Goals as goal

pub returns : goal.returns
returns c = λ conf sound. let spelled = sound_spelled conf sound in let read = written_reads conf spelled in written_valid conf spelled
