use Rattle.ann_writer.proofs.RoundTrip.{read_back}
use Rattle.ann_writer.proofs.WrittenUtf8.{ann_utf8}
use Rattle.ann_writer.proofs.laws.written_layers_are_read_back.Goals as goal

pub returns : goal.returns
returns c = λ conf text layer program well. read_back conf text layer program well (ann_utf8 conf text layer program)
