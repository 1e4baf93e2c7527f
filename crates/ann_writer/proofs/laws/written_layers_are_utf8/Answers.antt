use Rattle.ann_writer.proofs.WrittenUtf8.{ann_utf8}
use Rattle.ann_writer.proofs.laws.written_layers_are_utf8.Goals as goal

pub returns : goal.returns
returns c = ann_utf8
