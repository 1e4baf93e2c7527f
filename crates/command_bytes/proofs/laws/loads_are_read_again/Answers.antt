use Rattle.ann_writer.specs.AnnOf.{ann_of}
use Rattle.command_bytes.proofs.LoadLemmas.{read_again}
use Rattle.command_bytes.proofs.laws.loads_are_read_again.Goals as goal

pub returns : goal.returns
returns c =
    λ conf text layer program well few.
    let lines = ann_of conf text layer in
    let utf8 = c.written_layers_are_utf8.ensures conf text layer program in
    let file = c.written_layers_are_read_back.ensures conf text layer program well in
    read_again conf text layer utf8 few (c.files_of_a_layer.ensures.faultless conf text lines layer program.kept file) (c.files_of_a_layer.ensures.said conf text lines layer program.kept file)
