use Rattle.ann_reader.proofs.FileLemmas.{read_file}
use Rattle.ann_reader.proofs.WholeLayer.{faultless_file}
use Rattle.ann_reader.proofs.laws.files_without_fault.Goals as goal

pub returns : goal.returns
returns c = record { lines = read_file; file = faultless_file }
