use Rattle.std.proofs.Common.{◌≡◌, drop}
use Rattle.program_inputs.specs.Folder.{file_among}
use Rattle.program_inputs.proofs.memory_folder.find_file.Given as goal

abbrev pub invariant-loop-file : goal.invariant-loop-file
invariant-loop-file l = file_among (drop l.file-index l.files) l.name ≡ file_among l.files l.name
