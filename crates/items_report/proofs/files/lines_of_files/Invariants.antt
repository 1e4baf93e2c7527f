use Rattle.std.proofs.Common.{◌≡◌, map, take}
use Rattle.items_report.specs.ItemRows.{lines_of}
use Rattle.items_report.proofs.files.lines_of_files.Given as goal

abbrev pub invariant-loop-file : goal.invariant-loop-file
invariant-loop-file l = l.all.items ≡ map lines_of (take l.file-index l.files)
