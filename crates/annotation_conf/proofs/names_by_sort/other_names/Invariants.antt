use Rattle.std.proofs.Common.{◌≡◌, map, take}
use Rattle.annotation_conf.specs.NamePlaces.{seen_declared}
use Rattle.annotation_conf.specs.KnownFiles.{named_declared}
use Rattle.annotation_conf.proofs.names_by_sort.other_names.Given as goal

abbrev pub invariant-loop-line : goal.invariant-loop-line
invariant-loop-line l = map seen_declared l.names.items ≡ map named_declared (take l.line-index l.lines)
