use Rattle.std.proofs.Common.{◌≡◌, map, take, filter}
use Rattle.annotation_conf.specs.NamePlaces.{seen_declared}
use Rattle.annotation_conf.specs.KnownFiles.{type_declared}
use Rattle.annotation_conf.proofs.names_by_sort.usable_names.Given as goal

abbrev pub invariant-loop-line : goal.invariant-loop-line
invariant-loop-line l = map seen_declared l.names.items ≡ map type_declared (filter (λ line. line.usable) (take l.line-index l.lines))
