use Rattle.std.proofs.Common.{◌≡◌, take}
use Rattle.annotation_conf.specs.KnownMacros.{kinds_of_macros}
use Rattle.annotation_conf.proofs.faults_macros.macro_kinds.Given as goal

abbrev pub invariant-loop-line : goal.invariant-loop-line
invariant-loop-line l = l.kinds.items ≡ kinds_of_macros l.known (take l.line-index l.known.macros)
