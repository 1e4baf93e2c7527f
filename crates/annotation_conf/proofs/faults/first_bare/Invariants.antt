use Rattle.std.proofs.Common.{◌≡◌, drop}
use Rattle.annotation_conf.specs.FaultsFirst.{first_bare_told, none_open}
use Rattle.annotation_conf.proofs.faults.first_bare.Given as goal

abbrev pub invariant-loop-line : goal.invariant-loop-line
invariant-loop-line l = first_bare_told l.opened (drop l.line-index l.lines) ≡ first_bare_told none_open l.lines
