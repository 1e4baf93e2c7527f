use Rattle.std.proofs.Common.{◌≡◌, drop}
use Rattle.annotation_conf.specs.FaultsFirst.{first_macro_told}
use Rattle.annotation_conf.proofs.faults.first_macro.Given as goal

abbrev pub invariant-loop-place : goal.invariant-loop-place
invariant-loop-place l = first_macro_told l.known l.place (drop l.place l.lines) ≡ first_macro_told l.known 0 l.lines
