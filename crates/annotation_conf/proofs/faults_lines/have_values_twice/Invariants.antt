use Rattle.std.proofs.Common.{◌≡◌, take, false}
use Rattle.std.specs.List.{list_any}
use Rattle.annotation_conf.specs.FaultsTold.{values_twice}
use Rattle.annotation_conf.proofs.faults_lines.have_values_twice.Given as goal

abbrev pub invariant-loop-pair : goal.invariant-loop-pair
invariant-loop-pair l = list_any values_twice (take l.pair-index l.pairs) ≡ false
