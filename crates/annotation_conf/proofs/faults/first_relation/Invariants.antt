use Rattle.std.proofs.Common.{◌≡◌, drop}
use Rattle.annotation_conf.specs.FirstFaults.{first_among}
use Rattle.annotation_conf.specs.FaultsTold.{relation_told}
use Rattle.annotation_conf.proofs.faults.first_relation.Given as goal

abbrev pub invariant-loop-line : goal.invariant-loop-line
invariant-loop-line l =
    first_among (λ line. line.number) (relation_told l.known) (drop l.line-index l.lines) ≡ first_among (λ line. line.number) (relation_told l.known) l.lines
