use Rattle.std.proofs.Common.{◌≡◌, drop, None}
use Rattle.annotation_conf.specs.FaultsFirst.{first_entity_told}
use Rattle.annotation_conf.proofs.faults.first_entity.Given as goal

abbrev pub invariant-loop-line : goal.invariant-loop-line
invariant-loop-line l = first_entity_told l.known l.before (drop l.line-index l.lines) ≡ first_entity_told l.known None l.lines
