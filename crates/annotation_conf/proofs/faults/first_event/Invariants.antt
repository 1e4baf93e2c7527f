use Rattle.std.proofs.Common.{◌≡◌, drop, None}
use Rattle.annotation_conf.specs.FaultsFirst.{first_event_told}
use Rattle.annotation_conf.proofs.faults.first_event.Given as goal

abbrev pub invariant-loop-line : goal.invariant-loop-line
invariant-loop-line l = first_event_told l.known l.before (drop l.line-index l.lines) ≡ first_event_told l.known None l.lines
