use Rattle.std.proofs.Common.{◌≡◌, ◌++◌, drop, filter}
use Rattle.layer_core.specs.Cascade.{falls_next}
use Rattle.layer_core.proofs.cascade.fall_behind.Given as goal

abbrev pub invariant-loop-id : goal.invariant-loop-id
invariant-loop-id l =
    l.next.items ++ filter (falls_next l.layer l.gone l.fallen) (drop l.id-index l.ids) ≡ filter (falls_next l.layer l.gone l.fallen) l.ids
