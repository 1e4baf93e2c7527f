use Rattle.std.proofs.Common.{◌≡◌, ◌+◌, ◌-◌, not, find}
use Rattle.std.specs.List.{range_with_len}
use Rattle.layer_model.specs.Layers.{count, has_number}
use Rattle.layer_core.proofs.new_numbers.free_number.Given as goal

abbrev pub invariant-loop-number : goal.invariant-loop-number
invariant-loop-number l =
    find (λ number. not (has_number l.layer l.kind number)) (range_with_len l.number (count l.layer l.kind + 2 - l.number))
    ≡ find (λ number. not (has_number l.layer l.kind number)) (range_with_len 1 (count l.layer l.kind + 1))
