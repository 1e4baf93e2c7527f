use Rattle.std.proofs.Common.{◌≡◌, drop, find, not}
use Rattle.layer_model.specs.Coherent.{is_span_letter}
use Rattle.token_columns.proofs.write_faults.first_other.Given as goal

abbrev pub invariant-loop-id : goal.invariant-loop-id
invariant-loop-id l = find (λ id. not (is_span_letter id.kind)) (drop l.id-index l.ids) ≡ find (λ id. not (is_span_letter id.kind)) l.ids
