use Rattle.std.proofs.Common.{◌≡◌, ◌++◌, drop, filter, not}
use Rattle.layer_model.specs.Classes.{has_rank, rank}
use Rattle.layer_core.proofs.joined_classes.without_held.Given as goal

abbrev pub invariant-loop-id : goal.invariant-loop-id
invariant-loop-id l = l.others.items ++ filter (λ id. not (has_rank (rank id) l.held)) (drop l.id-index l.members) ≡ filter (λ id. not (has_rank (rank id) l.held)) l.members
