use Rattle.std.proofs.Common.{◌≡◌, drop, ◌++◌, option_map}
use Rattle.curator_decisions.specs.Curated.{all_new}
use Rattle.curator_decisions.specs.Placing.{new_of}
use Rattle.curator_decisions.proofs.renaming.all_new.Given as goal

abbrev pub invariant-loop-id : goal.invariant-loop-id
invariant-loop-id l = all_new (new_of l.names) l.members ≡ option_map (λ r. l.out.items ++ r) (all_new (new_of l.names) (drop l.id-index l.members))
