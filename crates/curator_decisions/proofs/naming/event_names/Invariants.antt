use Rattle.std.proofs.Common.{◌≡◌, ◌∷◌, map, take}
use Rattle.layer_model.specs.Coherent.{trigger_id}
use Rattle.curator_decisions.proofs.naming.event_names.Given as goal

abbrev pub invariant-loop-arg : goal.invariant-loop-arg
invariant-loop-arg l = l.ids.items ≡ trigger_id l.event ∷ map (λ arg. arg.target) (take l.arg-index l.event.args)
