use Rattle.std.proofs.Common.{◌≡◌, drop, find, option_and_then}
use Rattle.layer_model.specs.Layers.{mark_at}
use Rattle.layer_core.specs.Commands.{other_than}
use Rattle.layer_core.proofs.pairs.first_other.Given as goal

abbrev pub invariant-loop-other : goal.invariant-loop-other
invariant-loop-other g l =
    option_and_then (λ mark. find (other_than (g.P.Pairs.told l.pairs) l.layer l.id mark) (drop l.other-index l.ids)) (mark_at l.layer l.id)
    ≡ option_and_then (λ mark. find (other_than (g.P.Pairs.told l.pairs) l.layer l.id mark) l.ids) (mark_at l.layer l.id)
