use Rattle.std.proofs.Common.{[], ◌∷◌, ◌++◌, ◌∙◌, ap}
use Rattle.layer_undo.proofs.replay.carry_on.Goals as goal

pub returns-clause-back : goal.returns-clause-back
returns-clause-back c = record {
  back = c.in_ok-done.back;
  last = c.push_reserved.ensures.items ∙ ap (λ xs. xs ++ c.in_ok-done.back ∷ []) c.make_way.ensures.same;
  way = c.in_ok-done.ensures.back;
}
