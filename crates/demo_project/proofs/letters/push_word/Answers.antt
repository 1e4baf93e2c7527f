use Rattle.std.proofs.Common.{[], ◌∷◌, ◌++◌, ap, ◌∙◌}
use Rattle.demo_project.proofs.JoinedLemmas.{grown, grown_none}
use Rattle.demo_project.proofs.letters.push_word.Goals as goal

pub loop-place-init : goal.loop-place-init
loop-place-init c = grown_none _ _

pub loop-place-preserved : goal.loop-place-preserved
loop-place-preserved c =
    grown _ _ _ _ _ c.loop-place.invariant (c.in_ok-push.ensures.items ∙ ap (λ b. c.loop-place.text.items ++ b ∷ []) c.letter.ensures)
