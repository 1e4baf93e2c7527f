use Rattle.std.proofs.Common.{[], ◌∷◌, refl, ◌∙◌, ap}
use Rattle.layer_undo.specs.Replays.{next, replay_from}
use Rattle.layer_undo.proofs.worked_rows.examples_of_replays.Goals as goal

pub returns-clause-none : goal.returns-clause-none
returns-clause-none c = λ conf characters base. refl

pub returns-clause-both : goal.returns-clause-both
returns-clause-both c =
    λ conf characters base a b first second made more.
    ap (λ r. next 0 r (λ layer. replay_from conf characters 1 layer (b ∷ []))) made ∙ ap (λ r. next 1 r (λ layer. replay_from conf characters 2 layer [])) more

pub returns-clause-at_first : goal.returns-clause-at_first
returns-clause-at_first c =
    λ conf characters base a b rule refused. ap (λ r. next 0 r (λ layer. replay_from conf characters 1 layer (b ∷ []))) refused

pub returns-clause-at_second : goal.returns-clause-at_second
returns-clause-at_second c =
    λ conf characters base a b first rule made refused.
    ap (λ r. next 0 r (λ layer. replay_from conf characters 1 layer (b ∷ []))) made ∙ ap (λ r. next 1 r (λ layer. replay_from conf characters 2 layer [])) refused

pub returns-clause-undone_from_its_end : goal.returns-clause-undone_from_its_end
returns-clause-undone_from_its_end c = λ conf characters base d e f. refl
