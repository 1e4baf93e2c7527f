use Rattle.std.proofs.Common.{◌≡◌, ℕ, ◌<◌, false, [], get_or, bytes_eq}
use Rattle.layer_model.specs.Annotations.{no_marks}
use Rattle.project_steps.proofs.steps.shots.holder_of.Given as goal

abbrev pub invariant-loop-place : goal.invariant-loop-place
invariant-loop-place l = (k : ℕ) → k < l.place → bytes_eq (get_or l.taken.holders k ([], no_marks)).0 l.who ≡ false
