use Rattle.std.proofs.Common.{◌≡◌, ℕ, List, None, option_map, slice_get, sym, ◌∙◌, ap, subst}
use Rattle.layer_model.specs.Annotations.{Annotations}
use Rattle.project_machine.specs.ProjectState.{Snapshot, snapshot}
use Rattle.project_state.proofs.StoredLemmas.{holder_missing}
use Rattle.project_state.proofs.entries.snapshots.holder_name.Goals as goal

pub returns-in-None : goal.returns-in-None
returns-in-None c =
    let shot = snapshot c.args.state.now.state c.args.number in
    let same : c.layers.result.now ≡ shot.holders = c.layers.ensures ∙ ap (λ (s : Snapshot). s.holders) c.in-Some.ensures.here in
    sym (holder_missing shot c.args.holder (subst (λ (l : List (List ℕ × Annotations)). None ≡ option_map (λ (row : List ℕ × Annotations). row.0) (slice_get l c.args.holder)) same c.in-None.ensures))
