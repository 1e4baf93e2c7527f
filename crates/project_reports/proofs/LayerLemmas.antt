-- The layers of a project's snapshots keep themselves whole, and its documents have a row for each annotator.
use Rattle.std.proofs.Common.{◌≡◌, ℕ, List, get_or, map, length}
use Rattle.std.specs.List.{All, zip}
use Rattle.std.proofs.lemmas.Slice.Zip.{firsts-zip}
use Rattle.conf_model.specs.Configurations.{Configuration}
use Rattle.layer_model.specs.Annotations.{Annotations}
use Rattle.layer_model.specs.Coherent.{IsCoherent}
use Rattle.layer_model.specs.Layers.{IsLayer}
use Rattle.layer_rules.specs.WellFormed.{IsWellFormed}
use Rattle.unanimous_merge.specs.Rows.{AreCoherent}
use Rattle.project_machine.specs.Legal.{IsKept}
use Rattle.project_machine.specs.ProjectState.{Document, ProjectState, Row, Snapshot, annotators, text_of}

-- each layer of each snapshot keeps itself whole
pub coherent : ((conf : Configuration) (characters : ℕ) (layer : Annotations) → IsLayer layer → IsWellFormed conf characters layer → IsCoherent layer)
    → (s : ProjectState) → IsKept s → All (λ (shot : Snapshot). AreCoherent shot.holders) s.snapshots
coherent law s kept = λ i shot h j held g.
    let obeys = (kept.snapshots i shot h).layers j held g in
    law s.conf (length (text_of s (get_or s.snapshots i shot))) (get_or (get_or s.snapshots i shot).holders j held).1 obeys.typed.kept obeys.obeys.well_formed

-- each document has a row for every annotator
pub rows_for_all : (s : ProjectState) → IsKept s → All (λ (d : Document). map (λ (placed : List ℕ × Row). placed.0) (zip (annotators s) d.rows) ≡ annotators s) s.documents
rows_for_all s kept = λ i d h. firsts-zip (annotators s) (get_or s.documents i d).rows (kept.documents i d h).rows_are
