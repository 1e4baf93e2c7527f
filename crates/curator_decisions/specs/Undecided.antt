-- What layers that obey a configuration give a curator before anything is decided.
use Rattle.std.specs.Prelude.{◌≡◌, ℕ, ◌<◌, List, [], length, None, All}
use Rattle.conf_model.specs.Configurations.{Configuration}
use Rattle.layer_model.specs.Annotations.{Annotations}
use Rattle.layer_model.specs.Layers.{IsLayer}
use Rattle.layer_rules.specs.WellFormed.{Obeys}
use Rattle.unanimous_merge.specs.Readings.{readings}
use Rattle.curator_decisions.specs.Curated.{curated}
use Rattle.curator_decisions.specs.DecisionFaults.{decision_fault}

-- their curated layer obeys it too
abbrev pub UndecidedLayersObey : Type 0
UndecidedLayersObey =
    (conf : Configuration) (characters : ℕ) (rows : List (List ℕ × Annotations)) → 0 < length rows → All (λ row. IsLayer row.1) rows → All (λ row. Obeys conf characters row.1) rows
    → Obeys conf characters (curated (readings rows) [])

-- no decisions at all are accepted
abbrev pub UndecidedLayersAreAccepted : Type 0
UndecidedLayersAreAccepted =
    (conf : Configuration) (characters : ℕ) (rows : List (List ℕ × Annotations)) → 0 < length rows → All (λ row. IsLayer row.1) rows → All (λ row. Obeys conf characters row.1) rows
    → decision_fault conf characters (readings rows) [] ≡ None
