-- What is known of a snapshot whose layers obey, once it is compared.
use Rattle.std.proofs.Common.{ℕ, ◌≤◌, List, All, length, arith}
use Rattle.conf_model.specs.Configurations.{Configuration}
use Rattle.layer_model.specs.Annotations.{Annotations}
use Rattle.layer_model.specs.Snapshots.{AreHolders}
use Rattle.layer_rules.specs.WellFormed.{Obeys}
use Rattle.curator_decisions.specs.declared.comparison.Comparison.{Comparison}
use Rattle.curator_decisions.specs.Comparisons.{IsComparison}
use Rattle.curator_decisions.specs.CuratedLaws.{AreFinished}

pub finished : (conf : Configuration) (characters : ℕ) (snapshot : List (List ℕ × Annotations)) (comparison : Comparison) → IsComparison comparison snapshot → AreHolders snapshot → All (λ row. Obeys conf characters row.1) snapshot → AreFinished conf characters snapshot
finished conf characters snapshot comparison is holders obey =
    let low : 2 ≤ length snapshot = holders.two in
    let high : length snapshot ≤ 16 = holders.few in
    record { some = omega arith; few = omega arith; layers = is.merged.layers; obey = obey }
