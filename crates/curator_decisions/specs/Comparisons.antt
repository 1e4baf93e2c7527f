-- What is kept of a snapshot for all that is decided on it.
use Rattle.std.specs.Prelude.{◌≡◌, ℕ, List, map}
use Rattle.layer_model.specs.Annotations.{Annotations}
use Rattle.unanimous_merge.specs.Merges.{IsMerged}
use Rattle.curator_decisions.specs.declared.comparison.Comparison.{Comparison}
use Rattle.curator_decisions.specs.Naming.{named_at}
use Rattle.curator_decisions.specs.Placing.{AreNames}

-- its contents are compared, each annotation of each layer is called by the place of its content, and it is listed what
-- each item names
pub record IsComparison (comparison : Comparison) (snapshot : List (List ℕ × Annotations)) : Type 0 where
  pub merged : IsMerged comparison.merged snapshot
  pub places : AreNames (λ at. at) comparison.merged.rows.items comparison.places.items
  pub names : map (λ of. of.items) comparison.names.items ≡ map (named_at snapshot comparison.places.items) comparison.merged.firsts.items
