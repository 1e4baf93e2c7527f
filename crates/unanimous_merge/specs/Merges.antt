-- A snapshot with its contents compared: what the parts of the comparison are.
use Rattle.std.specs.Prelude.{◌≡◌, ◌==◌, ℕ, ◌<◌, map, length, slice_index, List, All}
use Rattle.std.specs.List.{list_any}
use Rattle.layer_model.specs.Annotations.{Annotations}
use Rattle.layer_model.specs.Layers.{IsLayer}
use Rattle.unanimous_merge.specs.declared.merged.Merged.{Merged}
use Rattle.unanimous_merge.specs.Items.{leaders}
use Rattle.unanimous_merge.specs.Readings.{readings}
use Rattle.unanimous_merge.specs.Rows.{AreRows, each_has, having, held_at}
use Rattle.unanimous_merge.specs.Unanimous.{in_each, unanimous_classes}

-- no content has two places; the rows are the layers, which keep what layers do; the firsts give the items their names; the flags tell which place
-- each layer has, and so which content all have; and the classes are the unanimous ones
pub record IsMerged (merged : Merged) (snapshot : List (List ℕ × Annotations)) : Type 0 where
  pub distinct : (i j : ℕ) → i < length merged.table → j < length merged.table → slice_index merged.table i ≡ slice_index merged.table j → i ≡ j
  pub rows : AreRows merged.table merged.rows.items snapshot
  pub layers : All (λ row. IsLayer row.1) snapshot
  pub firsts : map (held_at merged.table) merged.firsts.items ≡ leaders (readings snapshot)
  pub within : All (λ entry. entry.place < length merged.table) merged.firsts.items
  pub marks : (place : ℕ) → having place (map (λ row. row.items) merged.marks.items) ≡ map (λ row. list_any (λ p. p.place == place) row.marks.items) merged.rows.items
  pub unanimous : (place : ℕ) → place < length merged.table → each_has (map (λ row. row.items) merged.marks.items) place ≡ in_each (readings snapshot) (slice_index merged.table place)
  pub classes : merged.classes.items ≡ unanimous_classes (readings snapshot)
