-- The items of a snapshot as CSV (RFC 4180), each with its line in its holder's .ann file.
use Rattle.std.specs.Prelude.{ℕ, List, [], ◌∷◌, ◌++◌, length, map, flat_map, get_or, codes, All}
use Rattle.csv.specs.Writing.{default_writer, row_text}
use Rattle.conf_model.specs.Configurations.{Configuration}
use Rattle.layer_model.specs.Annotations.{Annotations}
use Rattle.layer_rules.specs.CarriedByRule.{id_text}
use Rattle.layer_rules.specs.WellFormed.{IsWellFormed}
use Rattle.ann_writer.specs.AnnOf.{ann_of}
use Rattle.unanimous_merge.specs.declared.item.ItemId.{ItemId}
use Rattle.unanimous_merge.specs.Items.{items}
use Rattle.unanimous_merge.specs.Rows.{AreCoherent}
use Rattle.curator_decisions.specs.Decisions.{Decided}
use Rattle.items_report.specs.ItemRows.{behind_id, item_fields, lines_of}

-- a record as CSV: commas between fields, quotes only where a field needs them, LF at the end
abbrev pub row : List (List ℕ) → List ℕ
row fields = row_text default_writer fields

-- the names of the fields
abbrev pub items_header : List (List ℕ)
items_header = codes "item" ∷ codes "line" ∷ codes "holders" ∷ codes "state" ∷ []

-- the names of the holders
abbrev pub names_of : List (List ℕ × Annotations) → List (List ℕ)
names_of holders = map (λ held. held.0) holders

-- the .ann files of the holders' layers
abbrev pub files_of : Configuration → List ℕ → List (List ℕ × Annotations) → List (List ℕ)
files_of conf text holders = map (λ held. ann_of conf text held.1) holders

-- the line of an item in the file of its holder, without its ID
abbrev pub line_of_item : Configuration → List ℕ → List (List ℕ × Annotations) → ItemId → List ℕ
line_of_item conf text holders item = behind_id (id_text item.id) (get_or (map lines_of (files_of conf text holders)) item.holder [])

-- the table: a row for each item, by holder, then by ID
abbrev pub items_table : Configuration → List ℕ → List (List ℕ × Annotations) → Decided → List ℕ
items_table conf text holders decided =
    row items_header ++ flat_map (λ item. row (item_fields (names_of holders) (map lines_of (files_of conf text holders)) decided item)) (items holders)

-- holders whose layers are well-formed
pub record CanBeListed (conf : Configuration) (text : List ℕ) (holders : List (List ℕ × Annotations)) : Type 0 where
  pub coherent : AreCoherent holders
  pub layers : All (λ (held : List ℕ × Annotations). IsWellFormed conf (length text) held.1) holders
