-- A map from IDs to the first line of each (private calls only).
use Rattle.std.specs.Prelude.{◌≡◌, ℕ, ◌==◌, Bool, false, List, option_map, find}
use Rattle.std.specs.Option.{option_map_or}
use Rattle.std.specs.BTreeMap.{BTreeMap, get}
use Rattle.std.specs.Ordering.{nat_cmp}
use Rattle.layer_model.specs.LayerIds.{id_place}
use Rattle.ann_reader.specs.Lines.{Line}
use Rattle.ann_reader.specs.LineForms.{head_field}
use Rattle.mark_base.specs.ReadIds.{id_read}

-- the first field of the line is the ID of this place
abbrev pub is_headed_at : ℕ → Line → Bool
is_headed_at place line = option_map_or (λ id. place == id_place id) (id_read (head_field line.bytes)) false

-- a map from the place of each ID to the number of its first line
abbrev pub FindsHeads : List Line → BTreeMap ℕ ℕ → Type 0
FindsHeads lines heads = (place : ℕ) → get nat_cmp heads place ≡ option_map (λ line. line.number) (find (is_headed_at place) lines)
