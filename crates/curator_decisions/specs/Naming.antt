-- What items name, by the places of contents in one table (private calls).
use Rattle.std.specs.Prelude.{ℕ, ◌==◌, ◌&&◌, Bool, false, not, List, [], ◌++◌, map, filter_map, slice_get, Option, find, slice_index_or}
use Rattle.std.specs.List.{list_any}
use Rattle.std.specs.Option.{option_map_or}
use Rattle.std.specs.Ordering.{nat_cmp}
use Rattle.std.specs.BTreeMap.{BTreeMap, get}
use Rattle.mark_base.specs.declared.ann_id.AnnId.{AnnId}
use Rattle.layer_model.specs.Annotations.{Annotations}
use Rattle.layer_model.specs.Classes.{rank}
use Rattle.content_keys.specs.LayerContents.{node_of}
use Rattle.unanimous_merge.specs.declared.entry.Entry.{Entry}
use Rattle.curator_decisions.specs.Decisions.{Decided, item_rank}
use Rattle.curator_decisions.specs.Placing.{is_in_at}
use Rattle.unanimous_merge.specs.declared.item.ItemId.{ItemId}

-- the IDs that the annotation of an ID names
abbrev pub ids_named : Annotations → AnnId → List AnnId
ids_named layer id = option_map_or (λ node. node.named ++ map (λ link. link.1) node.bag) (node_of layer id) []

-- the places of IDs, where `places` has them by their ranks
abbrev pub places_of_ids : BTreeMap ℕ ℕ → List AnnId → List ℕ
places_of_ids places ids = filter_map (λ id. get nat_cmp places (rank id)) ids

-- the places that an item names, by the places of its holder's layer
abbrev pub named_at : List (List ℕ × Annotations) → List (BTreeMap ℕ ℕ) → Entry → List ℕ
named_at rows all entry = option_map_or (λ row. option_map_or (λ places. places_of_ids places (ids_named row.1 entry.item.id)) (slice_get all entry.item.holder) []) (slice_get rows entry.item.holder) []

-- one of these is the place
abbrev pub has_place : List ℕ → ℕ → Bool
has_place places place = list_any (λ one. one == place) places

-- the annotation that gives an item its name
abbrev pub entry_as : List Entry → ItemId → Option Entry
entry_as entries item = find (λ entry. item_rank entry.item == item_rank item) entries

-- the first of these whose place is named, and that is not in
abbrev pub missing_at : List (List Bool) → Decided → List Entry → List ℕ → Option Entry
missing_at marks decided entries named = find (λ other. has_place named other.place && not (is_in_at marks decided other)) entries

-- the first of these that is in and names the place
abbrev pub dependent_at : (Entry → List ℕ) → List (List Bool) → Decided → List Entry → ℕ → Option Entry
dependent_at names marks decided entries place = find (λ other. is_in_at marks decided other && has_place (names other) place) entries

-- one of these is in and names the place
abbrev pub is_needed_at : (Entry → List ℕ) → List (List Bool) → Decided → List Entry → ℕ → Bool
is_needed_at names marks decided entries place = list_any (λ held. is_in_at marks decided held && has_place (names held) place) entries

-- the first of these that is not in, and whose place is flagged
abbrev pub lacked_at : List Bool → List (List Bool) → Decided → List Entry → Option Entry
lacked_at flags marks decided entries = find (λ other. not (is_in_at marks decided other) && slice_index_or flags other.place false) entries
