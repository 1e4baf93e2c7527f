-- The layers of a snapshot by the places of their contents in one table (private calls, and the conditions of public ones).
use Rattle.std.specs.Prelude.{◌≡◌, ℕ, suc, ◌<◌, ◌==◌, not, Bool, false, cond, List, [], ◌∷◌, ◌++◌, map, filter, length, slice_index, slice_index_or, All}
use Rattle.std.specs.List.{list_all}
use Rattle.layer_model.specs.declared.class.Class.{Class}
use Rattle.layer_model.specs.Annotations.{Annotations}
use Rattle.layer_model.specs.Coherent.{IsCoherent}
use Rattle.content_keys.specs.declared.placed_layer.Placed.{Placed}
use Rattle.content_keys.specs.declared.placed_layer.PlacedLayer.{PlacedLayer}
use Rattle.content_keys.specs.LayerContents.{class_contents_of, contents_of}
use Rattle.content_keys.specs.Places.{contents_at}
use Rattle.unanimous_merge.specs.declared.entry.Entry.{Entry}
use Rattle.unanimous_merge.specs.declared.item.Item.{Item}
use Rattle.unanimous_merge.specs.Items.{Held, number_of_bits}

-- each layer of a snapshot keeps itself whole, as a well-formed layer does
abbrev pub AreCoherent : List (List ℕ × Annotations) → Type 0
AreCoherent rows = All (λ row. IsCoherent row.1) rows

-- places that a table has
abbrev pub AreWithin : List ℕ → List PlacedLayer → Type 0
AreWithin table rows = All (λ row. All (λ p. p.place < length table) row.marks.items × All (λ place. place < length table) row.classes.items) rows

-- rows have the layers of a snapshot by places in a table
pub record AreRows (table : List ℕ) (rows : List PlacedLayer) (snapshot : List (List ℕ × Annotations)) : Type 0 where
  pub marks : map (λ row. contents_at table row.marks.items) rows ≡ map (λ row. contents_of row.1) snapshot
  pub classes : map (λ row. map (slice_index table) row.classes.items) rows ≡ map (λ row. class_contents_of row.1) snapshot
  pub within : AreWithin table rows

-- which of the rows have a place
abbrev pub having : ℕ → List (List Bool) → List Bool
having place rows = map (λ row. slice_index_or row place false) rows

-- the annotations of a holder, by place
abbrev pub entries_by : ℕ → List Placed → List Entry
entries_by holder placed = map (λ p. record { item = record { holder = holder; id = p.id }; place = p.place }) placed

-- the annotations of all holders, by place
abbrev pub entries_from : ℕ → List (List Placed) → List Entry
entries_from holder [] = []
entries_from holder (placed ∷ others) = entries_by holder placed ++ entries_from (suc holder) others

-- an annotation of a holder, by its content
abbrev pub held_at : List ℕ → Entry → Held
held_at table entry = record { holder = entry.item.holder; id = entry.item.id; content = slice_index table entry.place }

-- the first of each place
abbrev pub firsts_at : List Entry → List Entry
firsts_at [] = []
firsts_at (entry ∷ others) = entry ∷ filter (λ other. not (other.place == entry.place)) (firsts_at others)

-- the item of an annotation, where `rows` tells which layer has which place
abbrev pub item_at : List (List Bool) → Entry → Item
item_at rows entry = record { id = entry.item; holders = number_of_bits (having entry.place rows) }

-- of classes those whose places pass a test
abbrev pub classes_at : (ℕ → Bool) → List Class → List ℕ → List Class
classes_at test [] places = []
classes_at test (class ∷ classes) [] = []
classes_at test (class ∷ classes) (place ∷ places) = cond (test place) (class ∷ classes_at test classes places) (classes_at test classes places)

-- each layer has a place, where `rows` tells which layer has which
abbrev pub each_has : List (List Bool) → ℕ → Bool
each_has rows place = list_all (λ one. one) (having place rows)
