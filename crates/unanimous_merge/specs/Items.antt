-- The items of a snapshot: each distinct content that stands in it, once (WebAnno user guide, "Curation").
use Rattle.std.specs.Prelude.{ℕ, suc, ◌+◌, ◌*◌, ◌==◌, Bool, not, cond, List, [], ◌∷◌, ◌++◌, map, filter}
use Rattle.std.specs.List.{list_any}
use Rattle.mark_base.specs.declared.ann_id.AnnId.{AnnId}
use Rattle.unanimous_merge.specs.declared.item.Item.{Item}
use Rattle.unanimous_merge.specs.declared.item.ItemId.{ItemId}
use Rattle.unanimous_merge.specs.Readings.{Reading, contents, readings}
use Rattle.layer_model.specs.Annotations.{Annotations}

-- an annotation of a holder, and its content
pub record Held : Type 0 where
  pub holder : ℕ
  pub id : AnnId
  pub content : ℕ

-- the annotations of one holder
abbrev pub held_by : ℕ → List (AnnId × ℕ) → List Held
held_by holder entries = map (λ entry. record { holder = holder; id = entry.0; content = entry.1 }) entries

-- the annotations of all holders, by holder, then by ID, where the first holder has this place
abbrev pub held_from : ℕ → List (List (AnnId × ℕ)) → List Held
held_from holder [] = []
held_from holder (entries ∷ others) = held_by holder entries ++ held_from (suc holder) others

-- the first of each content
abbrev pub firsts : List Held → List Held
firsts [] = []
firsts (held ∷ others) = held ∷ filter (λ other. not (other.content == held.content)) (firsts others)

-- the annotations that give the items of layers their names: of each content the one of the first holder, and there the
-- first
abbrev pub leaders : List Reading → List Held
leaders layers = firsts (held_from 0 (map contents layers))

-- the content stands in a layer
abbrev pub stands : ℕ → List (AnnId × ℕ) → Bool
stands content entries = list_any (λ entry. entry.1 == content) entries

-- a number by its bits, the lowest first
abbrev pub number_of_bits : List Bool → ℕ
number_of_bits [] = 0
number_of_bits (bit ∷ bits) = cond bit 1 0 + 2 * number_of_bits bits

-- who has a content, a bit for each holder, the lowest for the first
abbrev pub holders_among : List (List (AnnId × ℕ)) → ℕ → ℕ
holders_among layers content = number_of_bits (map (stands content) layers)

-- the name of an item
abbrev pub name_of : Held → ItemId
name_of held = record { holder = held.holder; id = held.id }

-- an item: its name, and who has its content
abbrev pub item_of : List Reading → Held → Item
item_of layers held = record { id = name_of held; holders = holders_among (map contents layers) held.content }

-- the items of layers, in their order
abbrev pub items_of : List Reading → List Item
items_of layers = map (item_of layers) (leaders layers)

-- the items of a snapshot
abbrev pub items : List (List ℕ × Annotations) → List Item
items rows = items_of (readings rows)
