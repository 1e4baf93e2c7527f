-- The curated layer by the places of contents in one table (private calls).
use Rattle.std.specs.Prelude.{◌≡◌, ⊤, true, false, nat_lt, ℕ, ◌+◌, ◌==◌, Bool, if◌then◌else◌, List, [], ◌∷◌, ◌++◌, count_by, Option, Some, None, option_map, option_and_then, slice_get, unwrap_or}
use Rattle.std.specs.Ordering.{nat_cmp}
use Rattle.std.specs.List.Sorted.{IsPartitionPoint}
use Rattle.std.specs.BTreeMap.{BTreeMap, get}
use Rattle.mark_base.specs.declared.ann_id.AnnId.{AnnId}
use Rattle.mark_base.specs.declared.ann_id.Kind.{Kind}
use Rattle.mark_base.specs.ReadIds.{id_at}
use Rattle.layer_model.specs.declared.class.Class.{Class}
use Rattle.layer_model.specs.declared.mark.Mark.{Mark}
use Rattle.layer_model.specs.Annotations.{Annotations}
use Rattle.layer_model.specs.Classes.{letter_place, rank}
use Rattle.layer_model.specs.Layers.{mark_at}
use Rattle.content_keys.specs.declared.placed_layer.Placed.{Placed}
use Rattle.content_keys.specs.declared.placed_layer.PlacedLayer.{PlacedLayer}
use Rattle.unanimous_merge.specs.declared.entry.Entry.{Entry}
use Rattle.unanimous_merge.specs.Rows.{each_has}
use Rattle.curator_decisions.specs.declared.numbering.NumberedEntry.{NumberedEntry}
use Rattle.curator_decisions.specs.Decisions.{Decided, is_in_by, item_rank, verdict_on}
use Rattle.curator_decisions.specs.Curated.{all_new, curated_letter, renamed}

-- the item of an annotation is in, where `marks` tells which layer has which place
abbrev pub is_in_at : List (List Bool) → Decided → Entry → Bool
is_in_at marks decided entry = is_in_by (verdict_on entry.item decided) (each_has marks entry.place)

-- the decisions before an index come before a place among all items, and those from there on do not
abbrev pub IsEndBefore : Decided → ℕ → ℕ → Type 0
IsEndBefore decided sought at = IsPartitionPoint (λ one. nat_lt (item_rank one.0) sought ≡ true) (λ one. nat_lt (item_rank one.0) sought ≡ false) decided at

-- the letter of an item in a curated layer
abbrev pub letter_of_entry : Entry → Kind
letter_of_entry entry = curated_letter entry.item.id.kind

-- how many of these have the letter
abbrev pub count_of_entries : Kind → List Entry → ℕ
count_of_entries kind entries = count_by (λ entry. letter_place (letter_of_entry entry) == letter_place kind) entries

-- items numbered behind others
abbrev pub numbered_entries : List Entry → List Entry → List NumberedEntry
numbered_entries before [] = []
numbered_entries before (entry ∷ others) =
    record { entry = entry; id = id_at (letter_of_entry entry) (count_of_entries (letter_of_entry entry) before + 1) } ∷ numbered_entries (before ++ entry ∷ []) others

-- the ID of an item, at the place of its content
abbrev pub placed_id : NumberedEntry → Placed
placed_id one = record { id = one.id; place = one.entry.place }

-- what the annotation of a rank is called, where `new` tells what the contents of places are called
abbrev pub called : {T : Type 0} → (ℕ → T) → List Placed → ℕ → Option T
called new [] place = None
called new (one ∷ others) place = if rank one.id == place then Some (new one.place) else called new others place

-- the names of each layer
abbrev pub AreNames : {T : Type 0} → (ℕ → T) → List PlacedLayer → List (BTreeMap ℕ T) → Type 0
AreNames new [] [] = ⊤
AreNames new [] (names ∷ all) = ⊥
AreNames new (row ∷ rows) [] = ⊥
AreNames new (row ∷ rows) (names ∷ all) = ((place : ℕ) → get nat_cmp names place ≡ called new row.marks.items place) × AreNames new rows all

-- the new ID of an ID, where `names` has it by its rank
abbrev pub new_of : BTreeMap ℕ (Option AnnId) → AnnId → Option AnnId
new_of names id = option_and_then (λ new. new) (get nat_cmp names (rank id))

-- the new ID of an ID, which stays where there is none
abbrev pub rename_by : BTreeMap ℕ (Option AnnId) → AnnId → AnnId
rename_by names id = unwrap_or (new_of names id) id

-- the annotation of an item, by the names of its holder's layer
abbrev pub taken_at : List (List ℕ × Annotations) → List (BTreeMap ℕ (Option AnnId)) → NumberedEntry → Option (AnnId × Mark)
taken_at rows names one =
    option_and_then (λ row. option_and_then (λ of. option_map (λ mark. (one.id, renamed (rename_by of) mark)) (mark_at row.1 one.entry.item.id)) (slice_get names one.entry.item.holder)) (slice_get rows one.entry.item.holder)

-- a class with the new IDs, where all its members are in
abbrev pub class_at : BTreeMap ℕ (Option AnnId) → Class → Option Class
class_at names class = option_map (λ members. record { kind = class.kind; members = members }) (all_new (new_of names) class.members)

-- the place of the content of an ID of a holder's layer
abbrev pub place_in : List (BTreeMap ℕ ℕ) → ℕ → AnnId → Option ℕ
place_in places holder id = option_and_then (λ of. get nat_cmp of (rank id)) (slice_get places holder)

-- two places may be one: neither is missing where they are known to differ
abbrev pub may_be_one : Option ℕ → Option ℕ → Bool
may_be_one (Some place) (Some other) = place == other
may_be_one place other = true
