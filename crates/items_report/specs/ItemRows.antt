-- A row for an item of a snapshot: its name, its line, who holds it, and whether it is in.
use Rattle.std.specs.Prelude.{ℕ, ◌+◌, ◌/◌, ◌%◌, ◌==◌, Bool, true, false, List, [], ◌∷◌, ◌++◌, length, take, drop, flat_map, codes, bytes_eq, get_or, Option, Some, None, if◌then◌else◌}
use Rattle.std.specs.List.{position_or_len, slice_split}
use Rattle.layer_rules.specs.CarriedByRule.{id_text}
use Rattle.unanimous_merge.specs.declared.item.Item.{Item}
use Rattle.unanimous_merge.specs.declared.item.ItemId.{ItemId}
use Rattle.curator_decisions.specs.declared.verdict.Verdict.{Verdict}
use Rattle.curator_decisions.specs.declared.verdict.Verdict.TheVariants.{Accept, Reject}
use Rattle.curator_decisions.specs.Decisions.{Decided, verdict_on}

-- ---- the line of an annotation

-- the lines of a file, and what stands behind the last of them
abbrev pub lines_of : List ℕ → List (List ℕ)
lines_of file = slice_split (λ byte. byte == 10) file

-- what stands before the first TAB of a line
abbrev pub id_in : List ℕ → List ℕ
id_in line = take (position_or_len (λ byte. byte == 9) line) line

-- what stands behind the first TAB of a line
abbrev pub rest_in : List ℕ → List ℕ
rest_in line = drop (position_or_len (λ byte. byte == 9) line + 1) line

-- what stands behind the ID in its line; nothing where no line begins with it
abbrev pub behind_id : List ℕ → List (List ℕ) → List ℕ
behind_id id [] = []
behind_id id (line ∷ lines) = if bytes_eq (id_in line) id then rest_in line else behind_id id lines

-- ---- who holds an item

-- the names whose bits are set, the lowest bit for the first name
abbrev pub names_among : List (List ℕ) → ℕ → List (List ℕ)
names_among [] bits = []
names_among (name ∷ names) bits = if bits % 2 == 1 then name ∷ names_among names (bits / 2) else names_among names (bits / 2)

-- names with one space between each two
abbrev pub spaced : List (List ℕ) → List ℕ
spaced [] = []
spaced (name ∷ names) = name ++ flat_map (λ other. codes " " ++ other) names

-- ---- the row

-- an item by its holder and its ID there: `ann/T1`
abbrev pub item_text : List (List ℕ) → ItemId → List ℕ
item_text names item = get_or names item.holder [] ++ (codes "/" ++ id_text item.id)

-- whether an item is in, by the verdict on it, and by whether all hold it
abbrev pub state_of : Option Verdict → Bool → List ℕ
state_of (Some Accept) all = codes "accepted"
state_of (Some Reject) all = codes "rejected"
state_of None true = codes "unanimous"
state_of None false = codes "undecided"

-- the fields of an item, by the holders' names and the lines of their files
abbrev pub item_fields : List (List ℕ) → List (List (List ℕ)) → Decided → Item → List (List ℕ)
item_fields names lines decided item =
    item_text names item.id
    ∷ behind_id (id_text item.id.id) (get_or lines item.id.holder [])
    ∷ spaced (names_among names item.holders)
    ∷ state_of (verdict_on item.id decided) (length (names_among names item.holders) == length names)
    ∷ []
