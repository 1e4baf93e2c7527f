-- The lines of an .ann file with a map that finds them (private calls only).
use Rattle.std.specs.Prelude.{◌≡◌, ℕ, List, []}
use Rattle.std.specs.Option.{option_map_or}
use Rattle.std.specs.BTreeMap.{BTreeMap, get_by}
use Rattle.std.specs.Ordering.{nat_cmp}
use Rattle.std.specs.Cmp.Lexicographic.{slice_cmp}
use Rattle.items_report.specs.ItemRows.{behind_id}
use denote.Ref.{Bor}

-- what a map has for an ID; nothing where it has none
abbrev pub found_behind : List ℕ → BTreeMap (Bor (List ℕ)) (Bor (List ℕ)) → List ℕ
found_behind id behind = option_map_or (λ rest. rest.now) (get_by (λ key. slice_cmp nat_cmp id key.now) behind) []

-- a map has what stands behind each ID in these lines
abbrev pub FindsLines : List (List ℕ) → BTreeMap (Bor (List ℕ)) (Bor (List ℕ)) → Type 0
FindsLines lines behind = (id : List ℕ) → found_behind id behind ≡ behind_id id lines
