-- Declared names with a map that finds their places (private calls only).
use Rattle.std.specs.Prelude.{◌≡◌, ℕ, Bool, not, List, Option, bytes_eq, filter}
use Rattle.std.specs.List.{position_from}
use Rattle.std.specs.BTreeMap.{BTreeMap, get_by}
use Rattle.std.specs.Ordering.{nat_cmp}
use Rattle.std.specs.Cmp.Lexicographic.{slice_cmp}
use Rattle.annotation_conf.specs.declared.known_names.DeclaredName.{DeclaredName}
use Rattle.conf_model.specs.ConfFaults.{Declared, stood_before}
use Rattle.annotation_conf.specs.FirstFaults.{IsRising}
use denote.Ref.{Bor}

-- a declared name
abbrev pub seen_declared : DeclaredName → Declared
seen_declared one = record { number = one.number; name = one.name.now }

-- a line declares this name
abbrev pub is_called : List ℕ → Declared → Bool
is_called name one = bytes_eq one.name name

-- the place of the first line that declares a name
abbrev pub place_among : List Declared → List ℕ → Option ℕ
place_among declared name = position_from (is_called name) 0 declared

-- a map from each name to its place
abbrev pub FindsPlaces : List Declared → BTreeMap (Bor (List ℕ)) ℕ → Type 0
FindsPlaces declared places = (name : List ℕ) → get_by (λ key. slice_cmp nat_cmp name key.now) places ≡ place_among declared name

-- the numbers ascend, and the map finds the places
pub record AreKnown (declared : List Declared) (places : BTreeMap (Bor (List ℕ)) ℕ) : Type 0 where
  pub rising : IsRising (λ (one : Declared). one.number) 1 declared
  pub finds : FindsPlaces declared places

-- the first line of each name
abbrev pub firsts_among : List Declared → List Declared
firsts_among declared = filter (λ one. not (stood_before one.number one.name declared)) declared
