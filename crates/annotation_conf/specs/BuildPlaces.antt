-- The places of the types and relation types that alternatives hold (private calls only).
use Rattle.std.specs.Prelude.{◌≡◌, ℕ, ◌≤◌, false, List, [], ◌∷◌, Option, length, take, map, bytes_eq}
use Rattle.std.specs.List.{position_from}
use Rattle.std.specs.Option.{option_map_or}
use Rattle.std.specs.Ordering.{nat_cmp}
use Rattle.std.specs.BTreeSet.{insert_key}
use Rattle.annotation_conf.specs.declared.build_places.Table.{Table}
use Rattle.annotation_conf.specs.declared.build_places.Table.TheVariants.{Types, Relations}
use Rattle.conf_model.specs.ConfPairs.{Alternative}
use Rattle.conf_model.specs.ConfNames.{File, Holding}
use Rattle.conf_model.specs.ConfFaults.{names_of, bound_names, of_named, firsts, stands_twice}
use Rattle.conf_model.specs.ConfOf.{places_of}
use Rattle.annotation_conf.specs.KnownFiles.{held_by}

-- the names of a table: of types, or of relation types
abbrev pub names_in : File → Table → List (List ℕ)
names_in file Types = names_of (bound_names file)
names_in file Relations = names_of (of_named (firsts file.relations))

-- the place of the first of some names that is this one
abbrev pub place_in : List (List ℕ) → List ℕ → Option ℕ
place_in names name = position_from (λ one. bytes_eq one name) 0 names

-- the names of a table differ, and are at most 256
pub record IsTable (names : List (List ℕ)) : Type 0 where
  pub differ : stands_twice names ≡ false
  pub few : length names ≤ 256

-- the tables of a file
pub record AreTables (file : File) : Type 0 where
  pub types : IsTable (names_of (bound_names file))
  pub relations : IsTable (names_of (of_named (firsts file.relations)))

-- the places of what is held
abbrev pub places_held : File → Table → Holding → List ℕ
places_held file table holding = places_of holding.names (names_in file table)

-- the places of the first macros
abbrev pub AreFirstPlaces : File → Table → List (List ℕ) → Type 0
AreFirstPlaces file table lists = lists ≡ map (λ macro. places_held file table macro.holding) (take (length lists) file.macros)

-- the places that an alternative holds, where it names a type or one of the first so many macros
abbrev pub places_by : File → Table → ℕ → Alternative → List ℕ
places_by file table count one = option_map_or (places_held file table) (held_by (take count file.macros) one) []

-- places put into an ordered list without repetition
abbrev pub inserted : List ℕ → List ℕ → List ℕ
inserted keys [] = keys
inserted keys (place ∷ places) = inserted (insert_key nat_cmp keys place) places

-- a file without fault, with the places that its macros hold
pub record AreResolved (file : File) (types relations : List (List ℕ)) : Type 0 where
  pub tables : AreTables file
  pub types_held : types ≡ map (λ macro. places_held file Types macro.holding) file.macros
  pub relations_held : relations ≡ map (λ macro. places_held file Relations macro.holding) file.macros
