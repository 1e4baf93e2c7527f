-- What is known of a read file before its faults are looked for: the names that its lines declare, in the order of the lines (private calls only).
use Rattle.std.specs.Prelude.{◌≡◌, ℕ, ◌<◌, List, Option, Some, length, take, map, filter, slice_index_or}
use Rattle.annotation_conf.specs.declared.file.File.{File as FileValue}
use Rattle.annotation_conf.specs.declared.file.TypeLine.{TypeLine as TypeLineValue}
use Rattle.annotation_conf.specs.declared.file.NamedLine.{NamedLine as NamedLineValue}
use Rattle.annotation_conf.specs.declared.file.MacroLine.{MacroLine as MacroLineValue}
use Rattle.conf_model.specs.ConfPairs.{Alternative, Named, Held}
use Rattle.conf_model.specs.ConfNames.{File, MacroLine, Holding, all_held, one_held, macro_named}
use Rattle.conf_model.specs.ConfFaults.{Declared, of_types, of_named, firsts}
use Rattle.annotation_conf.specs.FirstFaults.{IsInOrder}
use Rattle.annotation_conf.specs.FileShows.{Shows}

-- what a type line declares
abbrev pub type_declared : TypeLineValue → Declared
type_declared line = record { number = line.number; name = line.name }

-- what another line declares
abbrev pub named_declared : NamedLineValue → Declared
named_declared line = record { number = line.number; name = line.name }

-- what the line of a macro declares
abbrev pub macro_declared : MacroLineValue → Declared
macro_declared line = record { number = line.number; name = line.name }

-- the names of macros by their lines
abbrev pub of_macros : List MacroLine → List Declared
of_macros macros = map (λ macro. record { number = macro.number; name = macro.name }) macros

-- each macro holds what its alternatives hold where the macros before it are defined
abbrev pub HoldInTurn : List MacroLine → Type 0
HoldInTurn macros = (i : ℕ) (macro : MacroLine) → i < length macros
    → (slice_index_or macros i macro).holding ≡ all_held (take i macros) (slice_index_or macros i macro).alternatives

-- the values show a file, whose lists are in the order of its lines
pub record IsKnown (values : FileValue) (file : File) : Type 0 where
  pub shows : Shows values file
  pub order : IsInOrder file
  pub held : HoldInTurn file.macros

-- the names that a file declares, list by list: of entity types, event types, usable ones of either, lines of relation types, relation types, attributes and macros
pub record NamesAre (file : File) (e v ue uv r t a m : List Declared) : Type 0 where
  pub entities : e ≡ of_types file.entities
  pub events : v ≡ of_types file.events
  pub usable_entities : ue ≡ of_types (filter (λ one. one.usable) file.entities)
  pub usable_events : uv ≡ of_types (filter (λ one. one.usable) file.events)
  pub relations : r ≡ of_named file.relations
  pub relation_types : t ≡ of_named (firsts file.relations)
  pub attributes : a ≡ of_named file.attributes
  pub macros : m ≡ of_macros file.macros

-- what an alternative holds, where it names a type or a macro that is defined
abbrev pub held_by : List MacroLine → Alternative → Option Holding
held_by macros (Named name) = Some (one_held macros (Named name))
held_by macros (Held name) = macro_named macros name
