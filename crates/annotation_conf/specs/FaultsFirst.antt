-- The first fault of each list of a file by the values that are kept of it (private calls only).
use Rattle.std.specs.Prelude.{ℕ, ◌+◌, Bool, true, false, List, [], ◌∷◌, length, Option, Some, None, option_map, if◌then◌else◌}
use Rattle.std.specs.Option.{option_or}
use Rattle.std.specs.List.{list_any}
use Rattle.conf_model.specs.declared.conf_fault.ConfWhat.{ConfWhat}
use Rattle.conf_model.specs.declared.conf_fault.ConfWhat.TheVariants.{UnknownSection, SectionTwice, SectionMissing, OutsideSection}
use Rattle.annotation_conf.specs.declared.faults.LineFault.{LineFault}
use Rattle.annotation_conf.specs.declared.faults.Opened.{Opened}
use Rattle.annotation_conf.specs.declared.line.Section.{Section as SectionValue}
use Rattle.annotation_conf.specs.declared.line.Section.TheVariants.{Entities, Relations, Events, Attributes}
use Rattle.annotation_conf.specs.declared.line.What.{What}
use Rattle.annotation_conf.specs.declared.line.What.TheVariants.{Plain, Unknown, Opens, Outside}
use Rattle.annotation_conf.specs.declared.line.Line.{Line as LineValue}
use Rattle.annotation_conf.specs.declared.file.TypeLine.{TypeLine as TypeLineValue}
use Rattle.annotation_conf.specs.declared.file.MacroLine.{MacroLine as MacroLineValue}
use Rattle.conf_model.specs.ConfNames.{File}
use Rattle.conf_model.specs.ConfOf.{Fault}
use Rattle.annotation_conf.specs.FaultsTold.{type_told, macro_told}

-- a fault by its line
abbrev pub seen_fault : LineFault → Fault
seen_fault fault = record { line = fault.line; what = fault.what }

-- the fault of a line of this number
abbrev pub fault_on : ℕ → Option ConfWhat → Option Fault
fault_on number told = option_map (λ what. record { line = number; what = what }) told

-- the first fault of lines of entity types behind one of this depth
abbrev pub first_entity_told : File → Option ℕ → List TypeLineValue → Option Fault
first_entity_told file before [] = None
first_entity_told file before (line ∷ lines) =
    option_or (fault_on line.number (type_told file before [] false line)) (first_entity_told file (Some line.depth) lines)

-- the first fault of lines of event types behind one of this depth
abbrev pub first_event_told : File → Option ℕ → List TypeLineValue → Option Fault
first_event_told file before [] = None
first_event_told file before (line ∷ lines) =
    option_or (fault_on line.number (type_told file before line.pieces.pairs.items line.pieces.shapeless line)) (first_event_told file (Some line.depth) lines)

-- the first fault of macros behind so many others
abbrev pub first_macro_told : File → ℕ → List MacroLineValue → Option Fault
first_macro_told file count [] = None
first_macro_told file count (line ∷ lines) = option_or (fault_on line.number (macro_told file count line)) (first_macro_told file (count + 1) lines)

-- a section is open
abbrev pub is_open : Opened → SectionValue → Bool
is_open opened Entities = opened.entities
is_open opened Relations = opened.relations
is_open opened Events = opened.events
is_open opened Attributes = opened.attributes

-- a section is opened
abbrev pub open_too : Opened → SectionValue → Opened
open_too opened Entities = record { entities = true; relations = opened.relations; events = opened.events; attributes = opened.attributes }
open_too opened Relations = record { entities = opened.entities; relations = true; events = opened.events; attributes = opened.attributes }
open_too opened Events = record { entities = opened.entities; relations = opened.relations; events = true; attributes = opened.attributes }
open_too opened Attributes = record { entities = opened.entities; relations = opened.relations; events = opened.events; attributes = true }

-- the sections that are open behind a line
abbrev pub open_behind : Opened → What → Opened
open_behind opened Plain = opened
open_behind opened Unknown = opened
open_behind opened (Opens section) = open_too opened section
open_behind opened Outside = opened

-- the fault of a section line, or of a line before the first section
abbrev pub bare_told : Opened → What → Option ConfWhat
bare_told opened Plain = None
bare_told opened Unknown = Some UnknownSection
bare_told opened (Opens section) = if is_open opened section then Some SectionTwice else None
bare_told opened Outside = Some OutsideSection

-- the first such fault of lines behind these sections
abbrev pub first_bare_told : Opened → List LineValue → Option Fault
first_bare_told opened [] = None
first_bare_told opened (line ∷ lines) = option_or (fault_on line.number (bare_told opened line.what)) (first_bare_told (open_behind opened line.what) lines)

-- no section
abbrev pub none_open : Opened
none_open = record { entities = false; relations = false; events = false; attributes = false }

-- a line opens `[entities]`
abbrev pub opens_entities : What → Bool
opens_entities Plain = false
opens_entities Unknown = false
opens_entities (Opens Entities) = true
opens_entities (Opens Relations) = false
opens_entities (Opens Events) = false
opens_entities (Opens Attributes) = false
opens_entities Outside = false

-- the fault of lines of which none opens `[entities]`
abbrev pub missing_told : List LineValue → Option Fault
missing_told lines = if list_any (λ line. opens_entities line.what) lines then None else Some (record { line = length lines + 1; what = SectionMissing })
