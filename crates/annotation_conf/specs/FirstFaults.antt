-- The first fault of a file by its lists: the soonest of the first faults among its section lines, its macros and the lines of each section (private calls only).
use Rattle.std.specs.Prelude.{ℕ, ◌+◌, ◌≤◌, false, List, [], ◌∷◌, nat_lt, Option, Some, None, option_map, if◌then◌else◌, ⊤}
use Rattle.std.specs.Option.{option_or}
use Rattle.std.specs.List.{list_any}
use Rattle.conf_model.specs.declared.conf_fault.ConfWhat.{ConfWhat}
use Rattle.conf_model.specs.declared.conf_fault.ConfWhat.TheVariants.{UnknownSection, SectionTwice, OutsideSection}
use Rattle.conf_model.specs.ConfLines.{Place, Before, Nowhere, Within, Kind, Skipped, Header, Macro, Content, Line}
use Rattle.conf_model.specs.ConfNames.{TypeLine, NamedLine, MacroLine, File}
use Rattle.conf_model.specs.ConfFaults.{pairs_of, is_shapeless, type_fault, relation_fault, overlap_fault, attribute_fault, macro_fault, opened_before}
use Rattle.conf_model.specs.ConfOf.{Fault}

-- the first fault among things that stand on lines
abbrev pub first_among : {X : Type 0} → (X → ℕ) → (X → Option ConfWhat) → List X → Option Fault
first_among number_of fault [] = None
first_among number_of fault (x ∷ xs) =
    option_or (option_map (λ what. record { line = number_of x; what = what }) (fault x)) (first_among number_of fault xs)

-- of two faults the one of the earlier line
abbrev pub sooner : Option Fault → Option Fault → Option Fault
sooner None b = b
sooner (Some a) None = Some a
sooner (Some a) (Some b) = if nat_lt b.line a.line then Some b else Some a

-- the fault of a section line, or of a line before the first section
abbrev pub bare_at : File → ℕ → Place → Kind → Option ConfWhat
bare_at file number place Skipped = None
bare_at file number place (Header None) = Some UnknownSection
bare_at file number place (Header (Some section)) = if opened_before file number section then Some SectionTwice else None
bare_at file number place (Macro name cs) = None
bare_at file number Before (Content cs) = Some OutsideSection
bare_at file number Nowhere (Content cs) = None
bare_at file number (Within section) (Content cs) = None

-- the same of a line
abbrev pub bare_fault : File → Line → Option ConfWhat
bare_fault file line = bare_at file line.number line.place line.kind

-- the fault of the line of an event type
abbrev pub event_fault : File → TypeLine → Option ConfWhat
event_fault file line = type_fault file file.events (pairs_of line.pieces) (list_any is_shapeless line.pieces) line

-- the fault of the line of a macro
abbrev pub macro_line_fault : File → MacroLine → Option ConfWhat
macro_line_fault file macro = macro_fault file macro.number macro.name macro.alternatives

-- the first fault of a file, list by list
unfoldable pub soonest_fault : File → Option Fault
soonest_fault file =
    sooner (first_among (λ line. line.number) (bare_fault file) file.lines)
    (sooner (first_among (λ line. line.number) (macro_line_fault file) file.macros)
    (sooner (first_among (λ line. line.number) (type_fault file file.entities [] false) file.entities)
    (sooner (first_among (λ line. line.number) (event_fault file) file.events)
    (sooner (first_among (λ line. line.number) (relation_fault file) file.relations)
    (sooner (first_among (λ line. line.number) (overlap_fault file) file.overlaps)
    (first_among (λ line. line.number) (attribute_fault file) file.attributes))))))

-- numbers ascend strictly, from this number on
abbrev pub IsRising : {X : Type 0} → (X → ℕ) → ℕ → List X → Type 0
IsRising number_of least [] = ⊤
IsRising number_of least (x ∷ xs) = (least ≤ number_of x) × IsRising number_of (number_of x + 1) xs

-- each list of a file is in the order of its lines
pub record IsInOrder (file : File) : Type 0 where
  pub lines : IsRising (λ (line : Line). line.number) 1 file.lines
  pub entities : IsRising (λ (line : TypeLine). line.number) 1 file.entities
  pub events : IsRising (λ (line : TypeLine). line.number) 1 file.events
  pub relations : IsRising (λ (line : NamedLine). line.number) 1 file.relations
  pub overlaps : IsRising (λ (line : NamedLine). line.number) 1 file.overlaps
  pub attributes : IsRising (λ (line : NamedLine). line.number) 1 file.attributes
  pub macros : IsRising (λ (line : MacroLine). line.number) 1 file.macros
