-- What the lines of annotation.conf declare: types, relation types, attributes, overlaps and macros.
use Rattle.std.specs.Prelude.{ℕ, ◌==◌, ◌||◌, Bool, true, false, not, List, [], ◌∷◌, ◌++◌, drop, slice_index, Option, Some, None, option_map, bytes_eq, codes, encode_utf8_all, if◌then◌else◌, filter, filter_map, find}
use Rattle.std.specs.Char.{is_whitespace}
use Rattle.std.specs.Str.{skip_leading_whitespace}
use Rattle.std.specs.Option.{option_or, option_map_or}
use Rattle.std.specs.List.{before_first, position_or_len}
use Rattle.conf_model.specs.ConfLines.{Section, Entities, Relations, Events, Attributes, Place, Within, Kind, Macro, Content, Line, file_lines}
use Rattle.conf_model.specs.ConfPairs.{Alternative, Named, Held, Piece, alternatives_of, pieces_of}

-- the same section
abbrev pub is_section : Section → Section → Bool
is_section Entities Entities = true
is_section Relations Relations = true
is_section Events Events = true
is_section Attributes Attributes = true
is_section _ _ = false

-- the line of a type: how many TABs stand before it, whether it begins with a space, whether other white space stands before its name, whether annotations may have it, its name, and what follows
pub record TypeLine : Type 0 where
  pub number : ℕ
  pub depth : ℕ
  pub spaced : Bool
  pub gapped : Bool
  pub usable : Bool
  pub name : List ℕ
  pub pieces : List Piece

-- any other line that declares something: its name, and what follows
pub record NamedLine : Type 0 where
  pub number : ℕ
  pub name : List ℕ
  pub pieces : List Piece

-- what a list of alternatives holds: the built-in macros by their sorts, and types and relation types by their names
pub record Holding : Type 0 where
  pub entity : Bool
  pub event : Bool
  pub any : Bool
  pub relation : Bool
  pub names : List (List ℕ)

-- a macro: its line, its name, its alternatives and what they hold
pub record MacroLine : Type 0 where
  pub number : ℕ
  pub name : List ℕ
  pub alternatives : List Alternative
  pub holding : Holding

-- a type line by its characters: TABs, `!` where annotations may not have the type, a name, and what follows; other white space behind the TABs is passed over
abbrev pub type_line : ℕ → List ℕ → TypeLine
type_line number cs =
    let depth = position_or_len (λ c. not (c == 9)) cs in
    let indented = drop depth cs in
    let body = skip_leading_whitespace indented in
    let named = if slice_index body 0 == 33 then drop 1 body else body in
    record {
      number = number;
      depth = depth;
      spaced = slice_index cs 0 == 32;
      gapped = is_whitespace (slice_index indented 0);
      usable = not (slice_index body 0 == 33);
      name = encode_utf8_all (before_first is_whitespace named);
      pieces = pieces_of (drop (position_or_len is_whitespace named) named);
    }

-- a line by its characters: a name up to white space, and what follows
abbrev pub named_line : ℕ → List ℕ → NamedLine
named_line number cs =
    record { number = number; name = encode_utf8_all (before_first is_whitespace cs); pieces = pieces_of (drop (position_or_len is_whitespace cs) cs) }

-- the lines of a section, read by a function of number and characters
abbrev pub content_of : {X : Type 0} → Section → (ℕ → List ℕ → X) → ℕ → Place → Kind → Option X
content_of section read number (Within here) (Content cs) = if is_section section here then Some (read number cs) else None
content_of section read number _ _ = None

-- the content lines of a section, in their order, each read by a function of its number and characters
abbrev pub section_lines : {X : Type 0} → Section → (ℕ → List ℕ → X) → List Line → List X
section_lines section read lines = filter_map (λ line. content_of section read line.number line.place line.kind) lines

-- a line of `[relations]` that speaks of overlaps
abbrev pub is_overlap : NamedLine → Bool
is_overlap line = bytes_eq line.name (codes "<OVERLAP>")

-- nothing
abbrev pub none_held : Holding
none_held = record { entity = false; event = false; any = false; relation = false; names = [] }

-- what a built-in macro holds
abbrev pub built_in : List ℕ → Option Holding
built_in name =
    if bytes_eq name (codes "ENTITY") then Some (record { entity = true; event = false; any = false; relation = false; names = [] })
    else if bytes_eq name (codes "EVENT") then Some (record { entity = false; event = true; any = false; relation = false; names = [] })
    else if bytes_eq name (codes "ANY") then Some (record { entity = false; event = false; any = true; relation = false; names = [] })
    else if bytes_eq name (codes "RELATION") then Some (record { entity = false; event = false; any = false; relation = true; names = [] })
    else None

-- what a macro of this name holds: a built-in one, else the first that is defined
abbrev pub macro_named : List MacroLine → List ℕ → Option Holding
macro_named macros name = option_or (built_in name) (option_map (λ macro. macro.holding) (find (λ macro. bytes_eq macro.name name) macros))

-- what one or the other holds
abbrev pub both_held : Holding → Holding → Holding
both_held a b = record {
  entity = a.entity || b.entity;
  event = a.event || b.event;
  any = a.any || b.any;
  relation = a.relation || b.relation;
  names = a.names ++ b.names;
}

-- what an alternative holds
abbrev pub one_held : List MacroLine → Alternative → Holding
one_held macros (Named name) = record { entity = false; event = false; any = false; relation = false; names = name ∷ [] }
one_held macros (Held name) = option_map_or (λ holding. holding) (macro_named macros name) none_held

-- what alternatives hold, where these macros are defined
abbrev pub all_held : List MacroLine → List Alternative → Holding
all_held macros [] = none_held
all_held macros (one ∷ more) = both_held (one_held macros one) (all_held macros more)

-- the macro of a line, where it defines one, whatever its section
abbrev pub macro_at : List MacroLine → ℕ → Place → Kind → List MacroLine
macro_at before number place (Macro name cs) =
    let alternatives = alternatives_of cs in
    record { number = number; name = name; alternatives = alternatives; holding = all_held before alternatives } ∷ []
macro_at before number place _ = []

-- the macros of lines, behind the macros before them
abbrev pub macros_from : List MacroLine → List Line → List MacroLine
macros_from before [] = before
macros_from before (line ∷ more) = macros_from (before ++ macro_at before line.number line.place line.kind) more

-- a file by what its lines declare
pub record File : Type 0 where
  pub lines : List Line
  pub entities : List TypeLine
  pub events : List TypeLine
  pub relations : List NamedLine
  pub overlaps : List NamedLine
  pub attributes : List NamedLine
  pub macros : List MacroLine

-- what lines declare
abbrev pub file_of_lines : List Line → File
file_of_lines lines =
    let of_relations = section_lines Relations (λ number cs. named_line number (skip_leading_whitespace cs)) lines in
    record {
      lines = lines;
      entities = section_lines Entities type_line lines;
      events = section_lines Events type_line lines;
      relations = filter (λ line. not (is_overlap line)) of_relations;
      overlaps = filter is_overlap of_relations;
      attributes = section_lines Attributes named_line lines;
      macros = macros_from [] lines;
    }

-- what the bytes of a file declare
unfoldable pub file_of : List ℕ → File
file_of bytes = file_of_lines (file_lines bytes)
