-- How what is kept of a file grows, piece by piece and line by line (private calls only).
use Rattle.std.specs.Prelude.{ℕ, ◌||◌, ◌&&◌, Bool, false, bytes_eq, codes, if◌then◌else◌, List, [], ◌∷◌, ◌++◌, drop, encode_utf8_all, map}
use Rattle.std.specs.Str.{skip_leading_whitespace}
use Rattle.std.specs.List.{list_any, before_first, position_or_len}
use Rattle.annotation_conf.specs.declared.pieces.Piece.{Piece as PieceValue}
use Rattle.annotation_conf.specs.declared.pieces.Piece.TheVariants.{Shapeless as ShapelessValue, Keyed as KeyedValue, Pair as PairValue}
use Rattle.annotation_conf.specs.declared.line.Place.{Place as PlaceValue}
use Rattle.annotation_conf.specs.declared.line.Place.TheVariants.{Before as BeforeValue, Nowhere as NowhereValue, Within as WithinValue}
use Rattle.conf_model.specs.ConfLines.{Section, Entities, Relations, Events, Attributes, Place, Before, Nowhere, Within, Kind, Skipped, Header, Macro, Content, Line, kind_of, place_after}
use Rattle.conf_model.specs.ConfPairs.{Piece, Shapeless, Keyed, Pair, begins_mark, alternatives_of}
use Rattle.conf_model.specs.ConfNames.{type_line, named_line}
use Rattle.conf_model.specs.ConfFaults.{RolePair, pairs_of, is_shapeless, is_kinds, is_pair, kinds_lead}
use Rattle.annotation_conf.specs.FileKept.{Behind, KeptNamed, KeptMacro, KeptFile, Said, keyed_of, kept_type, kept_named, said_of}
use Rattle.annotation_conf.specs.FileShows.{seen_section, seen_alternative}

-- the role pair of a key and a value
abbrev pub pair_of : List ℕ → List ℕ → RolePair
pair_of key value = record {
  role = encode_utf8_all (before_first begins_mark key);
  mark = drop (position_or_len begins_mark key) key;
  alternatives = alternatives_of value;
}

-- a piece
abbrev pub seen_piece : PieceValue → Piece
seen_piece ShapelessValue = Shapeless
seen_piece (KeyedValue pair) = Keyed pair.key pair.value.items
seen_piece (PairValue pair) = Pair pair.role pair.mark.items (map seen_alternative pair.alternatives.items)

-- no pieces
abbrev pub nothing_behind : Behind
nothing_behind = record { shapeless = false; kinds = false; late = false; keyed = []; pairs = [] }

-- more pieces behind others
abbrev pub with_pieces : Behind → List Piece → Behind
with_pieces behind pieces =
    record {
      shapeless = behind.shapeless || list_any is_shapeless pieces;
      kinds = behind.kinds || list_any is_kinds pieces;
      late = behind.late || behind.kinds && list_any is_pair pieces || kinds_lead pieces;
      keyed = behind.keyed ++ keyed_of pieces;
      pairs = behind.pairs ++ pairs_of pieces;
    }

-- one more
abbrev pub with_piece : Behind → Piece → Behind
with_piece behind piece = with_pieces behind (piece ∷ [])

-- a place
abbrev pub seen_place : PlaceValue → Place
seen_place BeforeValue = Before
seen_place NowhereValue = Nowhere
seen_place (WithinValue section) = Within (seen_section section)

-- no lines
abbrev pub nothing_kept : KeptFile
nothing_kept = record { lines = []; entities = []; events = []; relations = []; overlaps = []; attributes = []; macros = [] }

-- one line more
abbrev pub with_line : KeptFile → ℕ → Said → KeptFile
with_line file number said = record {
  lines = file.lines ++ record { number = number; said = said } ∷ [];
  entities = file.entities;
  events = file.events;
  relations = file.relations;
  overlaps = file.overlaps;
  attributes = file.attributes;
  macros = file.macros;
}

-- a kept line speaks of overlaps
abbrev pub is_kept_overlap : KeptNamed → Bool
is_kept_overlap line = bytes_eq line.name (codes "<OVERLAP>")

-- one line of a relation type or of overlaps more
abbrev pub with_kept_relation : KeptFile → KeptNamed → KeptFile
with_kept_relation file line = record {
  lines = file.lines;
  entities = file.entities;
  events = file.events;
  relations = if is_kept_overlap line then file.relations else file.relations ++ line ∷ [];
  overlaps = if is_kept_overlap line then file.overlaps ++ line ∷ [] else file.overlaps;
  attributes = file.attributes;
  macros = file.macros;
}

-- one declared thing more, in a section
abbrev pub with_declared : KeptFile → ℕ → Section → List ℕ → KeptFile
with_declared file number Entities cs = record {
  lines = file.lines;
  entities = file.entities ++ kept_type (type_line number cs) ∷ [];
  events = file.events;
  relations = file.relations;
  overlaps = file.overlaps;
  attributes = file.attributes;
  macros = file.macros;
}
with_declared file number Events cs = record {
  lines = file.lines;
  entities = file.entities;
  events = file.events ++ kept_type (type_line number cs) ∷ [];
  relations = file.relations;
  overlaps = file.overlaps;
  attributes = file.attributes;
  macros = file.macros;
}
with_declared file number Relations cs = with_kept_relation file (kept_named (named_line number (skip_leading_whitespace cs)))
with_declared file number Attributes cs = record {
  lines = file.lines;
  entities = file.entities;
  events = file.events;
  relations = file.relations;
  overlaps = file.overlaps;
  attributes = file.attributes ++ kept_named (named_line number cs) ∷ [];
  macros = file.macros;
}

-- one macro more
abbrev pub with_macro : KeptFile → KeptMacro → KeptFile
with_macro file macro = record {
  lines = file.lines;
  entities = file.entities;
  events = file.events;
  relations = file.relations;
  overlaps = file.overlaps;
  attributes = file.attributes;
  macros = file.macros ++ macro ∷ [];
}

-- what a line of a place and a kind declares more
abbrev pub with_kind : KeptFile → ℕ → Place → Kind → KeptFile
with_kind file number place Skipped = file
with_kind file number place (Header _) = file
with_kind file number place (Macro name cs) = with_macro file (record { number = number; name = name; alternatives = alternatives_of cs })
with_kind file number Before (Content cs) = file
with_kind file number Nowhere (Content cs) = file
with_kind file number (Within section) (Content cs) = with_declared file number section cs

-- a line more
abbrev pub grown : KeptFile → Line → KeptFile
grown file line = with_kind (with_line file line.number (said_of line.place line.kind)) line.number line.place line.kind

-- a line of a number by its characters, behind a line of this place
abbrev pub line_of : ℕ → Place → List ℕ → Line
line_of number place cs = record { number = number; place = place_after place (kind_of cs); kind = kind_of cs }

-- lines more
abbrev pub grown_by : KeptFile → List Line → KeptFile
grown_by file [] = file
grown_by file (line ∷ lines) = grown_by (grown file line) lines
