-- What the reader of annotation.conf keeps of a file: each line by what it says, and what is declared by sorts (private calls only).
use Rattle.std.specs.Prelude.{ℕ, Bool, List, Option, Some, None, filter_map, map}
use Rattle.std.specs.List.{list_any}
use Rattle.conf_model.specs.ConfLines.{Section, Place, Before, Nowhere, Within, Kind, Skipped, Header, Macro, Content, Line}
use Rattle.conf_model.specs.ConfPairs.{Alternative, Piece, Shapeless, Keyed, Pair}
use Rattle.conf_model.specs.ConfNames.{TypeLine, NamedLine, MacroLine, File}
use Rattle.conf_model.specs.ConfFaults.{RolePair, pairs_of, is_shapeless, is_kinds, kinds_lead}

-- a pair with a bracketed key
pub record KeyedPair : Type 0 where
  pub key : List ℕ
  pub value : List ℕ

-- the pair of a piece, where its key is bracketed
abbrev pub keyed_pair : Piece → Option KeyedPair
keyed_pair Shapeless = None
keyed_pair (Keyed key value) = Some (record { key = key; value = value })
keyed_pair (Pair _ _ _) = None

-- the pairs with a bracketed key behind a name
abbrev pub keyed_of : List Piece → List KeyedPair
keyed_of pieces = filter_map keyed_pair pieces

-- what stands behind a name, by sorts; whether a pair of kinds stands there, and a role pair behind one
pub record Behind : Type 0 where
  pub shapeless : Bool
  pub kinds : Bool
  pub late : Bool
  pub keyed : List KeyedPair
  pub pairs : List RolePair

-- the sorts of pieces
abbrev pub behind_of : List Piece → Behind
behind_of pieces = record { shapeless = list_any is_shapeless pieces; kinds = list_any is_kinds pieces; late = kinds_lead pieces; keyed = keyed_of pieces; pairs = pairs_of pieces }

-- what is kept of a type line
pub record KeptType : Type 0 where
  pub number : ℕ
  pub depth : ℕ
  pub spaced : Bool
  pub gapped : Bool
  pub usable : Bool
  pub name : List ℕ
  pub behind : Behind

-- of any other line that declares something
pub record KeptNamed : Type 0 where
  pub number : ℕ
  pub name : List ℕ
  pub behind : Behind

-- and of a macro: what its alternatives hold is not kept
pub record KeptMacro : Type 0 where
  pub number : ℕ
  pub name : List ℕ
  pub alternatives : List Alternative

-- a type line as it is kept
abbrev pub kept_type : TypeLine → KeptType
kept_type line = record { number = line.number; depth = line.depth; spaced = line.spaced; gapped = line.gapped; usable = line.usable; name = line.name; behind = behind_of line.pieces }

-- any other line as it is kept
abbrev pub kept_named : NamedLine → KeptNamed
kept_named line = record { number = line.number; name = line.name; behind = behind_of line.pieces }

-- a macro as it is kept
abbrev pub kept_macro : MacroLine → KeptMacro
kept_macro macro = record { number = macro.number; name = macro.name; alternatives = macro.alternatives }

-- what a line says where that is a matter of sections: nothing, that it names none, that it opens one, or that it stands outside all
pub data Said : Type 0 where
  SaysNothing : Said
  NamesNone : Said
  OpensSection : Section → Said
  StandsOutside : Said

-- what a line says by its place and its kind
abbrev pub said_of : Place → Kind → Said
said_of place Skipped = SaysNothing
said_of place (Header None) = NamesNone
said_of place (Header (Some section)) = OpensSection section
said_of place (Macro _ _) = SaysNothing
said_of Before (Content _) = StandsOutside
said_of Nowhere (Content _) = SaysNothing
said_of (Within _) (Content _) = SaysNothing

-- a line as it is kept
pub record KeptLine : Type 0 where
  pub number : ℕ
  pub said : Said

-- the line
abbrev pub kept_line : Line → KeptLine
kept_line line = record { number = line.number; said = said_of line.place line.kind }

-- a file as it is kept
pub record KeptFile : Type 0 where
  pub lines : List KeptLine
  pub entities : List KeptType
  pub events : List KeptType
  pub relations : List KeptNamed
  pub overlaps : List KeptNamed
  pub attributes : List KeptNamed
  pub macros : List KeptMacro

-- the file
abbrev pub kept_file : File → KeptFile
kept_file file = record {
  lines = map kept_line file.lines;
  entities = map kept_type file.entities;
  events = map kept_type file.events;
  relations = map kept_named file.relations;
  overlaps = map kept_named file.overlaps;
  attributes = map kept_named file.attributes;
  macros = map kept_macro file.macros;
}
