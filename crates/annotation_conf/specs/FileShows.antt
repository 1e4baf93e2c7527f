-- What the values of a read file show of the file that the definition speaks of (private calls only).
use Rattle.std.specs.Prelude.{◌≡◌, map}
use Rattle.annotation_conf.specs.declared.line.Section.{Section as SectionValue}
use Rattle.annotation_conf.specs.declared.line.Section.TheVariants.{Entities as EntitiesValue, Relations as RelationsValue, Events as EventsValue, Attributes as AttributesValue}
use Rattle.annotation_conf.specs.declared.line.What.{What}
use Rattle.annotation_conf.specs.declared.line.What.TheVariants.{Plain, Unknown, Opens, Outside}
use Rattle.annotation_conf.specs.declared.line.Line.{Line as LineValue}
use Rattle.annotation_conf.specs.declared.pieces.Alternative.{Alternative as AlternativeValue}
use Rattle.annotation_conf.specs.declared.pieces.Alternative.TheVariants.{Named as NamedValue, Held as HeldValue}
use Rattle.annotation_conf.specs.declared.pieces.RolePair.{RolePair as RolePairValue}
use Rattle.annotation_conf.specs.declared.pieces.KeyedPair.{KeyedPair as KeyedPairValue}
use Rattle.annotation_conf.specs.declared.pieces.Pieces.{Pieces as PiecesValue}
use Rattle.annotation_conf.specs.declared.file.TypeLine.{TypeLine as TypeLineValue}
use Rattle.annotation_conf.specs.declared.file.NamedLine.{NamedLine as NamedLineValue}
use Rattle.annotation_conf.specs.declared.file.MacroLine.{MacroLine as MacroLineValue}
use Rattle.annotation_conf.specs.declared.file.File.{File as FileValue}
use Rattle.conf_model.specs.ConfLines.{Section, Entities, Relations, Events, Attributes}
use Rattle.conf_model.specs.ConfPairs.{Alternative, Named, Held}
use Rattle.conf_model.specs.ConfNames.{File}
use Rattle.conf_model.specs.ConfFaults.{RolePair}
use Rattle.annotation_conf.specs.FileKept.{KeyedPair, Behind, KeptType, KeptNamed, KeptMacro, Said, SaysNothing, NamesNone, OpensSection, StandsOutside, KeptLine, KeptFile, kept_type, kept_named, kept_macro, kept_line}

-- a section
abbrev pub seen_section : SectionValue → Section
seen_section EntitiesValue = Entities
seen_section RelationsValue = Relations
seen_section EventsValue = Events
seen_section AttributesValue = Attributes

-- an alternative
abbrev pub seen_alternative : AlternativeValue → Alternative
seen_alternative (NamedValue name) = Named name
seen_alternative (HeldValue name) = Held name

-- a role pair
abbrev pub seen_pair : RolePairValue → RolePair
seen_pair pair = record { role = pair.role; mark = pair.mark.items; alternatives = map seen_alternative pair.alternatives.items }

-- a pair with a bracketed key
abbrev pub seen_keyed : KeyedPairValue → KeyedPair
seen_keyed pair = record { key = pair.key; value = pair.value.items }

-- what stands behind a name
abbrev pub seen_pieces : PiecesValue → Behind
seen_pieces pieces = record { shapeless = pieces.shapeless; kinds = pieces.kinds; late = pieces.late; keyed = map seen_keyed pieces.keyed.items; pairs = map seen_pair pieces.pairs.items }

-- a type line
abbrev pub seen_type : TypeLineValue → KeptType
seen_type line = record { number = line.number; depth = line.depth; spaced = line.spaced; gapped = line.gapped; usable = line.usable; name = line.name; behind = seen_pieces line.pieces }

-- any other line that declares something
abbrev pub seen_named : NamedLineValue → KeptNamed
seen_named line = record { number = line.number; name = line.name; behind = seen_pieces line.pieces }

-- a macro
abbrev pub seen_macro : MacroLineValue → KeptMacro
seen_macro macro = record { number = macro.number; name = macro.name; alternatives = map seen_alternative macro.alternatives.items }

-- what a line says
abbrev pub seen_what : What → Said
seen_what Plain = SaysNothing
seen_what Unknown = NamesNone
seen_what (Opens section) = OpensSection (seen_section section)
seen_what Outside = StandsOutside

-- a line
abbrev pub seen_line : LineValue → KeptLine
seen_line line = record { number = line.number; said = seen_what line.what }

-- a file
abbrev pub seen_file : FileValue → KeptFile
seen_file file = record {
  lines = map seen_line file.lines.items;
  entities = map seen_type file.entities.items;
  events = map seen_type file.events.items;
  relations = map seen_named file.relations.items;
  overlaps = map seen_named file.overlaps.items;
  attributes = map seen_named file.attributes.items;
  macros = map seen_macro file.macros.items;
}

-- the values show a file: its lines and what they declare, each sort in its order
pub record Shows (values : FileValue) (file : File) : Type 0 where
  pub lines : map seen_line values.lines.items ≡ map kept_line file.lines
  pub entities : map seen_type values.entities.items ≡ map kept_type file.entities
  pub events : map seen_type values.events.items ≡ map kept_type file.events
  pub relations : map seen_named values.relations.items ≡ map kept_named file.relations
  pub overlaps : map seen_named values.overlaps.items ≡ map kept_named file.overlaps
  pub attributes : map seen_named values.attributes.items ≡ map kept_named file.attributes
  pub macros : map seen_macro values.macros.items ≡ map kept_macro file.macros
