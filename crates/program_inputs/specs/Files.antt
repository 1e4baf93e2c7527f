-- What the files of a command hold, or why they were not read.
use Rattle.std.specs.Prelude.{◌≡◌, ℕ, ◌<◌, ◌≤◌, false, true, List, length, Option, Some, None, IfSome, IsSomeAnd, Ok, Err, ⊤}
use Rattle.std.specs.Str.{chars, is_utf8}
use Rattle.mark_base.specs.Streams.{Rose}
use Rattle.conf_model.specs.Configurations.{Configuration}
use Rattle.conf_model.specs.ConfOf.{conf_of}
use Rattle.conf_model.specs.declared.conf_fault.ConfWhat.{ConfWhat}
use Rattle.layer_model.specs.Annotations.{Annotations}
use Rattle.ann_reader.specs.declared.ann_fault.AnnWhat.{AnnWhat}
use Rattle.ann_reader.specs.AnnFaults.{ann_fault}
use Rattle.ann_reader.specs.AnnFiles.{IsAnn}
use Rattle.token_columns.specs.declared.column_fault.ColumnWhat.{ColumnWhat}
use Rattle.token_columns.specs.declared.column_fault.ColumnFault.TheVariants as columns
use Rattle.token_columns.specs.ReadColumns.{read_of}
use Rattle.token_columns.specs.ColumnFiles.{IsColumns}
use Rattle.program_inputs.specs.declared.trouble.Trouble.{Trouble}
use Rattle.entry_bytes.specs.declared.person.Person.{Person}
use Rattle.roster_file.specs.declared.roster_read.RosterRead.{RosterRead}
use Rattle.roster_file.specs.RosterFiles.{roster_of}
use Rattle.program_inputs.specs.declared.trouble.Trouble.TheVariants.{Conf, Ann, Columns, Roster, TextNotUtf8, TextTooLong, FileAbsent, FileTooLong, FileFailed, Memory}

-- a file has these bytes, where it is told; one that is not told may have any
abbrev pub IsFile : Option (Option (List ℕ)) → List ℕ → Type 0
IsFile file bytes = IfSome file (λ found. found ≡ Some bytes)

-- why a file of at most so many bytes was not read: there is none, it is longer, the folder counted a fault, or memory
abbrev pub FileRefused : Option (Option (List ℕ)) → ℕ → ℕ → ℕ → Trouble → Type 0
FileRefused file limit before now FileAbsent = IfSome file (λ found. found ≡ None)
FileRefused file limit before now FileTooLong = IfSome file (λ found. IsSomeAnd found (λ bytes. limit < length bytes))
FileRefused file limit before now FileFailed = Rose before now
FileRefused file limit before now Memory = ⊤
FileRefused file limit before now trouble = ⊥

-- a file spells a configuration
pub record HasConf (file : Option (Option (List ℕ))) (conf : Configuration) : Type 0 where
  pub bytes : List ℕ
  pub read : IsFile file bytes
  pub spelt : conf_of bytes ≡ Ok conf

-- a file has a first fault as a configuration
pub record HasConfFault (file : Option (Option (List ℕ))) (line : ℕ) (what : ConfWhat) : Type 0 where
  pub bytes : List ℕ
  pub read : IsFile file bytes
  pub fault : conf_of bytes ≡ Err (record { line = line; what = what })

-- why a file gave no configuration
abbrev pub ConfRefused : Option (Option (List ℕ)) → ℕ → ℕ → Trouble → Type 0
ConfRefused file before now (Conf line what) = HasConfFault file line what
ConfRefused file before now trouble = FileRefused file 4194304 before now trouble

-- a file names people, in the order of their names
pub record HasRoster (file : Option (Option (List ℕ))) (people : List Person) : Type 0 where
  pub bytes : List ℕ
  pub read : IsFile file bytes
  pub named : roster_of bytes ≡ Ok people

-- a file has a first fault as a roster
pub record HasRosterFault (file : Option (Option (List ℕ))) (fault : RosterRead) : Type 0 where
  pub bytes : List ℕ
  pub read : IsFile file bytes
  pub told : roster_of bytes ≡ Err fault

-- why a file gave no people
abbrev pub RosterRefused : Option (Option (List ℕ)) → ℕ → ℕ → Trouble → Type 0
RosterRefused file before now (Roster fault) = HasRosterFault file fault
RosterRefused file before now trouble = FileRefused file 65536 before now trouble

-- a file holds the text of a document, of at most 200,000 characters
pub record HoldsText (file : Option (Option (List ℕ))) (text : List ℕ) : Type 0 where
  pub bytes : List ℕ
  pub read : IsFile file bytes
  pub utf8 : is_utf8 bytes ≡ true
  pub characters : text ≡ chars bytes
  pub short : length text ≤ 200000

-- a file holds no text
pub record HoldsNoText (file : Option (Option (List ℕ))) : Type 0 where
  pub bytes : List ℕ
  pub read : IsFile file bytes
  pub not_utf8 : is_utf8 bytes ≡ false

-- a file holds a text of more characters
pub record HoldsLongText (file : Option (Option (List ℕ))) : Type 0 where
  pub bytes : List ℕ
  pub read : IsFile file bytes
  pub utf8 : is_utf8 bytes ≡ true
  pub long : 200000 < length (chars bytes)

-- why a file gave no document
abbrev pub TextRefused : Option (Option (List ℕ)) → ℕ → ℕ → Trouble → Type 0
TextRefused file before now TextNotUtf8 = HoldsNoText file
TextRefused file before now TextTooLong = HoldsLongText file
TextRefused file before now trouble = FileRefused file 800000 before now trouble

-- a file spells a layer, for a configuration and the characters of a text
pub record HasAnn (file : Option (Option (List ℕ))) (conf : Configuration) (text : List ℕ) (layer : Annotations) : Type 0 where
  pub bytes : List ℕ
  pub read : IsFile file bytes
  pub spelt : IsAnn conf text bytes layer

-- a file has a first fault as an .ann file
pub record HasAnnFault (file : Option (Option (List ℕ))) (conf : Configuration) (text : List ℕ) (line : ℕ) (what : AnnWhat) : Type 0 where
  pub bytes : List ℕ
  pub read : IsFile file bytes
  pub fault : ann_fault conf text bytes ≡ Some (record { line = line; what = what })

-- why a file gave no layer
abbrev pub AnnRefused : Option (Option (List ℕ)) → Configuration → List ℕ → ℕ → ℕ → Trouble → Type 0
AnnRefused file conf text before now (Ann line what) = HasAnnFault file conf text line what
AnnRefused file conf text before now trouble = FileRefused file 16777216 before now trouble

-- a file shows a layer in columns, for a configuration and the characters of a text
pub record HasColumns (file : Option (Option (List ℕ))) (conf : Configuration) (text : List ℕ) (layer : Annotations) : Type 0 where
  pub bytes : List ℕ
  pub read : IsFile file bytes
  pub shown : IsColumns conf text bytes layer

-- a file has a first fault as a column file
pub record HasColumnFault (file : Option (Option (List ℕ))) (conf : Configuration) (text : List ℕ) (line : ℕ) (what : ColumnWhat) : Type 0 where
  pub bytes : List ℕ
  pub read : IsFile file bytes
  pub fault : read_of conf text bytes ≡ Err (columns.At line what)

-- why a file showed no layer
abbrev pub ColumnsRefused : Option (Option (List ℕ)) → Configuration → List ℕ → ℕ → ℕ → Trouble → Type 0
ColumnsRefused file conf text before now (Columns line what) = HasColumnFault file conf text line what
ColumnsRefused file conf text before now trouble = FileRefused file 16777216 before now trouble
