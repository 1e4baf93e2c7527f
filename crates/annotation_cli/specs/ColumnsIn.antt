-- What `columns-in CONF TEXT COLUMNS` does: it reads three files, each judged before the next, and writes the .ann lines of the layer that the last one shows.
use Rattle.std.specs.Prelude.{◌≡◌, ℕ, ◌⊎◌, List, Option, Result, Ok, Err}
use Rattle.std.specs.Io.KnownBytes.{Appends}
use Rattle.mark_base.specs.Streams.{AppendsFront}
use Rattle.conf_model.specs.Configurations.{Configuration}
use Rattle.layer_model.specs.Annotations.{Annotations}
use Rattle.ann_writer.specs.AnnOf.{ann_of}
use Rattle.annotation_cli.specs.declared.columns_in.Shown.{Shown}
use Rattle.program_inputs.specs.declared.trouble.Trouble.{Trouble}
use Rattle.program_inputs.specs.declared.trouble.Trouble.TheVariants as trouble
use Rattle.program_inputs.specs.Files.{HasConf, ConfRefused, HoldsText, HasColumns, ColumnsRefused}
use Rattle.annotation_cli.specs.Verify.{TextAtFault}

-- the three files were read
pub record ReadsColumns (conf_file text_file columns_file : Option (Option (List ℕ))) (conf : Configuration) (text : List ℕ) (layer : Annotations) : Type 0 where
  pub conf_is : HasConf conf_file conf
  pub text_is : HoldsText text_file text
  pub columns_are : HasColumns columns_file conf text layer

-- the configuration and the text were read, and the column file is at fault
pub record ColumnsAtFault (conf_file text_file columns_file : Option (Option (List ℕ))) (before now : ℕ) (why : Trouble) : Type 0 where
  pub conf : Configuration
  pub conf_is : HasConf conf_file conf
  pub text : List ℕ
  pub text_is : HoldsText text_file text
  pub told : ColumnsRefused columns_file conf text before now why

-- why the files were not all read
abbrev pub NoColumns : (conf_file text_file columns_file : Option (Option (List ℕ))) → (before now : ℕ) → Trouble → Type 0
NoColumns conf_file text_file columns_file before now why =
    ConfRefused conf_file before now why ⊎ TextAtFault conf_file text_file before now why ⊎ ColumnsAtFault conf_file text_file columns_file before now why

-- the layer that the files show, or why there is none
abbrev pub ShownTold : (conf_file text_file columns_file : Option (Option (List ℕ))) → (before now : ℕ) → Result Shown Trouble → Type 0
ShownTold conf_file text_file columns_file before now (Ok shown) = ReadsColumns conf_file text_file columns_file shown.conf shown.text shown.layer
ShownTold conf_file text_file columns_file before now (Err why) = NoColumns conf_file text_file columns_file before now why

-- the .ann lines of a layer were written, or a front of them, or memory ran out for them
abbrev pub WritesLayer : Configuration → List ℕ → Annotations → (before written : Option (List ℕ)) → Result (Unit {0}) Trouble → Type 0
WritesLayer conf text layer before written (Ok done) = Appends before written (ann_of conf text layer)
WritesLayer conf text layer before written (Err trouble.WriteFault) = AppendsFront before written (ann_of conf text layer)
WritesLayer conf text layer before written (Err trouble.Memory) = written ≡ before
WritesLayer conf text layer before written (Err why) = ⊥

-- the files were read
pub record ShowsLayer (conf_file text_file columns_file : Option (Option (List ℕ))) (before written : Option (List ℕ)) (done : Result (Unit {0}) Trouble) : Type 0 where
  pub conf : Configuration
  pub text : List ℕ
  pub layer : Annotations
  pub files : ReadsColumns conf_file text_file columns_file conf text layer
  pub lines : WritesLayer conf text layer before written done

-- a file was at fault, and nothing was written
pub record ShowsNothing (conf_file text_file columns_file : Option (Option (List ℕ))) (faults_before faults_now : ℕ) (before written : Option (List ℕ)) (done : Result (Unit {0}) Trouble) : Type 0 where
  pub why : Trouble
  pub told : NoColumns conf_file text_file columns_file faults_before faults_now why
  pub came : done ≡ Err why
  pub unwritten : written ≡ before

-- what `columns-in` does
abbrev pub ColumnsTold : (conf_file text_file columns_file : Option (Option (List ℕ))) → (faults_before faults_now : ℕ) → (before written : Option (List ℕ)) → Result (Unit {0}) Trouble → Type 0
ColumnsTold conf_file text_file columns_file faults_before faults_now before written done =
    ShowsNothing conf_file text_file columns_file faults_before faults_now before written done
    ⊎ ShowsLayer conf_file text_file columns_file before written done
