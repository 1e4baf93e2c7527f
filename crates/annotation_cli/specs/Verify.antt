-- What `verify CONF TEXT ANN` does: it reads three files, each judged before the next, and counts what the last one spells.
use Rattle.std.specs.Prelude.{◌≡◌, ℕ, ◌+◌, ◌⊎◌, List, ◌++◌, length, Option, codes, decimal, Result, Ok, Err}
use Rattle.std.specs.Io.KnownBytes.{Appends}
use Rattle.mark_base.specs.Streams.{AppendsFront}
use Rattle.mark_base.specs.declared.ann_id.Kind.TheVariants as letter
use Rattle.conf_model.specs.Configurations.{Configuration}
use Rattle.layer_model.specs.Annotations.{Annotations}
use Rattle.layer_model.specs.Layers.{count}
use Rattle.program_inputs.specs.declared.trouble.Trouble.{Trouble}
use Rattle.program_inputs.specs.declared.trouble.Trouble.TheVariants as trouble
use Rattle.program_inputs.specs.Files.{HasConf, ConfRefused, HoldsText, TextRefused, HasAnn, AnnRefused}

-- a number behind what it counts
abbrev pub counted : List ℕ → ℕ → List ℕ
counted label number = label ++ decimal number

-- the line of counts; attributes are those of both letters
abbrev pub counts_line : Annotations → List ℕ
counts_line layer =
    counted (codes "spans ") (count layer letter.Text) ++ counted (codes " events ") (count layer letter.Event)
    ++ counted (codes " relations ") (count layer letter.Relation) ++ counted (codes " attributes ") (count layer letter.Attribute + count layer letter.Legacy)
    ++ counted (codes " normalizations ") (count layer letter.Normal) ++ counted (codes " notes ") (count layer letter.Note)
    ++ counted (codes " classes ") (length layer.classes) ++ codes "\n"

-- the three files were read
pub record ReadsAll (conf_file text_file ann_file : Option (Option (List ℕ))) (layer : Annotations) : Type 0 where
  pub conf : Configuration
  pub conf_is : HasConf conf_file conf
  pub text : List ℕ
  pub text_is : HoldsText text_file text
  pub ann_is : HasAnn ann_file conf text layer

-- the configuration was read, and the text is at fault
pub record TextAtFault (conf_file text_file : Option (Option (List ℕ))) (before now : ℕ) (why : Trouble) : Type 0 where
  pub conf : Configuration
  pub conf_is : HasConf conf_file conf
  pub told : TextRefused text_file before now why

-- the configuration and the text were read, and the .ann file is at fault
pub record AnnAtFault (conf_file text_file ann_file : Option (Option (List ℕ))) (before now : ℕ) (why : Trouble) : Type 0 where
  pub conf : Configuration
  pub conf_is : HasConf conf_file conf
  pub text : List ℕ
  pub text_is : HoldsText text_file text
  pub told : AnnRefused ann_file conf text before now why

-- why the files were not all read
abbrev pub NoLayer : (conf_file text_file ann_file : Option (Option (List ℕ))) → (before now : ℕ) → Trouble → Type 0
NoLayer conf_file text_file ann_file before now why =
    ConfRefused conf_file before now why ⊎ TextAtFault conf_file text_file before now why ⊎ AnnAtFault conf_file text_file ann_file before now why

-- the layer of the files, or why there is none
abbrev pub LayerTold : (conf_file text_file ann_file : Option (Option (List ℕ))) → (before now : ℕ) → Result Annotations Trouble → Type 0
LayerTold conf_file text_file ann_file before now (Ok layer) = ReadsAll conf_file text_file ann_file layer
LayerTold conf_file text_file ann_file before now (Err why) = NoLayer conf_file text_file ann_file before now why

-- the files were read, and the line of counts was written, or a front of it, or memory ran out for it
abbrev pub Counts : Annotations → (before written : Option (List ℕ)) → Result (Unit {0}) Trouble → Type 0
Counts layer before written (Ok done) = Appends before written (counts_line layer)
Counts layer before written (Err trouble.WriteFault) = AppendsFront before written (counts_line layer)
Counts layer before written (Err trouble.Memory) = written ≡ before
Counts layer before written (Err why) = ⊥

-- the files were read
pub record Verified (conf_file text_file ann_file : Option (Option (List ℕ))) (before written : Option (List ℕ)) (done : Result (Unit {0}) Trouble) : Type 0 where
  pub layer : Annotations
  pub files : ReadsAll conf_file text_file ann_file layer
  pub counts : Counts layer before written done

-- a file was at fault, and nothing was written
pub record Refused (conf_file text_file ann_file : Option (Option (List ℕ))) (faults_before faults_now : ℕ) (before written : Option (List ℕ)) (done : Result (Unit {0}) Trouble) : Type 0 where
  pub why : Trouble
  pub told : NoLayer conf_file text_file ann_file faults_before faults_now why
  pub came : done ≡ Err why
  pub unwritten : written ≡ before

-- what `verify` does
abbrev pub VerifyTold : (conf_file text_file ann_file : Option (Option (List ℕ))) → (faults_before faults_now : ℕ) → (before written : Option (List ℕ)) → Result (Unit {0}) Trouble → Type 0
VerifyTold conf_file text_file ann_file faults_before faults_now before written done =
    Refused conf_file text_file ann_file faults_before faults_now before written done
    ⊎ Verified conf_file text_file ann_file before written done
