-- What is asked of a project, what it answers, and what happens to it, in plain values.
use Rattle.std.specs.Prelude.{ℕ, Bool, List}
use Rattle.mark_base.specs.declared.ann_id.AnnId.{AnnId}
use Rattle.entry_bytes.specs.declared.person.Person.{Person}
use Rattle.conf_model.specs.Configurations.{Configuration}
use Rattle.layer_model.specs.Annotations.{Annotations}
use Rattle.layer_core.specs.declared.command.Command.{Command}
use Rattle.kappa_alpha.specs.declared.figures.PairLine.{PairLine}
use Rattle.kappa_alpha.specs.declared.figures.AlphaLine.{AlphaLine}
use Rattle.project_machine.specs.declared.book_refusal.BookRefusal.{BookRefusal}
use Rattle.project_machine.specs.declared.doc_line.DocLine.{DocLine}
use Rattle.project_machine.specs.declared.report.Report.{Report}
use Rattle.unanimous_merge.specs.declared.item.ItemId.{ItemId}
use Rattle.curator_decisions.specs.declared.verdict.Verdict.{Verdict}
use Rattle.project_machine.specs.ProjectState.{ProjectState}

-- what is asked; `name` is a document's, `who` is the annotator whose layer it is, `number` is a snapshot's, and an item is named by its holder and its ID
pub data Asked : Type 0 where
  ReadConf : Asked
  ListDocs : Asked
  ReadText : (name : List ℕ) → Asked
  AddText : (name text : List ℕ) → Asked
  Checkout : (name : List ℕ) → Asked
  TakeOver : (name : List ℕ) → Asked
  Commit : (name : List ℕ) (hold : ℕ) (layer : Annotations) → Asked
  Park : (name : List ℕ) (hold : ℕ) (done undone : List Command) → Asked
  Finish : (name : List ℕ) → Asked
  ReadLayer : (name who : List ℕ) → Asked
  Reopen : (name who : List ℕ) → Asked
  Ignore : (name who : List ℕ) → Asked
  Readmit : (name who : List ℕ) → Asked
  Snap : (name : List ℕ) → Asked
  TakeSnapshot : (number : ℕ) → Asked
  Decide : (number : ℕ) (holder : List ℕ) (id : AnnId) (verdict : Verdict) → Asked
  Undecide : (number : ℕ) (holder : List ℕ) (id : AnnId) → Asked
  ReadPairs : Asked
  ReadAlpha : Asked
  ReadReport : Report → Asked

-- a layer that is handed out: the hold, how often it was committed, the layer, the parked commands, and what the layer is for
pub record Out : Type 0 where
  pub hold : ℕ
  pub revision : ℕ
  pub base : Annotations
  pub done : List Command
  pub undone : List Command
  pub text : List ℕ
  pub conf : Configuration

-- a snapshot that is read: its layers by their holders, the verdicts that stand, and what the layers are for
pub record View : Type 0 where
  pub holders : List (List ℕ × Annotations)
  pub verdicts : List (ItemId × Verdict)
  pub text : List ℕ
  pub conf : Configuration

-- what is answered; a refusal comes with what it names, which is empty where it names nothing
pub data Answered : Type 0 where
  Conf : Configuration → Answered
  Docs : List DocLine → Answered
  Text : (text : List ℕ) → Answered
  Added : (tokens : ℕ) → Answered
  HandedOut : Out → Answered
  Committed : (revision : ℕ) → Answered
  Parked : Answered
  Finished : Bool → Answered
  Layer : (layer : Annotations) (text : List ℕ) (conf : Configuration) → Answered
  Ignored : Bool → Answered
  Snapped : (number layers : ℕ) → Answered
  Taken : View → Answered
  Decided : (count : ℕ) → Answered
  Pairs : (names : List (List ℕ)) (lines : List PairLine) → Answered
  Alpha : AlphaLine → Answered
  Table : (bytes : List ℕ) → Answered
  Refused : BookRefusal → (named : List ℕ) → Answered

-- what happened; `by` is who asked for it, `doc` the number of a document from 0, `number` that of a snapshot from 1, and `holder` a holder's place in it from 0
pub data Happened : Type 0 where
  Founded : (conf : Configuration) (level : ℕ) (people : List Person) → Happened
  TextAdded : (by name text : List ℕ) → Happened
  CheckedOut : (by : List ℕ) (doc : ℕ) → Happened
  TakenOver : (by : List ℕ) (doc : ℕ) → Happened
  LayerCommitted : (by : List ℕ) (doc hold : ℕ) (layer : Annotations) → Happened
  LayerParked : (by : List ℕ) (doc hold : ℕ) (done undone : List Command) → Happened
  LayerFinished : (by : List ℕ) (doc : ℕ) → Happened
  LayerReopened : (by : List ℕ) (doc : ℕ) (who : List ℕ) → Happened
  LayerIgnored : (by : List ℕ) (doc : ℕ) (who : List ℕ) → Happened
  LayerReadmitted : (by : List ℕ) (doc : ℕ) (who : List ℕ) → Happened
  SnapshotTaken : (by : List ℕ) (doc : ℕ) → Happened
  ItemDecided : (by : List ℕ) (number holder : ℕ) (id : AnnId) (verdict : Verdict) → Happened
  ItemUndecided : (by : List ℕ) (number holder : ℕ) (id : AnnId) → Happened
  AllFreed : Happened
  Restored : (place : ℕ) (state : ProjectState) → Happened
