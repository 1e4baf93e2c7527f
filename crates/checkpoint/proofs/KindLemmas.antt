-- What a piece leaves, kind by kind.
use Rattle.std.proofs.Common.{◌≡◌, ℕ, true, List, sym, subst}
use Rattle.entry_bytes.specs.declared.entry.Entry.{Entry}
use Rattle.entry_bytes.specs.declared.entry.Entry.TheVariants as entry
use Rattle.layer_core.specs.declared.command.Command.{Command}
use Rattle.layer_model.specs.Annotations.{Annotations}
use Rattle.unanimous_merge.specs.declared.item.ItemId.{ItemId}
use Rattle.curator_decisions.specs.declared.verdict.Verdict.{Verdict}
use Rattle.checkpoint.specs.declared.so_far.Part.TheVariants as part
use Rattle.checkpoint.specs.declared.so_far.SoFar.{SoFar}
use Rattle.checkpoint.specs.Reading.{Reads, TakesDraft, TakesHeld, TakesLayer, TakesVerdicts, end_fits, row_fits, shot_fits, text_fits, with_draft, with_end, with_held_in, with_layer, with_named, with_shot, with_text, with_verdicts}

-- what holds of each kind of piece that is read behind those that leave this
pub record Kinds (so : SoFar) (P : Entry → SoFar → Type 0) : Type 0 where
  pub text : (name text : List ℕ) → text_fits so name text ≡ true → P (entry.Document name text) (with_text so name text)
  pub row : (doc : ℕ) (who : List ℕ) (revision flags : ℕ) → row_fits so doc who revision flags ≡ true → P (entry.Row doc who revision flags) (with_named so doc who revision flags)
  pub layer : (lines : List ℕ) (layer : Annotations) → TakesLayer so.state so.part lines layer → P (entry.Layer lines) (record so { part = with_layer so.part layer })
  pub draft : (bytes : List ℕ) (done undone : List Command) → TakesDraft so.state so.part bytes done undone → P (entry.Draft bytes) (record so { part = with_draft so.part done undone })
  pub shot : (doc layers : ℕ) → shot_fits so doc layers ≡ true → P (entry.Snapshot doc layers) (with_shot so doc layers)
  pub held : (who lines : List ℕ) (layer : Annotations) → TakesHeld so.state so.part who lines layer → P (entry.HeldLayer who lines) (record so { part = with_held_in so.part who layer })
  pub decided : (bytes : List ℕ) (verdicts : List (ItemId × Verdict)) → TakesVerdicts so.state so.part bytes verdicts → P (entry.Decided bytes) (record so { state = with_verdicts so.state so.part verdicts; part = part.Shots })
  pub end : end_fits so ≡ true → P entry.End (with_end so)

-- so it holds of each piece
pub by_kind : (so : SoFar) (P : Entry → SoFar → Type 0) → Kinds so P → (e : Entry) (now : SoFar) → Reads so e now → P e now
by_kind so P k (entry.Document name text) now r = subst (P (entry.Document name text)) (sym r.1) (k.text name text r.0)
by_kind so P k (entry.Row doc who revision flags) now r = subst (P (entry.Row doc who revision flags)) (sym r.1) (k.row doc who revision flags r.0)
by_kind so P k (entry.Layer lines) now r = subst (P (entry.Layer lines)) (sym r.2) (k.layer lines r.0 r.1)
by_kind so P k (entry.Draft bytes) now r = subst (P (entry.Draft bytes)) (sym r.1.2) (k.draft bytes r.0 r.1.0 r.1.1)
by_kind so P k (entry.Snapshot doc layers) now r = subst (P (entry.Snapshot doc layers)) (sym r.1) (k.shot doc layers r.0)
by_kind so P k (entry.HeldLayer who lines) now r = subst (P (entry.HeldLayer who lines)) (sym r.2) (k.held who lines r.0 r.1)
by_kind so P k (entry.Decided bytes) now r = subst (P (entry.Decided bytes)) (sym r.2) (k.decided bytes r.0 r.1)
by_kind so P k entry.End now r = subst (P entry.End) (sym r.1) (k.end r.0)
by_kind so P k _ now r = absurd r
