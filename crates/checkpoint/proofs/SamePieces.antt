-- What a piece leaves is determined by it and by what those before it left.
use Rattle.std.proofs.Common.{◌≡◌, ℕ, ◌<◌, ◌≤◌, List, length, sym, ◌∙◌, ap, subst}
use Rattle.std.specs.Prelude.{Result, Ok}
use Rattle.entry_bytes.specs.declared.entry.Entry.{Entry}
use Rattle.entry_bytes.specs.declared.entry.Entry.TheVariants as entry
use Rattle.entry_bytes.specs.declared.person.Person.{Person}
use Rattle.entry_bytes.specs.Entries.{IsEntry, entry_bytes}
use Rattle.conf_model.specs.ConfOf.{Fault, conf_of}
use Rattle.conf_model.specs.ConfText.{conf_text}
use Rattle.conf_model.specs.Configurations.{Configuration}
use Rattle.conf_model.specs.Sound as configuration
use Rattle.layer_model.specs.Annotations.{Annotations}
use Rattle.layer_core.specs.declared.command.Command.{Command}
use Rattle.unanimous_merge.specs.declared.item.ItemId.{ItemId}
use Rattle.curator_decisions.specs.declared.verdict.Verdict.{Verdict}
use Rattle.project_machine.specs.Legal.{IsKept, IsSound}
use Rattle.project_machine.specs.ProjectState.{Document, ProjectState, document, no_document}
use Rattle.project_machine.specs.RequestValues.{IsDocText}
use Rattle.project_machine.proofs.RowLemmas.{Flawless}
use Rattle.project_state.proofs.EntriesProofs.AgainLemmas.{IsOfText, LoadsAreRead, ReadAgain, TypedAreRead}
use Rattle.project_state.proofs.EntriesProofs.SizeLemmas.{commit_long}
use Rattle.checkpoint.specs.Projects.{begun}
use Rattle.checkpoint.specs.declared.so_far.Part.{Part}
use Rattle.checkpoint.specs.declared.so_far.Part.TheVariants as part
use Rattle.checkpoint.specs.declared.so_far.SoFar.{SoFar}
use Rattle.checkpoint.specs.Reading.{Begins, Reads, TakesDraft, TakesHeld, TakesLayer, TakesVerdicts, with_draft, with_held_in, with_layer, with_verdicts}
use Rattle.checkpoint.proofs.SameValues.{AcceptedAreWritten, draft_long, held_long, layer_same, scripts_same, verdicts_same}
use Rattle.checkpoint.proofs.StandLemmas.{IsPart, Stands}

-- sound configurations are read back
abbrev pub ReadBack : Type 0
ReadBack = (conf : Configuration) → configuration.IsSound conf → conf_of (conf_text conf) ≡ Ok conf

-- no two entries have the same bytes
abbrev pub ToldApart : Type 0
ToldApart = (d e : Entry) → IsEntry d → IsEntry e → entry_bytes d ≡ entry_bytes e → d ≡ e

-- the laws on which telling rests
pub record Laws : Type 0 where
  pub apart : ToldApart
  pub back : ReadBack
  pub loads : LoadsAreRead
  pub typed : TypedAreRead
  pub again : ReadAgain
  pub accepted : AcceptedAreWritten
  pub flawless : Flawless

-- ---- the first piece

abbrev right : Configuration → Result Configuration Fault
right conf = Ok conf

ok_same : (a b : Configuration) → right a ≡ right b → a ≡ b
ok_same a b e = cc

-- what the first piece leaves, by its configuration
abbrev begun_with : ℕ → ℕ → ℕ → ℕ → List Person → Configuration → SoFar
begun_with place level documents snapshots people conf = record { state = begun place level people conf; texts = documents; room = 16777216; shots = snapshots; part = part.Start }

pub begins_one : ReadBack → (e : Entry) (a b : SoFar) → Begins e a → Begins e b → a ≡ b
begins_one back (entry.Restored place level documents snapshots text people) a b x y =
    let same : x.0 ≡ y.0 = ok_same x.0 y.0 (sym (back x.0 x.1.founding.sound) ∙ (ap conf_of (sym x.1.is ∙ y.1.is) ∙ back y.0 y.1.founding.sound)) in
    x.2 ∙ (ap (begun_with place level documents snapshots people) same ∙ sym y.2)
begins_one back _ a b x y = absurd x

-- ---- the pieces behind it

-- the configuration and the text of a document are those of a program
pub of_text : (s : ProjectState) (d : Document) → IsKept s → IsDocText d.text → IsOfText s.conf d.text
of_text s d k text = record { sound = k.founding.sound; short = text.short; valid = text.valid; characters = text.characters }

-- so it is with the document of a number
pub of_document : (s : ProjectState) (doc : ℕ) → IsKept s → doc < length s.documents → IsOfText s.conf (document s doc).text
of_document s doc k within = of_text s (document s doc) k (k.documents doc no_document within).text

layers_one : LoadsAreRead → (s : ProjectState) (p : Part) (lines : List ℕ) (a b : Annotations) → IsSound s → IsPart s p → TakesLayer s p lines a → TakesLayer s p lines b → a ≡ b
layers_one loads s (part.Row r) lines a b sound is x y =
    let short : length lines ≤ 16777216 = commit_long r.who 0 0 lines x.1 in
    layer_same loads s.conf (document s r.doc).text a b (of_document s r.doc sound.kept is.within) x.2.obeys y.2.obeys (subst (λ (l : List ℕ). length l ≤ 16777216) x.2.are short) (subst (λ (l : List ℕ). length l ≤ 16777216) y.2.are short)
    (sym x.2.are ∙ y.2.are)
layers_one loads s _ lines a b sound is x y = absurd x

held_one : LoadsAreRead → (s : ProjectState) (p : Part) (who lines : List ℕ) (a b : Annotations) → IsSound s → IsPart s p → TakesHeld s p who lines a → TakesHeld s p who lines b → a ≡ b
held_one loads s (part.Shot h) who lines a b sound is x y =
    let short : length lines ≤ 16777216 = held_long who lines x.1 in
    layer_same loads s.conf (document s h.doc).text a b (of_document s h.doc sound.kept is.doc) x.2.obeys y.2.obeys (subst (λ (l : List ℕ). length l ≤ 16777216) x.2.are short) (subst (λ (l : List ℕ). length l ≤ 16777216) y.2.are short)
    (sym x.2.are ∙ y.2.are)
held_one loads s _ who lines a b sound is x y = absurd x

drafts_one : Laws → (s : ProjectState) (p : Part) (bytes : List ℕ) (done undone did undid : List Command) → IsSound s → IsPart s p → TakesDraft s p bytes done undone → TakesDraft s p bytes did undid → (done ≡ did) × (undone ≡ undid)
drafts_one laws s (part.Row r) bytes done undone did undid sound is x y =
    scripts_same laws.loads laws.typed laws.again s.conf (document s r.doc).text done undone did undid (of_document s r.doc sound.kept is.within) x.2.typed y.2.typed
    (laws.accepted s.conf (document s r.doc).text r.row.layer done undone x.2.accepted) (laws.accepted s.conf (document s r.doc).text r.row.layer did undid y.2.accepted)
    (subst (λ (b : List ℕ). length b ≤ 16777216) x.2.are (draft_long bytes x.1)) (sym x.2.are ∙ y.2.are)
drafts_one laws s _ bytes done undone did undid sound is x y = absurd x

verdicts_one : (s : ProjectState) (p : Part) (bytes : List ℕ) (a b : List (ItemId × Verdict)) → TakesVerdicts s p bytes a → TakesVerdicts s p bytes b → a ≡ b
verdicts_one s (part.Shot h) bytes a b x y = verdicts_same a b (sym x.1.are ∙ y.1.are)
verdicts_one s _ bytes a b x y = absurd x

-- what a piece leaves behind those that leave this is determined
pub reads_one : Laws → (so : SoFar) → Stands so → (e : Entry) (a b : SoFar) → Reads so e a → Reads so e b → a ≡ b
reads_one laws so st (entry.Document name text) a b x y = x.1 ∙ sym y.1
reads_one laws so st (entry.Row doc who revision flags) a b x y = x.1 ∙ sym y.1
reads_one laws so st (entry.Layer lines) a b x y =
    x.2 ∙ (ap (λ (l : Annotations). record so { part = with_layer so.part l }) (layers_one laws.loads so.state so.part lines x.0 y.0 st.sound st.part_is x.1 y.1) ∙ sym y.2)
reads_one laws so st (entry.Draft bytes) a b x y =
    let same : (x.0 ≡ y.0) × (x.1.0 ≡ y.1.0) = drafts_one laws so.state so.part bytes x.0 x.1.0 y.0 y.1.0 st.sound st.part_is x.1.1 y.1.1 in
    x.1.2
    ∙ (ap (λ (cs : List Command). record so { part = with_draft so.part cs x.1.0 }) same.0 ∙ (ap (λ (cs : List Command). record so { part = with_draft so.part y.0 cs }) same.1 ∙ sym y.1.2))
reads_one laws so st (entry.Snapshot doc layers) a b x y = x.1 ∙ sym y.1
reads_one laws so st (entry.HeldLayer who lines) a b x y =
    x.2 ∙ (ap (λ (l : Annotations). record so { part = with_held_in so.part who l }) (held_one laws.loads so.state so.part who lines x.0 y.0 st.sound st.part_is x.1 y.1) ∙ sym y.2)
reads_one laws so st (entry.Decided bytes) a b x y =
    x.2
    ∙ (ap (λ (vs : List (ItemId × Verdict)). record so { state = with_verdicts so.state so.part vs; part = part.Shots }) (verdicts_one so.state so.part bytes x.0 y.0 x.1 y.1) ∙ sym y.2)
reads_one laws so st entry.End a b x y = x.1 ∙ sym y.1
reads_one laws so st _ a b x y = absurd x
