-- What the act of each change does is what the change makes happen.
use Rattle.std.proofs.Common.{◌≡◌, ℕ, ◌+◌, ◌-◌, ◌<◌, ◌^◌, Bool, true, false, List, length, Global, refl, ap, sym, ◌∙◌, subst}
use Rattle.std.specs.Arc.{arc_value}
use Rattle.std.specs.declared.sync.Arc.{Arc}
use Rattle.layer_core.specs.declared.command.Command.{Command}
use Rattle.layer_model.specs.Annotations.{Annotations}
use Rattle.unanimous_merge.specs.declared.item.ItemId.{ItemId}
use Rattle.curator_decisions.specs.declared.verdict.Verdict.{Verdict}
use Rattle.curator_decisions.specs.Decisions.{with_verdict, without_verdict}
use Rattle.project_machine.specs.ProjectState.{Document, ProjectState, Snapshot, annotators, is_annotator, is_there, new_document, number_of, rater_of, row_at, row_in, snapshot}
use Rattle.project_machine.specs.Requests.{Happened, CheckedOut, TakenOver, LayerCommitted, LayerParked, LayerFinished, LayerReopened, LayerIgnored, LayerReadmitted, SnapshotTaken, TextAdded, ItemDecided, ItemUndecided}
use Rattle.project_machine.specs.History.{effect, new_snapshot}
use Rattle.project_state.specs.Acting.{CanAct, performed}
use Rattle.project_state.specs.Tables.Tabling.{tabling_by, tabling_of}
use Rattle.project_state.specs.declared.act.Act.TheVariants as act
use Rattle.project_steps.proofs.StepsProofs.OutcomeLemmas.{number_within, rater_within}

pub checks_out : (s : ProjectState) (by : List ℕ) (doc rater : ℕ) → rater ≡ rater_of s by → performed (act.Hold doc rater) s ≡ effect (s.place + 1) (CheckedOut by doc) s
checks_out s by doc rater e = ap (λ r. performed (act.Hold doc r) s) e

pub takes_over : (s : ProjectState) (by : List ℕ) (doc rater : ℕ) → rater ≡ rater_of s by → performed (act.Hold doc rater) s ≡ effect (s.place + 1) (TakenOver by doc) s
takes_over s by doc rater e = ap (λ r. performed (act.Hold doc r) s) e

pub finishes : (s : ProjectState) (by : List ℕ) (doc rater : ℕ) → rater ≡ rater_of s by → performed (act.Finish doc rater true) s ≡ effect (s.place + 1) (LayerFinished by doc) s
finishes s by doc rater e = ap (λ r. performed (act.Finish doc r true) s) e

pub reopens : (s : ProjectState) (by : List ℕ) (doc rater : ℕ) (who : List ℕ) → rater ≡ rater_of s who → performed (act.Finish doc rater false) s ≡ effect (s.place + 1) (LayerReopened by doc who) s
reopens s by doc rater who e = ap (λ r. performed (act.Finish doc r false) s) e

pub ignores : (s : ProjectState) (by : List ℕ) (doc rater : ℕ) (who : List ℕ) → rater ≡ rater_of s who → performed (act.Ignore doc rater true) s ≡ effect (s.place + 1) (LayerIgnored by doc who) s
ignores s by doc rater who e = ap (λ r. performed (act.Ignore doc r true) s) e

pub readmits : (s : ProjectState) (by : List ℕ) (doc rater : ℕ) (who : List ℕ) → rater ≡ rater_of s who → performed (act.Ignore doc rater false) s ≡ effect (s.place + 1) (LayerReadmitted by doc who) s
readmits s by doc rater who e = ap (λ r. performed (act.Ignore doc r false) s) e

pub parks : (s : ProjectState) (by : List ℕ) (doc rater hold : ℕ) (done undone done_too undone_too : List Command) → rater ≡ rater_of s by → done_too ≡ done → undone_too ≡ undone
    → performed (act.Park doc rater done_too undone_too) s ≡ effect (s.place + 1) (LayerParked by doc hold done undone) s
parks s by doc rater hold done undone done_too undone_too e d u =
    ap (λ r. performed (act.Park doc r done_too undone_too) s) e
    ∙ (ap (λ xs. performed (act.Park doc (rater_of s by) xs undone_too) s) d ∙ ap (λ xs. performed (act.Park doc (rater_of s by) done xs) s) u)

pub commits : (s : ProjectState) (by : List ℕ) (doc rater hold : ℕ) (shared : Annotations) (z : Arc Annotations Global) → rater ≡ rater_of s by → arc_value z ≡ shared
    → performed (act.Commit doc rater z) s ≡ effect (s.place + 1) (LayerCommitted by doc hold shared) s
commits s by doc rater hold shared z e is = ap (λ r. performed (act.Commit doc r z) s) e ∙ ap (λ layer. effect (s.place + 1) (LayerCommitted by doc hold layer) s) is

pub snaps : (s : ProjectState) (by : List ℕ) (doc : ℕ) (taken : Snapshot) → taken ≡ new_snapshot s doc → performed (act.Snap taken) s ≡ effect (s.place + 1) (SnapshotTaken by doc) s
snaps s by doc taken is = ap (λ shot. performed (act.Snap shot) s) is

pub adds : (s : ProjectState) (by name text : List ℕ) (added : Document) → added ≡ new_document s name text → performed (act.AddDocument added) s ≡ effect (s.place + 1) (TextAdded by name text) s
adds s by name text added is = ap (λ d. performed (act.AddDocument d) s) is

pub decides : (s : ProjectState) (by : List ℕ) (number : ℕ) (item : ItemId) (verdict : Verdict) (decisions : List (ItemId × Verdict)) → decisions ≡ with_verdict (snapshot s number).verdicts item verdict
    → performed (act.Decide number decisions) s ≡ effect (s.place + 1) (ItemDecided by number item.holder item.id verdict) s
decides s by number item verdict decisions is = ap (λ verdicts. performed (act.Decide number verdicts) s) is

pub undecides : (s : ProjectState) (by : List ℕ) (number : ℕ) (item : ItemId) (decisions : List (ItemId × Verdict)) → decisions ≡ without_verdict (snapshot s number).verdicts item
    → performed (act.Decide number decisions) s ≡ effect (s.place + 1) (ItemUndecided by number item.holder item.id) s
undecides s by number item decisions is = ap (λ verdicts. performed (act.Decide number verdicts) s) is

-- the row of an annotator in a document by its name is there
pub row_there : (s : ProjectState) (name who : List ℕ) (doc rater : ℕ) → is_there s name ≡ true → is_annotator s who ≡ true → doc ≡ number_of s name → rater ≡ rater_of s who → (doc < length s.documents) × (rater < length (annotators s))
row_there s name who doc rater is one d r =
    (subst (λ (n : ℕ). n < length s.documents) (sym d) (number_within s name is), subst (λ (n : ℕ). n < length (annotators s)) (sym r) (rater_within s who one))

-- a commit can be counted where the count of the row is not at its last value
pub can_commit : (s : ProjectState) (name who : List ℕ) (doc rater revision : ℕ) (layer : Arc Annotations Global) → doc ≡ number_of s name → rater ≡ rater_of s who → revision ≡ (row_in s name who).revision → revision < 2 ^ 64 - 1
    → CanAct (act.Commit doc rater layer) s
can_commit s name who doc rater revision layer d r e low =
    let same : (row_at s doc rater).revision ≡ revision = ap (λ (n : ℕ). (row_at s n rater).revision) d ∙ (ap (λ (n : ℕ). (row_at s (number_of s name) n).revision) r ∙ sym e) in
    subst (λ (n : ℕ). n < 2 ^ 64 - 1) (sym same) low

-- ---- what the act of each change does to the tables is what the change does to them

pub adds_tabled : (s : ProjectState) (by name text : List ℕ) (added : Document) → added ≡ new_document s name text → tabling_by s (act.AddDocument added) ≡ tabling_of s (TextAdded by name text)
adds_tabled s by name text added is = ap (λ d. tabling_by s (act.AddDocument d)) is

pub commits_tabled : (s : ProjectState) (by : List ℕ) (doc rater hold : ℕ) (shared : Annotations) (z : Arc Annotations Global) → rater ≡ rater_of s by → arc_value z ≡ shared
    → tabling_by s (act.Commit doc rater z) ≡ tabling_of s (LayerCommitted by doc hold shared)
commits_tabled s by doc rater hold shared z e is = ap (λ r. tabling_by s (act.Commit doc r z)) e ∙ ap (λ layer. tabling_of s (LayerCommitted by doc hold layer)) is

pub ignores_tabled : (s : ProjectState) (by : List ℕ) (doc rater : ℕ) (who : List ℕ) → rater ≡ rater_of s who → tabling_by s (act.Ignore doc rater true) ≡ tabling_of s (LayerIgnored by doc who)
ignores_tabled s by doc rater who e = ap (λ r. tabling_by s (act.Ignore doc r true)) e

pub readmits_tabled : (s : ProjectState) (by : List ℕ) (doc rater : ℕ) (who : List ℕ) → rater ≡ rater_of s who → tabling_by s (act.Ignore doc rater false) ≡ tabling_of s (LayerReadmitted by doc who)
readmits_tabled s by doc rater who e = ap (λ r. tabling_by s (act.Ignore doc r false)) e
