-- What an act does is what happened.
use Rattle.std.proofs.Common.{◌≡◌, ℕ, ◌+◌, true, false, List, ap, refl}
use Rattle.std.specs.Arc.{arc_value}
use Rattle.std.specs.declared.sync.Arc.{Arc}
use Rattle.mark_base.specs.declared.ann_id.AnnId.{AnnId}
use Rattle.layer_model.specs.Annotations.{Annotations}
use Rattle.layer_core.specs.declared.command.Command.{Command}
use Rattle.unanimous_merge.specs.declared.item.ItemId.{ItemId}
use Rattle.curator_decisions.specs.declared.verdict.Verdict.{Verdict}
use Rattle.curator_decisions.specs.Decisions.{with_verdict, without_verdict}
use Rattle.project_machine.specs.ProjectState.{Document, Snapshot, ProjectState, new_document, rater_of, snapshot}
use Rattle.project_machine.specs.Requests.{TextAdded, CheckedOut, TakenOver, LayerCommitted, LayerParked, LayerFinished, LayerReopened, LayerIgnored, LayerReadmitted, SnapshotTaken, ItemDecided, ItemUndecided, AllFreed}
use Rattle.project_machine.specs.History.{effect, new_snapshot}
use Rattle.project_state.specs.declared.act.Act.TheVariants as act
use Rattle.project_state.specs.Acting.{performed}

pub adds_text : (s : ProjectState) (by name text : List ℕ) (added : Document) → added ≡ new_document s name text → performed (act.AddDocument added) s ≡ effect (s.place + 1) (TextAdded by name text) s
adds_text s by name text added e = ap (λ (d : Document). performed (act.AddDocument d) s) e

pub checks_out : (s : ProjectState) (by : List ℕ) (doc rater : ℕ) → rater ≡ rater_of s by → performed (act.Hold doc rater) s ≡ effect (s.place + 1) (CheckedOut by doc) s
checks_out s by doc rater e = ap (λ n. performed (act.Hold doc n) s) e

pub takes_over : (s : ProjectState) (by : List ℕ) (doc rater : ℕ) → rater ≡ rater_of s by → performed (act.Hold doc rater) s ≡ effect (s.place + 1) (TakenOver by doc) s
takes_over s by doc rater e = ap (λ n. performed (act.Hold doc n) s) e

pub commits : (s : ProjectState) (by : List ℕ) (doc rater hold : ℕ) (layer : Arc Annotations _) → rater ≡ rater_of s by → performed (act.Commit doc rater layer) s ≡ effect (s.place + 1) (LayerCommitted by doc hold (arc_value layer)) s
commits s by doc rater hold layer e = ap (λ n. performed (act.Commit doc n layer) s) e

pub parks : (s : ProjectState) (by : List ℕ) (doc rater hold : ℕ) (done undone : List Command) → rater ≡ rater_of s by → performed (act.Park doc rater done undone) s ≡ effect (s.place + 1) (LayerParked by doc hold done undone) s
parks s by doc rater hold done undone e = ap (λ n. performed (act.Park doc n done undone) s) e

pub finishes : (s : ProjectState) (by : List ℕ) (doc rater : ℕ) → rater ≡ rater_of s by → performed (act.Finish doc rater true) s ≡ effect (s.place + 1) (LayerFinished by doc) s
finishes s by doc rater e = ap (λ n. performed (act.Finish doc n true) s) e

pub reopens : (s : ProjectState) (by : List ℕ) (doc : ℕ) (who : List ℕ) (rater : ℕ) → rater ≡ rater_of s who → performed (act.Finish doc rater false) s ≡ effect (s.place + 1) (LayerReopened by doc who) s
reopens s by doc who rater e = ap (λ n. performed (act.Finish doc n false) s) e

pub ignores : (s : ProjectState) (by : List ℕ) (doc : ℕ) (who : List ℕ) (rater : ℕ) → rater ≡ rater_of s who → performed (act.Ignore doc rater true) s ≡ effect (s.place + 1) (LayerIgnored by doc who) s
ignores s by doc who rater e = ap (λ n. performed (act.Ignore doc n true) s) e

pub readmits : (s : ProjectState) (by : List ℕ) (doc : ℕ) (who : List ℕ) (rater : ℕ) → rater ≡ rater_of s who → performed (act.Ignore doc rater false) s ≡ effect (s.place + 1) (LayerReadmitted by doc who) s
readmits s by doc who rater e = ap (λ n. performed (act.Ignore doc n false) s) e

pub takes_snapshot : (s : ProjectState) (by : List ℕ) (doc : ℕ) (taken : Snapshot) → taken ≡ new_snapshot s doc → performed (act.Snap taken) s ≡ effect (s.place + 1) (SnapshotTaken by doc) s
takes_snapshot s by doc taken e = ap (λ (shot : Snapshot). performed (act.Snap shot) s) e

pub decides : (s : ProjectState) (by : List ℕ) (number holder : ℕ) (id : AnnId) (verdict : Verdict) (decisions : List (ItemId × Verdict)) → decisions ≡ with_verdict (snapshot s number).verdicts (record { holder = holder; id = id }) verdict
    → performed (act.Decide number decisions) s ≡ effect (s.place + 1) (ItemDecided by number holder id verdict) s
decides s by number holder id verdict decisions e = ap (λ (all : List (ItemId × Verdict)). performed (act.Decide number all) s) e

pub undecides : (s : ProjectState) (by : List ℕ) (number holder : ℕ) (id : AnnId) (decisions : List (ItemId × Verdict)) → decisions ≡ without_verdict (snapshot s number).verdicts (record { holder = holder; id = id })
    → performed (act.Decide number decisions) s ≡ effect (s.place + 1) (ItemUndecided by number holder id) s
undecides s by number holder id decisions e = ap (λ (all : List (ItemId × Verdict)). performed (act.Decide number all) s) e

pub frees : (s : ProjectState) → performed act.FreeAll s ≡ effect (s.place + 1) AllFreed s
frees s = refl
