-- A decision that is accepted.
use Rattle.std.proofs.Common.{◌≡◌, ℕ, ◌<◌, List, length, Option, Some, None, refl, sym, ◌∙◌, ap, subst}
use Rattle.mark_base.specs.declared.ann_id.AnnId.{AnnId}
use Rattle.unanimous_merge.specs.Readings.{readings}
use Rattle.unanimous_merge.specs.declared.item.ItemId.{ItemId}
use Rattle.curator_decisions.specs.declared.verdict.Verdict.{Verdict}
use Rattle.curator_decisions.specs.Decisions.{with_verdict, without_verdict}
use Rattle.curator_decisions.specs.DecisionFaults.{decide_fault, undecide_fault}
use Rattle.project_machine.specs.ProjectState.{ProjectState, Snapshot, holder_of, item_in, snapshot, snapshot_of, text_of}
use Rattle.project_machine.specs.Requests.{Decide, Decided, ItemDecided, ItemUndecided, Undecide}
use Rattle.project_machine.specs.Machine.{first_of, tests}
use Rattle.project_state.specs.declared.act.Act.TheVariants as act
use Rattle.project_state.specs.declared.change.Change.TheVariants as does
use Rattle.project_state.specs.declared.reply.Reply.TheVariants as says
use Rattle.project_steps.specs.declared.steps.accepted.Accepted.{Accepted}
use Rattle.project_steps.specs.Steps.Accepting.{Accepts}
use Rattle.project_steps.proofs.StepsProofs.ActLemmas.{decides, undecides}
use Rattle.project_steps.proofs.StepsProofs.ShotLemmas.{decide_free, is_shot, undecide_free}

-- the item of a place
abbrev pub item_of : ℕ → AnnId → ItemId
item_of place id = record { holder = place; id = id }

-- what is made of a decision
abbrev pub decided : List ℕ → ℕ → ItemId → Verdict → List (ItemId × Verdict) → Accepted
decided by number item verdict decisions = record { reply = says.Decided (length decisions); made = Some (record { change = does.Decide by number item.holder item.id verdict; act = act.Decide number decisions }) }

abbrev pub undecided : List ℕ → ℕ → ItemId → List (ItemId × Verdict) → Accepted
undecided by number item decisions = record { reply = says.Decided (length decisions); made = Some (record { change = does.Undecide by number item.holder item.id; act = act.Decide number decisions }) }

decide_accepts : (s : ProjectState) (caller : List ℕ) (number : ℕ) (holder : List ℕ) (id : AnnId) (verdict : Verdict) (shot : Snapshot) (item : ItemId) (decisions : List (ItemId × Verdict)) → Some shot ≡ snapshot_of s number → item ≡ item_in shot holder id
    → decisions ≡ with_verdict shot.verdicts item verdict → Accepts s caller (Decide number holder id verdict) (decided caller number item verdict decisions)
decide_accepts s caller number holder id verdict shot item decisions e same is =
    let one : snapshot s number ≡ shot = is_shot s number shot e in
    let here : item ≡ item_in (snapshot s number) holder id = same ∙ ap (λ (x : Snapshot). item_in x holder id) (sym one) in
    let of_it : decisions ≡ with_verdict (snapshot s number).verdicts item verdict = is ∙ ap (λ (x : Snapshot). with_verdict x.verdicts item verdict) (sym one) in
    record {
      answer = ap (λ (ds : List (ItemId × Verdict)). Decided (length ds)) (of_it ∙ ap (λ (i : ItemId). with_verdict (snapshot s number).verdicts i verdict) here);
      change = ap (λ (i : ItemId). Some (ItemDecided caller number i.holder i.id verdict)) here;
      made = record { acts = decides s caller number item verdict decisions of_it; tables = refl; can = tt; fits = tt };
    }

undecide_accepts : (s : ProjectState) (caller : List ℕ) (number : ℕ) (holder : List ℕ) (id : AnnId) (shot : Snapshot) (item : ItemId) (decisions : List (ItemId × Verdict)) → Some shot ≡ snapshot_of s number → item ≡ item_in shot holder id
    → decisions ≡ without_verdict shot.verdicts item → Accepts s caller (Undecide number holder id) (undecided caller number item decisions)
undecide_accepts s caller number holder id shot item decisions e same is =
    let one : snapshot s number ≡ shot = is_shot s number shot e in
    let here : item ≡ item_in (snapshot s number) holder id = same ∙ ap (λ (x : Snapshot). item_in x holder id) (sym one) in
    let of_it : decisions ≡ without_verdict (snapshot s number).verdicts item = is ∙ ap (λ (x : Snapshot). without_verdict x.verdicts item) (sym one) in
    record {
      answer = ap (λ (ds : List (ItemId × Verdict)). Decided (length ds)) (of_it ∙ ap (λ (i : ItemId). without_verdict (snapshot s number).verdicts i) here);
      change = ap (λ (i : ItemId). Some (ItemUndecided caller number i.holder i.id)) here;
      made = record { acts = undecides s caller number item decisions of_it; tables = refl; can = tt; fits = tt };
    }

pub decide_done : (s : ProjectState) (caller : List ℕ) (number : ℕ) (holder : List ℕ) (id : AnnId) (verdict : Verdict) (shot : Snapshot) (place : ℕ) (decisions : List (ItemId × Verdict)) (accepted : Accepted) → Some shot ≡ snapshot_of s number
    → place ≡ holder_of shot holder → place < length shot.holders → decide_fault s.conf (length (text_of s shot)) (readings shot.holders) shot.verdicts (item_of place id) verdict ≡ None
    → decisions ≡ with_verdict shot.verdicts (item_of place id) verdict → accepted ≡ decided caller number (item_of place id) verdict decisions
    → (first_of (tests s caller (Decide number holder id verdict)) ≡ None) × Accepts s caller (Decide number holder id verdict) accepted
decide_done s caller number holder id verdict shot place decisions accepted e at low free is made =
    let same : item_of place id ≡ item_in shot holder id = ap (λ (n : ℕ). item_of n id) at in (
      decide_free s caller number holder id verdict shot (item_of place id) e (subst (λ (n : ℕ). n < length shot.holders) at low) same free,
      subst (Accepts s caller (Decide number holder id verdict)) (sym made) (decide_accepts s caller number holder id verdict shot (item_of place id) decisions e same is),
    )

pub undecide_done : (s : ProjectState) (caller : List ℕ) (number : ℕ) (holder : List ℕ) (id : AnnId) (shot : Snapshot) (place : ℕ) (decisions : List (ItemId × Verdict)) (accepted : Accepted) → Some shot ≡ snapshot_of s number
    → place ≡ holder_of shot holder → place < length shot.holders → undecide_fault s.conf (length (text_of s shot)) (readings shot.holders) shot.verdicts (item_of place id) ≡ None
    → decisions ≡ without_verdict shot.verdicts (item_of place id) → accepted ≡ undecided caller number (item_of place id) decisions
    → (first_of (tests s caller (Undecide number holder id)) ≡ None) × Accepts s caller (Undecide number holder id) accepted
undecide_done s caller number holder id shot place decisions accepted e at low free is made =
    let same : item_of place id ≡ item_in shot holder id = ap (λ (n : ℕ). item_of n id) at in (
      undecide_free s caller number holder id shot (item_of place id) e (subst (λ (n : ℕ). n < length shot.holders) at low) same free,
      subst (Accepts s caller (Undecide number holder id)) (sym made) (undecide_accepts s caller number holder id shot (item_of place id) decisions e same is),
    )
