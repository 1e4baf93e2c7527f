-- The three rules that a curator's decisions can break, by items: which two items cannot both be in, and how many can be.
use Rattle.std.specs.Prelude.{◌≡◌, ℕ, ◌<◌, ◌≤◌, ◌==◌, ◌&&◌, ◌||◌, ◌↔◌, Bool, true, false, List, Option, Some, None, slice_get, option_map, option_and_then, All, AllPairs}
use Rattle.std.specs.Option.{option_map_or}
use Rattle.mark_base.specs.declared.ann_id.AnnId.{AnnId}
use Rattle.mark_base.specs.declared.ann_id.Kind.{Kind}
use Rattle.conf_model.specs.Configurations.{Configuration}
use Rattle.layer_model.specs.declared.mark.Mark.{Mark}
use Rattle.layer_model.specs.declared.mark.Mark.TheVariants as marked
use Rattle.layer_model.specs.Annotations.{Annotations}
use Rattle.layer_rules.specs.LayerRules.{refused_overlap}
use Rattle.layer_rules.specs.WellFormed.{Obeys}
use Rattle.unanimous_merge.specs.declared.item.ItemId.{ItemId}
use Rattle.unanimous_merge.specs.Items.{Held, name_of}
use Rattle.unanimous_merge.specs.Readings.{Reading, content_under, readings}
use Rattle.curator_decisions.specs.declared.verdict.Verdict.{Verdict}
use Rattle.curator_decisions.specs.Curated.{count_of_letter, curated, letter_of_item}
use Rattle.curator_decisions.specs.CuratedLaws.{AreFinished}
use Rattle.curator_decisions.specs.DecisionFaults.{decision_fault, lacking, layer_fault, missing}
use Rattle.curator_decisions.specs.Decisions.{Decided, held_as, is_in, item_rank, items_in, with_verdict, without_verdict}

-- ---- two items

-- two attributes of one type, set on annotations of one content
abbrev pub are_rivals : (AnnId → ℕ) → (AnnId → ℕ) → Mark → Mark → Bool
are_rivals ours theirs (marked.Attribute a) (marked.Attribute b) = a.kind.n == b.kind.n && ours a.target == theirs b.target
are_rivals ours theirs a b = false

-- two annotations, the first of a lower ID, that cannot both be there: rivals, or spans whose overlap is not allowed
abbrev pub marks_clash : Configuration → (AnnId → ℕ) → (AnnId → ℕ) → Mark → Mark → Bool
marks_clash conf ours theirs mark later = are_rivals ours theirs mark later || refused_overlap conf later mark

-- the annotation of an item, with the layer that has it
abbrev pub told_of : List Reading → Held → Option (Reading × Mark)
told_of layers held = option_and_then (λ layer. option_map (λ mark. (layer, mark)) (layer.mark held.id)) (slice_get layers held.holder)

-- two items, the first before the second, that cannot both be in
abbrev pub clash : Configuration → List Reading → Held → Held → Bool
clash conf layers held later =
    option_map_or (λ one. option_map_or (λ other. marks_clash conf (content_under one.0) (content_under other.0) one.1 other.1) (told_of layers later) false) (told_of layers held) false

-- ---- the items that are in

-- items can be in together: no two of them clash, and there are at most 10,000 of each letter
pub record StandTogether (conf : Configuration) (layers : List Reading) (helds : List Held) : Type 0 where
  pub apart : AllPairs (λ held later. clash conf layers held later ≡ false) helds
  pub few : (kind : Kind) → count_of_letter kind helds ≤ 10000

-- two items do not clash, whichever comes first
abbrev pub AreApart : Configuration → List Reading → Held → Held → Type 0
AreApart conf layers held other =
    (item_rank (name_of held) < item_rank (name_of other) → clash conf layers held other ≡ false) × (item_rank (name_of other) < item_rank (name_of held) → clash conf layers other held ≡ false)

-- an item can be beside the others: it clashes with none of them, and there are at most 10,000 of its letter
pub record StandsBeside (conf : Configuration) (layers : List Reading) (helds : List Held) (held : Held) : Type 0 where
  pub apart : All (AreApart conf layers held) helds
  pub few : count_of_letter (letter_of_item held) helds ≤ 10000

-- ---- laws

-- where nothing is lacking, the curated layer obeys exactly where the items that are in can be in together
abbrev pub ObeysByItems : Type 0
ObeysByItems =
    (conf : Configuration) (characters : ℕ) (rows : List (List ℕ × Annotations)) (decided : Decided) → AreFinished conf characters rows → missing (readings rows) decided ≡ None
    → Obeys conf characters (curated (readings rows) decided) ↔ StandTogether conf (readings rows) (items_in (readings rows) decided)

-- the layer of decisions that differ from accepted ones at one item, and that lack nothing there, has no fault exactly where
-- that item is out or can be beside the others that are in
abbrev pub JudgesItem : Configuration → ℕ → List (List ℕ × Annotations) → Decided → Held → Type 0
JudgesItem conf characters rows changed held =
    layer_fault conf characters (readings rows) changed ≡ None ↔ (is_in (readings rows) changed held ≡ true → StandsBeside conf (readings rows) (items_in (readings rows) changed) held)

-- so a verdict is judged by its item
abbrev pub VerdictsByItem : Type 0
VerdictsByItem =
    (conf : Configuration) (characters : ℕ) (rows : List (List ℕ × Annotations)) (decided : Decided) (item : ItemId) (verdict : Verdict) (held : Held) → AreFinished conf characters rows
    → decision_fault conf characters (readings rows) decided ≡ None → held_as (readings rows) item ≡ Some held → lacking (readings rows) (with_verdict decided item verdict) held ≡ None
    → JudgesItem conf characters rows (with_verdict decided item verdict) held

-- and the taking back of one
abbrev pub TakingBackByItem : Type 0
TakingBackByItem =
    (conf : Configuration) (characters : ℕ) (rows : List (List ℕ × Annotations)) (decided : Decided) (item : ItemId) (held : Held) → AreFinished conf characters rows
    → decision_fault conf characters (readings rows) decided ≡ None → held_as (readings rows) item ≡ Some held → lacking (readings rows) (without_verdict decided item) held ≡ None
    → JudgesItem conf characters rows (without_verdict decided item) held
