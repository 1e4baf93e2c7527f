-- Why a decision is refused, and which lists of decisions are accepted. Want of memory is no fault of a decision.
use Rattle.std.specs.Prelude.{ℕ, ◌==◌, ◌&&◌, Bool, true, false, not, cond, List, [], ◌++◌, map, is_some, slice_get, Option, Some, None, find, option_map}
use Rattle.std.specs.List.{list_all, list_any}
use Rattle.std.specs.Option.{option_map_or, option_or}
use Rattle.mark_base.specs.declared.ann_id.AnnId.{AnnId}
use Rattle.conf_model.specs.Configurations.{Configuration}
use Rattle.layer_model.specs.declared.rule.Rule.{Rule}
use Rattle.layer_model.specs.Annotations.{Annotations}
use Rattle.layer_rules.specs.WellFormed.{commit_fault, least_flaw}
use Rattle.content_keys.specs.LayerContents.{node_in}
use Rattle.unanimous_merge.specs.declared.item.ItemId.{ItemId}
use Rattle.unanimous_merge.specs.Items.{Held, leaders, name_of}
use Rattle.unanimous_merge.specs.Readings.{Reading, content_under}
use Rattle.curator_decisions.specs.declared.verdict.Verdict.{Verdict}
use Rattle.curator_decisions.specs.declared.verdict.Verdict.TheVariants.{Accept, Reject}
use Rattle.curator_decisions.specs.declared.decision_fault.DecisionFault.{DecisionFault}
use Rattle.curator_decisions.specs.declared.decision_fault.DecisionFault.TheVariants.{NoItem, AlreadyIn, NotIn, NotDecided, NeedsItem, Broken}
use Rattle.curator_decisions.specs.Decisions.{Decided, held_as, is_in, verdict_on, with_verdict, without_verdict}
use Rattle.curator_decisions.specs.Curated.{curated}

-- ---- what items name

-- the contents that the annotation of an ID names
abbrev pub named_contents : Reading → AnnId → List ℕ
named_contents layer id = option_map_or (λ node. map (content_under layer) node.named ++ map (λ link. content_under layer link.1) node.bag) (node_in layer.mark id) []

-- the first item names the second: its annotation names the content
abbrev pub names : List Reading → Held → Held → Bool
names layers held other = option_map_or (λ layer. list_any (λ content. content == other.content) (named_contents layer held.id)) (slice_get layers held.holder) false

-- the lowest item that an item names and that is not in
abbrev pub missing_of : List Reading → Decided → Held → Option Held
missing_of layers decided held = find (λ other. names layers held other && not (is_in layers decided other)) (leaders layers)

-- the lowest item that is in and names an item
abbrev pub dependent_on : List Reading → Decided → Held → Option Held
dependent_on layers decided held = find (λ other. names layers other held && is_in layers decided other) (leaders layers)

-- what an item that is in lacks, and what lacks an item that is not
abbrev pub lacking : List Reading → Decided → Held → Option Held
lacking layers decided held = cond (is_in layers decided held) (missing_of layers decided held) (dependent_on layers decided held)

-- the lowest item that is not in and that an item in names
abbrev pub missing : List Reading → Decided → Option Held
missing layers decided =
    find (λ other. not (is_in layers decided other) && list_any (λ held. is_in layers decided held && names layers held other) (leaders layers)) (leaders layers)

-- ---- what the layer breaks

-- the first rule by which a layer does not obey the configuration on a text of so many characters
abbrev pub first_broken : Configuration → ℕ → Annotations → Option Rule
first_broken conf characters layer = option_or (option_map (λ flaw. flaw.rule) (least_flaw conf characters layer)) (commit_fault conf layer)

-- the fault of the curated layer
abbrev pub layer_fault : Configuration → ℕ → List Reading → Decided → Option DecisionFault
layer_fault conf characters layers decided = option_map Broken (first_broken conf characters (curated layers decided))

-- the fault that an item is needed
abbrev pub needed : Option Held → Option DecisionFault
needed held = option_map (λ one. NeedsItem (name_of one)) held

-- ---- decisions

-- the fault of a verdict on an item that is in, or is not
abbrev pub verdict_fault : Bool → Verdict → Option DecisionFault
verdict_fault true Accept = Some AlreadyIn
verdict_fault true Reject = None
verdict_fault false Accept = None
verdict_fault false Reject = Some NotIn

-- the fault of taking back the verdict on an item
abbrev pub undecided_fault : Option Verdict → Option DecisionFault
undecided_fault None = Some NotDecided
undecided_fault (Some verdict) = None

-- the fault of decisions once they have changed at one item
abbrev pub changed_fault : Configuration → ℕ → List Reading → Decided → Held → Option DecisionFault
changed_fault conf characters layers decided held = option_or (needed (lacking layers decided held)) (layer_fault conf characters layers decided)

-- the first fault of a verdict on an item
abbrev pub decide_fault : Configuration → ℕ → List Reading → Decided → ItemId → Verdict → Option DecisionFault
decide_fault conf characters layers decided item verdict =
    option_map_or (λ held. option_or (verdict_fault (is_in layers decided held) verdict) (changed_fault conf characters layers (with_verdict decided item verdict) held))
    (held_as layers item) (Some NoItem)

-- the first fault of taking back the verdict on an item
abbrev pub undecide_fault : Configuration → ℕ → List Reading → Decided → ItemId → Option DecisionFault
undecide_fault conf characters layers decided item =
    option_map_or (λ held. option_or (undecided_fault (verdict_on item decided)) (changed_fault conf characters layers (without_verdict decided item) held)) (held_as layers item) (Some NoItem)

-- the fault of decisions on items that are none
abbrev pub item_fault : List Reading → Decided → Option DecisionFault
item_fault layers decided = cond (list_all (λ one. is_some (held_as layers one.0)) decided) None (Some NoItem)

-- the first fault of a list of decisions
abbrev pub decision_fault : Configuration → ℕ → List Reading → Decided → Option DecisionFault
decision_fault conf characters layers decided = option_or (item_fault layers decided) (option_or (needed (missing layers decided)) (layer_fault conf characters layers decided))
