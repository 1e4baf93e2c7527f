-- A curator's decisions on the items of a snapshot, and which items are in (WebAnno user guide, "Curation").
use Rattle.std.specs.Prelude.{ℕ, ◌+◌, ◌*◌, ◌==◌, Bool, true, false, not, if◌then◌else◌, List, [], ◌∷◌, map, filter, Option, Some, None, find}
use Rattle.std.specs.Ordering.{nat_cmp, match_ordering}
use Rattle.std.specs.List.Sorted.{IsStrictlySortedBy}
use Rattle.layer_model.specs.Classes.{rank}
use Rattle.unanimous_merge.specs.declared.item.ItemId.{ItemId}
use Rattle.unanimous_merge.specs.Items.{Held, leaders, name_of}
use Rattle.unanimous_merge.specs.Readings.{Reading}
use Rattle.unanimous_merge.specs.Unanimous.{in_each}
use Rattle.curator_decisions.specs.declared.verdict.Verdict.{Verdict}
use Rattle.curator_decisions.specs.declared.verdict.Verdict.TheVariants.{Accept, Reject}

-- ---- decisions

-- the place of an item among all items: by holder, then by ID
abbrev pub item_rank : ItemId → ℕ
item_rank item = item.holder * 7000000000 + rank item.id

-- verdicts, each behind its item
abbrev pub Decided : Type 0
Decided = List (ItemId × Verdict)

-- the items ascend, each once
abbrev pub Ascend : Decided → Type 0
Ascend decided = IsStrictlySortedBy nat_cmp (map (λ one. item_rank one.0) decided)

-- the verdict on an item
abbrev pub verdict_on : ItemId → Decided → Option Verdict
verdict_on item [] = None
verdict_on item (one ∷ others) = if item_rank one.0 == item_rank item then Some one.1 else verdict_on item others

-- the decisions with this verdict on an item, in its place
abbrev pub with_verdict : Decided → ItemId → Verdict → Decided
with_verdict [] item verdict = (item, verdict) ∷ []
with_verdict (one ∷ others) item verdict =
    match_ordering (nat_cmp (item_rank item) (item_rank one.0)) ((item, verdict) ∷ one ∷ others) ((item, verdict) ∷ others) (one ∷ with_verdict others item verdict)

-- the decisions with no verdict on an item
abbrev pub without_verdict : Decided → ItemId → Decided
without_verdict decided item = filter (λ one. not (item_rank one.0 == item_rank item)) decided

-- ---- which items are in

-- the annotation that gives an item its name
abbrev pub held_as : List Reading → ItemId → Option Held
held_as layers item = find (λ held. item_rank (name_of held) == item_rank item) (leaders layers)

-- in by a verdict: what is accepted is in, what is rejected is not, and what is undecided where it is unanimous
abbrev pub is_in_by : Option Verdict → Bool → Bool
is_in_by (Some Accept) unanimous = true
is_in_by (Some Reject) unanimous = false
is_in_by None unanimous = unanimous

-- an item is in where it is unanimous or accepted, and not rejected
abbrev pub is_in : List Reading → Decided → Held → Bool
is_in layers decided held = is_in_by (verdict_on (name_of held) decided) (in_each layers held.content)

-- the items that are in, in their order
abbrev pub items_in : List Reading → Decided → List Held
items_in layers decided = filter (is_in layers decided) (leaders layers)
