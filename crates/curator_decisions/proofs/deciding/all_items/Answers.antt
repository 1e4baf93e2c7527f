use Rattle.std.proofs.Common.{◌≡◌, ◌==◌, ◌∙◌, ℕ, List, is_some, sym, ap}
use Rattle.std.specs.List.{list_any}
use Rattle.unanimous_merge.specs.declared.entry.Entry.{Entry}
use Rattle.unanimous_merge.specs.declared.item.ItemId.{ItemId}
use Rattle.curator_decisions.specs.declared.verdict.Verdict.{Verdict}
use Rattle.curator_decisions.specs.Decisions.{item_rank}
use Rattle.curator_decisions.specs.Naming.{entry_as}
use Rattle.curator_decisions.proofs.SearchLemmas.{all_next, all_stops, some_found}
use Rattle.curator_decisions.proofs.deciding.all_items.Goals as goal

pub loop-one-preserved : goal.loop-one-preserved
loop-one-preserved c =
    let entries : List Entry = c.args.entries.now in
    let one : ItemId × Verdict = c.one-item.result in
    let found : is_some (entry_as entries one.0) ≡ c.contains.result =
    some_found (λ (entry : Entry). item_rank entry.item == item_rank one.0) entries ∙ ap (λ (n : ℕ). list_any (λ (entry : Entry). item_rank entry.item == n) entries) (sym c.item_rank.ensures)
    ∙ sym (c.contains.ensures ∙ c.in_ok-ranks.ensures c.item_rank.result) in
    c.loop-one.invariant
    ∙ all_next (λ (other : ItemId × Verdict). is_some (entry_as entries other.0)) c.args.pairs.now c.loop-one.one-index one c.loop-one-test.true c.one-item.is (found ∙ c.if-not-contains.false)

pub returns-then-not-contains : goal.returns-then-not-contains
returns-then-not-contains c =
    let entries : List Entry = c.args.entries.now in
    let one : ItemId × Verdict = c.one-item.result in
    let found : is_some (entry_as entries one.0) ≡ c.contains.result =
    some_found (λ (entry : Entry). item_rank entry.item == item_rank one.0) entries ∙ ap (λ (n : ℕ). list_any (λ (entry : Entry). item_rank entry.item == n) entries) (sym c.item_rank.ensures)
    ∙ sym (c.contains.ensures ∙ c.in_ok-ranks.ensures c.item_rank.result) in
    sym (c.loop-one.invariant
    ∙ all_stops (λ (other : ItemId × Verdict). is_some (entry_as entries other.0)) c.args.pairs.now c.loop-one.one-index one c.loop-one-test.true c.one-item.is (found ∙ c.if-not-contains.true))
