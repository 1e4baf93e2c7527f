use Rattle.std.proofs.Common.{◌≡◌, ℕ, ◌==◌, ◌&&◌, List, length, not, is_none, count_by, ◌∙◌, ap}
use Rattle.layer_model.specs.Annotations.{Annotations}
use Rattle.unanimous_merge.specs.declared.item.Item.{Item}
use Rattle.unanimous_merge.specs.Items.{items}
use Rattle.curator_decisions.specs.Decisions.{Decided, verdict_on}
use Rattle.project_reports.proofs.ItemLemmas.{unanimous_counted, undecided_counted}
use Rattle.project_reports.proofs.item_counts.item_counts.Goals as goal

pub returns-clause-unanimous : goal.returns-clause-unanimous
returns-clause-unanimous c =
    let shot = c.args.snapshot.now in
    let all = c.bits_of_all-all.result in
    let listed : c.deref.result.now ≡ items shot.holders = c.deref.ensures.value ∙ (c.in_ok-items.ensures ∙ ap items c.layers.ensures) in
    let many : c.count.result ≡ length shot.holders = c.count.ensures.count ∙ ap (λ (held : List (List ℕ × Annotations)). length held) c.layers-2.ensures in
    c.count_unanimous-unanimous.ensures ∙ (ap (count_by (λ (item : Item). item.holders == all)) listed ∙ unanimous_counted shot all c.count.result many c.bits_of_all-all.ensures)

pub returns-clause-undecided : goal.returns-clause-undecided
returns-clause-undecided c =
    let shot = c.args.snapshot.now in
    let all = c.bits_of_all-all.result in
    let listed : c.deref-2.result.now ≡ items shot.holders = c.deref-2.ensures.value ∙ (c.in_ok-items.ensures ∙ ap items c.layers.ensures) in
    let many : c.count.result ≡ length shot.holders = c.count.ensures.count ∙ ap (λ (held : List (List ℕ × Annotations)). length held) c.layers-2.ensures in
    c.count_undecided-undecided.ensures
    ∙ (ap (λ (decided : Decided). count_by (λ (item : Item). not (item.holders == all) && is_none (verdict_on item.id decided)) c.deref-2.result.now) c.decisions.ensures
    ∙ (ap (count_by (λ (item : Item). not (item.holders == all) && is_none (verdict_on item.id shot.verdicts))) listed ∙ undecided_counted shot all c.count.result many c.bits_of_all-all.ensures))
