use Rattle.std.proofs.Common.{◌≡◌, ◌<◌, List, Bool, length, map, ◌∙◌, ap, arith}
use Rattle.std.specs.List.{filter}
use Rattle.content_keys.specs.declared.placed_layer.Placed.{Placed}
use Rattle.unanimous_merge.specs.Readings.{readings}
use Rattle.unanimous_merge.specs.Rows.{each_has}
use Rattle.unanimous_merge.specs.Unanimous.{unanimous_ids}
use Rattle.unanimous_merge.proofs.SharedLemmas.{shared}
use Rattle.unanimous_merge.proofs.picks.unanimous.Goals as goal

pub returns : goal.returns
returns c =
    let merged = c.in_ok-merged.merged in
    let is = c.in_ok-merged.ensures in
    let snapshot = c.args.snapshot.now in
    let row = c.index.result.now in
    let marks : List (List Bool) = map (λ row. row.items) merged.marks.items in
    let some : 0 < length snapshot = (let two = c.count-holders.ensures.kept.two in omega arith) in
    let ids : c.in_ok-ids.ids.items ≡ unanimous_ids (readings snapshot) =
    c.in_ok-ids.ensures ∙ (λ i. map (λ (p : Placed). p.id) (filter (λ p. each_has (map (λ row. row.items) (c.as_slice-2.ensures.value i)) p.place) (c.as_slice.ensures.value i)))
    ∙ shared merged.table is.distinct snapshot merged.rows.items is.rows some row c.index.ensures marks is.marks in
    c.of-2.ensures ∙ (λ i. record { ids = ids i; classes = is.classes i })
