use Rattle.std.proofs.Common.{◌≡◌, ◌≤◌, ℕ, List, Bool, IfOk, length, map, sym, ap, ◌∙◌, subst, arith}
use Rattle.unanimous_merge.specs.declared.item.Item.{Item}
use Rattle.unanimous_merge.specs.Rows.{having, item_at}
use Rattle.unanimous_merge.proofs.ItemLemmas.{items_found}
use Rattle.unanimous_merge.proofs.ListLemmas.{length_map}
use Rattle.unanimous_merge.proofs.StandingLemmas.{has_mark}
use Rattle.unanimous_merge.proofs.item_list.items.Goals as goal

pub listed-requires : goal.listed-requires
listed-requires c =
    let merged = c.in_ok-merged.merged in
    let is = c.in_ok-merged.ensures in
    let rows = merged.rows.items in
    let snapshot = c.args.snapshot.now in
    let standing = merged.marks.items in
    let all : length snapshot ≤ 16 = c.count-holders.ensures.kept.few in
    let marks : length rows ≡ length snapshot = sym (length_map _ rows) ∙ ap length is.rows.marks ∙ length_map _ snapshot in
    let has : having 0 (map (λ row. row.items) standing) ≡ map (has_mark 0) rows = is.marks 0 in
    let long : length standing ≡ length rows = sym (length_map _ standing) ∙ sym (length_map _ (map (λ row. row.items) standing)) ∙ ap length has ∙ length_map (has_mark 0) rows in
    let same : length c.as_slice-2.result.now ≡ length standing = ap length c.as_slice-2.ensures.value in
    omega (arith, all, marks, long, same)

pub returns : goal.returns
returns c =
    let merged = c.in_ok-merged.merged in
    let is = c.in_ok-merged.ensures in
    let snapshot = c.args.snapshot.now in
    let standing : List (List Bool) = map (λ row. row.items) merged.marks.items in
    let P : List Item → Type 0 = λ xs. IfOk c.listed.result (λ listed. listed.items ≡ xs) in
    subst P
    ((λ i. map (item_at (map (λ row. row.items) (c.as_slice-2.ensures.value i))) (c.as_slice.ensures.value i))
    ∙ items_found merged.table is.distinct snapshot merged.rows.items is.rows standing is.marks merged.firsts.items is.within is.firsts)
    c.listed.ensures
