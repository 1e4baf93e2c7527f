use Rattle.std.proofs.Common.{◌≡◌, ◌∙◌, sym, ap, below_more, arith, length, false, nat_le}
use Rattle.std.specs.Option.{option_map_or}
use Rattle.type_hierarchy.specs.TypeFaults.{bad_parent, is_misplaced}
use Rattle.type_hierarchy.proofs.FaultLemmas.{first_is, none_is, misplaced_at}
use Rattle.type_hierarchy.proofs.tree.bad_parent.Goals as goal

pub returns-then-is_misplaced : goal.returns-then-is_misplaced
unfolding bad_parent
returns-then-is_misplaced c =
    sym (first_is (is_misplaced c.args.rows.now) (length c.args.rows.now) c.loop-place.place (omega arith) c.loop-place.invariant
    (misplaced_at c.args.rows.now c.loop-place.place c.index-rows-place.result (omega arith)
    ∙ ap (λ row. option_map_or (λ parent. nat_le c.loop-place.place parent.n) row.parent false) (sym c.index-rows-place.is)
    ∙ sym c.is_misplaced.ensures ∙ c.if-is_misplaced.true))

pub loop-place-preserved : goal.loop-place-preserved
loop-place-preserved c =
    below_more (λ k. is_misplaced c.args.rows.now k ≡ false) c.loop-place.place c.loop-place.invariant
    (misplaced_at c.args.rows.now c.loop-place.place c.index-rows-place.result (omega arith)
    ∙ ap (λ row. option_map_or (λ parent. nat_le c.loop-place.place parent.n) row.parent false) (sym c.index-rows-place.is)
    ∙ sym c.is_misplaced.ensures ∙ c.if-is_misplaced.false)

pub returns : goal.returns
unfolding bad_parent
returns c = sym (none_is (is_misplaced c.args.rows.now) (length c.args.rows.now) (λ k lt. c.loop-place.invariant k (omega arith)))
