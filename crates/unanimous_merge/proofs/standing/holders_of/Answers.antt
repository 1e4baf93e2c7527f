use Rattle.std.proofs.Common.{◌≡◌, ◌≤◌, ℕ, cond, false, get_or, length, arith, ap, ◌∙◌}
use Rattle.unanimous_merge.proofs.StandingLemmas.{bit_at_most, bits_next, bits_small, byte_is}
use Rattle.unanimous_merge.proofs.standing.holders_of.Goals as goal

pub loop-left-preserved : goal.loop-left-preserved
loop-left-preserved c =
    let rows = c.args.rows.now in
    let left = c.loop-left.left in
    let bit : c.from.result ≡ cond (get_or c.index-rows-left.result.items c.args.place false) 1 0 =
    c.from.ensures ∙ byte_is c.has_place.result ∙ ap {B = ℕ} (λ b. cond b 1 0) (c.has_place.ensures ∙ ap (λ r. get_or r c.args.place false) c.as_slice.ensures.value) in
    let one : c.from.result ≤ 1 = bit_at_most c.from.result (get_or c.index-rows-left.result.items c.args.place false) bit in
    record {
      within = omega arith;
      holders = bits_next (λ row. row.items) rows left c.index-rows-left.result (omega arith) c.loop-left.invariant.within c.index-rows-left.is c.args.place c.from.result bit c.loop-left.holders c.loop-left.invariant.holders;
      small = bits_small (length rows) left c.loop-left.holders c.from.result (omega arith) c.loop-left.invariant.within one c.loop-left.invariant.small;
    }
