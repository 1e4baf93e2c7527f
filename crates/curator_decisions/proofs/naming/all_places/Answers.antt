use Rattle.std.proofs.Common.{ℕ}
use Rattle.curator_decisions.proofs.RenameLemmas.{names_more}
use Rattle.curator_decisions.proofs.naming.all_places.Goals as goal

pub loop-row-preserved : goal.loop-row-preserved
loop-row-preserved c =
    names_more {T = ℕ} (λ at. at) c.args.rows.now c.loop-row.row-index c.row-item.result c.loop-row-test.true c.row-item.is c.loop-row.all.items c.push.new.self.items c.in_ok-places.places c.in_ok-push.ensures.items c.loop-row.invariant c.as_slice.result.now c.as_slice.ensures.value
    c.in_ok-places.ensures
