use Rattle.std.proofs.Common.{None, get_or}
use Rattle.curator_decisions.proofs.RenameLemmas.{names_more}
use Rattle.curator_decisions.proofs.renaming.all_names.Goals as goal

pub loop-row-preserved : goal.loop-row-preserved
loop-row-preserved c =
    names_more (λ at. get_or c.args.ids.now at None) c.args.rows.now c.loop-row.row-index c.row-item.result c.loop-row-test.true c.row-item.is c.loop-row.all.items c.push.new.self.items c.in_ok-names.names c.in_ok-push.ensures.items c.loop-row.invariant c.as_slice.result.now c.as_slice.ensures.value
    c.in_ok-names.ensures
