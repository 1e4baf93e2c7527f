use Rattle.std.proofs.Common.{None, get_or, arith}
use Rattle.std.specs.Ordering.{nat_cmp}
use Rattle.std.specs.BTreeMap.{get}
use Rattle.curator_decisions.proofs.RenameLemmas.{called_more}
use Rattle.curator_decisions.proofs.renaming.names_of.Goals as goal

pub loop-left-preserved : goal.loop-left-preserved
loop-left-preserved c = record {
  within = omega arith;
  names = called_more (λ at. get_or c.args.ids.now at None) c.args.marks.now c.loop-left.left c.index-marks-left.result (omega arith) c.loop-left.invariant.within c.index-marks-left.is (get nat_cmp c.loop-left.names) (get nat_cmp c.insert.new.self) c.loop-left.invariant.names
      c.id_at_place-new.result c.id_at_place-new.ensures c.rank.result c.rank.ensures c.in_ok-insert.ensures.updates.0;
}
