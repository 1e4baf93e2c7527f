use Rattle.std.proofs.Common.{ℕ, arith, refl}
use Rattle.std.specs.Ordering.{nat_cmp}
use Rattle.std.specs.BTreeMap.{get}
use Rattle.curator_decisions.proofs.RenameLemmas.{called_more}
use Rattle.curator_decisions.proofs.naming.places_of.Goals as goal

pub loop-left-preserved : goal.loop-left-preserved
loop-left-preserved c = record {
  within = omega arith;
  places = called_more {T = ℕ} (λ at. at) c.args.marks.now c.loop-left.left c.index-marks-left.result (omega arith) c.loop-left.invariant.within c.index-marks-left.is (get nat_cmp c.loop-left.places) (get nat_cmp c.insert.new.self) c.loop-left.invariant.places c.index-marks-left.result.place refl
      c.rank.result c.rank.ensures c.in_ok-insert.ensures.updates.0;
}
