use Rattle.std.proofs.Common.{◌∙◌, sym, arith}
use Rattle.std.proofs.lemmas.Map.Text.{btree_map_updates_str}
use Rattle.annotation_conf.proofs.FaultNames.{finds_new}
use Rattle.annotation_conf.proofs.FaultTwice.{twice_now, not_yet}
use Rattle.annotation_conf.proofs.faults_twice.stands_twice.Goals as goal

pub returns-then-contains_key : goal.returns-then-contains_key
returns-then-contains_key c =
    twice_now c.args.names.now c.loop-place.places c.loop-place.place _ (omega arith) c.loop-place.invariant.finds
    (sym c.contains_key.ensures ∙ c.if-contains_key.true)

pub loop-place-preserved : goal.loop-place-preserved
loop-place-preserved c = record {
  finds = finds_new c.args.names.now c.loop-place.places c.insert.new.self c.loop-place.place _ (omega arith) c.loop-place.invariant.finds
      (sym c.contains_key.ensures ∙ c.if-contains_key.false)
      (btree_map_updates_str _ c.loop-place.places c.insert.new.self _ c.in_ok-insert.ensures.updates);
  once = not_yet c.args.names.now c.loop-place.places c.loop-place.place _ (omega arith) c.loop-place.invariant.finds
      (sym c.contains_key.ensures ∙ c.if-contains_key.false) c.loop-place.invariant.once;
}
