use Rattle.std.proofs.Common.{sym, subst, List, take}
use Rattle.mark_base.specs.declared.ann_id.AnnId.{AnnId}
use Rattle.layer_core.specs.Indexes.{HasPairs}
use Rattle.layer_core.proofs.PairSets.{put_keeps}
use Rattle.layer_core.proofs.IndexLemmas.{pairs_next, up_to_next}
use Rattle.layer_core.proofs.index.put_pairs.Goals as goal

pub loop-id-preserved : goal.loop-id-preserved
loop-id-preserved c =
    let i = c.loop-id.id-index in
    let ids = c.args.ids.now in
    let place = c.rank.result in (
      subst (λ (xs : List AnnId). HasPairs c.insert.new.self c.args.namer xs) (sym (up_to_next ids i c.id-item.result c.id-item.is c.loop-id-test.true))
          (pairs_next c.loop-id.pairs c.insert.new.self c.args.namer place (take i ids) c.id-item.result c.loop-id.invariant.0 c.rank.ensures c.in_ok-insert.ensures.updates),
      λ named namer there. put_keeps c.loop-id.pairs c.insert.new.self place c.args.namer c.in_ok-insert.ensures.updates named namer (c.loop-id.invariant.1 named namer there),
    )
