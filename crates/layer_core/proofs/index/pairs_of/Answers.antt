use Rattle.std.proofs.Common.{◌≡◌, length, take, sym, ◌∙◌, subst, List, arith}
use Rattle.mark_base.specs.declared.ann_id.AnnId.{AnnId}
use Rattle.layer_core.proofs.IndexLemmas.{all_held, AllHeld, held_next, up_to_next}
use Rattle.layer_core.proofs.index.pairs_of.Goals as goal

pub loop-id-preserved : goal.loop-id-preserved
loop-id-preserved c =
    let i = c.loop-id.id-index in
    let ids = c.deref-id-items.result.now in
    subst (λ (xs : List AnnId). AllHeld c.args.layer.now c.put_named.new.pairs xs) (sym (up_to_next ids i c.id-item.result c.id-item.is c.loop-id-test.true))
    (held_next c.args.layer.now c.loop-id.pairs c.put_named.new.pairs (take i ids) c.id-item.result c.loop-id.invariant c.put_named.ensures.kept c.in_ok-put_named.ensures.all)

pub returns : goal.returns
returns c =
    let ids = c.deref-id-items.result.now in
    let end : c.loop-id.id-index ≡ length ids = (let upto = c.loop-id.auto.id-index-end in let done = c.loop-id-test.false in omega arith) in
    all_held c.args.layer.now c.loop-id.pairs ids c.loop-id.id-index (c.deref-id-items.ensures.value ∙ c.in_ok-ids.ensures) end c.loop-id.invariant
