use Rattle.std.proofs.Common.{◌≡◌, false, true, not, is_some, length, length-set, get_or, None, ap, ◌∙◌}
use Rattle.content_keys.proofs.CounterpartLemmas.{first_more, first_same}
use Rattle.curator_decisions.proofs.numbering.first_by_place.Goals as goal
use Rattle.curator_decisions.proofs.numbering.first_by_place.Goals.{then-is_none, else-is_none}

pub loop-one-preserved : goal.loop-one-preserved
loop-one-preserved c =
    let placed = c.args.placed.now in
    let i = c.loop-one.one-index in
    let p = c.one-item.result in
    let firsts = c.loop-one.firsts.items in
    let here = c.index.result.now in
    elim c.if-is_none.branch [
      | then-is_none w ↦
          let free : is_some here ≡ false = c.is_none.ensures ∙ ap not w.if-is_none.true in
          record {
            long = ap (λ v. length v.items) w.firsts-is ∙ length-set firsts p.place _ ∙ c.loop-one.invariant.long;
            firsts = λ q. ap (λ v. get_or v.items q None) w.firsts-is ∙ first_more placed i p c.loop-one-test.true c.one-item.is c.args.count c.requires firsts c.loop-one.invariant.long c.loop-one.invariant.firsts here c.index.ensures free q;
          }
      | else-is_none w ↦
          let taken : is_some here ≡ true = c.is_none.ensures ∙ ap not w.if-is_none.false in
          record {
            long = ap (λ v. length v.items) w.firsts-is ∙ c.loop-one.invariant.long;
            firsts = λ q. ap (λ v. get_or v.items q None) w.firsts-is ∙ first_same placed i p c.loop-one-test.true c.one-item.is c.args.count c.requires firsts c.loop-one.invariant.long c.loop-one.invariant.firsts here c.index.ensures taken q;
          }
    ]
