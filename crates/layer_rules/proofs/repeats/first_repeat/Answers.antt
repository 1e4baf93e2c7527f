use Rattle.std.proofs.Common.{◌≡◌, [], map, ◌<◌, length, take, cond, Some, None, sym, ◌∙◌, ap, arith}
use Rattle.layer_rules.specs.Repeats.{first_with, repeat_after, same_numbers, shown}
use Rattle.layer_rules.proofs.FirstSeenLemmas.{put_more, taken, turn, found}
use Rattle.layer_rules.proofs.repeats.first_repeat.Goals as goal

pub returns-in-Some : goal.returns-in-Some
returns-in-Some c =
    let i = c.loop-one.one-index in
    let one = c.one-item.result in
    let below : i < length c.args.all.now = omega arith in
    let old : first_with one.key.items (map shown (take i c.args.all.now)) ≡ Some c.in-Some.first =
    sym (ap (λ k. first_with k (map shown (take i c.args.all.now))) c.as_slice.ensures.value) ∙ sym (c.loop-one.invariant.0 c.as_slice.result) ∙ sym c.in_ok-before.ensures.old ∙ c.in-Some.is in
    found c.args.all.now i one c.in-Some.first (repeat_after [] (map shown c.args.all.now)) below c.one-item.is old c.loop-one.invariant.1

pub loop-one-preserved : goal.loop-one-preserved
loop-one-preserved c =
    let i = c.loop-one.one-index in
    let one = c.one-item.result in
    let below : i < length c.args.all.now = omega arith in
    let copied = c.as_slice.ensures.value in
    let new : first_with one.key.items (map shown (take i c.args.all.now)) ≡ None =
    sym (ap (λ k. first_with k (map shown (take i c.args.all.now))) copied) ∙ sym (c.loop-one.invariant.0 c.as_slice.result) ∙ sym c.in_ok-before.ensures.old ∙ c.in_default.is in (
      λ q.
          c.in_ok-before.ensures.updates.0 q
          ∙ ap (λ o. cond (same_numbers c.as_slice.result.now q.now) (Some one.id) o) (c.loop-one.invariant.0 q)
          ∙ ap (λ k. cond (same_numbers k q.now) (Some one.id) (first_with q.now (map shown (take i c.args.all.now)))) copied
          ∙ put_more q.now one.key.items one.id (map shown (take i c.args.all.now)) new
          ∙ sym (ap (first_with q.now) (taken c.args.all.now i one below c.one-item.is)),
      turn c.args.all.now i one (repeat_after [] (map shown c.args.all.now)) below c.one-item.is new c.loop-one.invariant.1,
    )
