use Rattle.std.proofs.Common.{◌≡◌, ◌<◌, ◌+◌, length, sym, ◌∙◌, ap, subst, arith, take, length-set, slice_index, slice_set}
use Rattle.mark_base.specs.declared.arguments.Arg.{Arg}
use Rattle.conf_model.specs.Lookups.{roles_of}
use Rattle.layer_rules.specs.MarkRules.{filled}
use Rattle.ann_writer.specs.RoleCounts.{AreCounts}
use Rattle.ann_writer.proofs.CountLemmas.{one_word, counted}
use Rattle.ann_writer.proofs.arguments.argument_words.Goals as goal

pub loop-arg-preserved : goal.loop-arg-preserved
loop-arg-preserved c =
    let i = c.loop-arg.arg-index in
    let args = c.args.args.now in
    let arg = c.arg-item.result in
    let within : i < length args = omega arith in
    let declared : arg.role < length (roles_of c.args.conf.now c.args.event.n) =
    subst (λ (a : Arg). a.role < length (roles_of c.args.conf.now c.args.event.n)) (sym c.arg-item.is) (c.requires i arg within) in
    let fits : arg.role < length c.loop-arg.counts.items = subst (λ n. arg.role < n) (sym c.loop-arg.invariant.size) declared in
    let before : slice_index c.loop-arg.counts.items arg.role ≡ filled arg.role (take i args) = c.loop-arg.invariant.counts arg.role fits in
    let now : c.count_role-k.new.counts.items ≡ slice_set c.loop-arg.counts.items arg.role (slice_index c.loop-arg.counts.items arg.role + 1) =
    c.count_role-k.ensures.counted ∙ ap (λ r. slice_set c.loop-arg.counts.items r (slice_index c.loop-arg.counts.items r + 1)) c.from.ensures in
    let count : c.count_role-k.result ≡ filled arg.role (take i args) + 1 =
    c.count_role-k.ensures.count ∙ ap (λ n. n + 1) (ap (slice_index c.loop-arg.counts.items) c.from.ensures ∙ before) in
    record {
      words =
          rw c.in_ok-push.ensures.items
          (one_word c.args.conf.now c.args.event.n args i c.count_role-k.result arg c.loop-arg.words.items _ c.in_ok-argument_word.field-0 within c.arg-item.is count c.in_ok-argument_word.ensures c.loop-arg.invariant.words);
      counts = subst (λ xs. AreCounts xs (take (i + 1) args)) (sym now) (counted c.loop-arg.counts.items args i arg within c.arg-item.is fits c.loop-arg.invariant.counts);
      size = ap length now ∙ length-set c.loop-arg.counts.items arg.role (slice_index c.loop-arg.counts.items arg.role + 1) ∙ c.loop-arg.invariant.size;
    }
