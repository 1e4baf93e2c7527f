use Rattle.std.proofs.Common.{◌≡◌, ◌+◌, true, not, sym, ◌∙◌, ap, arith, rules}
use Rattle.layer_model.specs.Layers.{count, has_number}
use Rattle.layer_core.proofs.DeskLemmas.{count_low}
use Rattle.layer_rules.proofs.RecordLemmas.{passed_in_range}
use Rattle.layer_core.proofs.new_numbers.free_number.Goals as goal

pub overflow_add-end : goal.overflow_add-end
overflow_add-end c = omega (arith, count_low c.args.layer.now c.keeps.ensures c.args.kind, c.count-end.ensures)

pub loop-number-preserved : goal.loop-number-preserved
loop-number-preserved c =
    let there : c.has_number.result ≡ true = search rules in
    sym (passed_in_range (λ number. not (has_number c.args.layer.now c.args.kind number)) (count c.args.layer.now c.args.kind + 2) c.loop-number.number (omega (arith, c.count-end.ensures))
    (ap not (sym c.has_number.ensures ∙ there)))
    ∙ c.loop-number.invariant
