use Rattle.std.proofs.Common.{◌≡◌, ◌==◌, Bool, true, false, sym, ◌∙◌, rules}
use Rattle.mark_base.specs.declared.arguments.Arg.{Arg}
use Rattle.std.specs.Prelude.{count_by}
use Rattle.layer_rules.specs.LayerRules.{is_arg}
use Rattle.layer_core.proofs.PairedLemmas.{all_on, all_out, step_at}
use Rattle.layer_core.proofs.pairs.stand_as_often.Goals as goal

pub returns-then-not-stands_as_often : goal.returns-then-not-stands_as_often
returns-then-not-stands_as_often c =
    let p : Arg → Bool = λ arg. count_by (is_arg arg) c.args.a.now == count_by (is_arg arg) c.args.b.now in
    let out : c.stands_as_often.result ≡ false = search rules in
    sym (all_out p c.arg-item.result _ _ (step_at c.args.some.now c.loop-arg.arg-index c.arg-item.result c.loop-arg-test.true c.arg-item.is) (sym c.stands_as_often.ensures ∙ out))
    ∙ c.loop-arg.invariant

pub loop-arg-preserved : goal.loop-arg-preserved
loop-arg-preserved c =
    let p : Arg → Bool = λ arg. count_by (is_arg arg) c.args.a.now == count_by (is_arg arg) c.args.b.now in
    let on : c.stands_as_often.result ≡ true = search rules in
    sym (all_on p c.arg-item.result _ _ (step_at c.args.some.now c.loop-arg.arg-index c.arg-item.result c.loop-arg-test.true c.arg-item.is) (sym c.stands_as_often.ensures ∙ on))
    ∙ c.loop-arg.invariant
