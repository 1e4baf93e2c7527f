use Rattle.std.proofs.Common.{◌≡◌, map, [], sym, ◌∙◌, ap}
use Rattle.std.specs.FinMap as finite
use Rattle.std.specs.Option.{option_map}
use Rattle.mark_base.specs.declared.ann_id.Kind.TheVariants as letter
use Rattle.layer_model.specs.declared.rule.Rule.TheVariants.{SameSpan}
use Rattle.layer_rules.specs.Repeats.{keyed, repeat_after, shown, span_key}
use Rattle.layer_rules.proofs.PairLemmas.{flaw_of}
use Rattle.layer_rules.proofs.SameSpanLemmas.{same_span_found}
use Rattle.layer_rules.proofs.same_spans.same_span_flaw.Goals as goal

pub returns-in-Some : goal.returns-in-Some
returns-in-Some c =
    let is : c.in_ok-repeat.repeat ≡ repeat_after [] (keyed letter.Text span_key (finite.entries c.args.layer.now.spans)) =
    c.in_ok-repeat.ensures ∙ ap (repeat_after []) (ap (map shown) c.as_slice.ensures.value ∙ c.in_ok-all.ensures ∙ ap (λ m. keyed letter.Text span_key (finite.entries m)) c.spans.ensures) in
    ap (option_map (flaw_of SameSpan)) (sym c.in-Some.is ∙ is) ∙ same_span_found c.args.layer.now c.keeps.ensures

pub returns : goal.returns
returns c =
    let is : c.in_ok-repeat.repeat ≡ repeat_after [] (keyed letter.Text span_key (finite.entries c.args.layer.now.spans)) =
    c.in_ok-repeat.ensures ∙ ap (repeat_after []) (ap (map shown) c.as_slice.ensures.value ∙ c.in_ok-all.ensures ∙ ap (λ m. keyed letter.Text span_key (finite.entries m)) c.spans.ensures) in
    ap (option_map (flaw_of SameSpan)) (sym c.in-None.is ∙ is) ∙ same_span_found c.args.layer.now c.keeps.ensures
