use Rattle.std.proofs.Common.{◌≡◌, sym, ◌∙◌, ap, Some, None}
use Rattle.std.specs.Option.{option_copied, option_map}
use Rattle.layer_model.specs.declared.rule.Rule.TheVariants.{SameSpan}
use Rattle.layer_rules.specs.LayerRules.{same_spans}
use Rattle.layer_rules.proofs.OverlapLemmas.{good_ascending, good_some}
use Rattle.layer_core.specs.MadeLayers.{span_of}
use Rattle.layer_core.specs.Near.{is_same_span}
use Rattle.layer_core.proofs.PairedLemmas.{span_got}
use Rattle.layer_core.proofs.NearOtherLemmas.{span_alone}
use Rattle.layer_core.proofs.NearSpanLemmas.{judges_same, pair_by_index}
use Rattle.layer_core.proofs.near.same_span.Goals as goal

pub first_same-requires-clause-ascending : goal.first_same-requires-clause-ascending
first_same-requires-clause-ascending c =
    let found : Some c.in-Some.span.now ≡ span_of c.args.layer.now c.args.id = sym (ap option_copied c.in-Some.is) ∙ c.span_of.ensures in
    good_ascending c.in-Some.span.now.frags (c.requires.good.1 c.args.id.number c.in-Some.span.now (span_got c.args.layer.now c.args.id.kind c.args.id.number c.in-Some.span.now found)).0

pub first_same-requires-clause-some : goal.first_same-requires-clause-some
first_same-requires-clause-some c =
    let found : Some c.in-Some.span.now ≡ span_of c.args.layer.now c.args.id = sym (ap option_copied c.in-Some.is) ∙ c.span_of.ensures in
    good_some c.in-Some.span.now.frags (c.requires.good.1 c.args.id.number c.in-Some.span.now (span_got c.args.layer.now c.args.id.kind c.args.id.number c.in-Some.span.now found)).0

pub first_same-requires-clause-short : goal.first_same-requires-clause-short
first_same-requires-clause-short c =
    let found : Some c.in-Some.span.now ≡ span_of c.args.layer.now c.args.id = sym (ap option_copied c.in-Some.is) ∙ c.span_of.ensures in
    (c.requires.good.1 c.args.id.number c.in-Some.span.now (span_got c.args.layer.now c.args.id.kind c.args.id.number c.in-Some.span.now found)).1

pub returns-in-Some-first_same : goal.returns-in-Some-first_same
returns-in-Some-first_same c =
    let found : Some c.in-Some.span.now ≡ span_of c.args.layer.now c.args.id = sym (ap option_copied c.in-Some.is) ∙ c.span_of.ensures in
    let good = c.requires.good.1 c.args.id.number c.in-Some.span.now (span_got c.args.layer.now c.args.id.kind c.args.id.number c.in-Some.span.now found) in
    ap (λ id. Some (SameSpan id)) c.id_at.ensures
    ∙ sym (ap (option_map SameSpan)
    (pair_by_index same_spans c.args.layer.now c.keeps.ensures (λ n overlap. is_same_span c.args.layer.now c.in-Some.span.now n) c.args.id c.args.index.now.spans c.in-Some.span.now (Some c.in-Some-first_same.number)
    found (judges_same c.requires.good.0 c.args.layer.now c.requires.good.1 c.in-Some.span.now (good_ascending c.in-Some.span.now.frags good.0) (good_some c.in-Some.span.now.frags good.0)) c.requires.index.spans c.in-Some-first_same.ensures))

pub returns-in-None-first_same : goal.returns-in-None-first_same
returns-in-None-first_same c =
    let found : Some c.in-Some.span.now ≡ span_of c.args.layer.now c.args.id = sym (ap option_copied c.in-Some.is) ∙ c.span_of.ensures in
    let good = c.requires.good.1 c.args.id.number c.in-Some.span.now (span_got c.args.layer.now c.args.id.kind c.args.id.number c.in-Some.span.now found) in
    sym (ap (option_map SameSpan)
    (pair_by_index same_spans c.args.layer.now c.keeps.ensures (λ n overlap. is_same_span c.args.layer.now c.in-Some.span.now n) c.args.id c.args.index.now.spans c.in-Some.span.now None
    found (judges_same c.requires.good.0 c.args.layer.now c.requires.good.1 c.in-Some.span.now (good_ascending c.in-Some.span.now.frags good.0) (good_some c.in-Some.span.now.frags good.0)) c.requires.index.spans c.in-None-first_same.ensures))

pub returns-in-None : goal.returns-in-None
returns-in-None c = sym (ap (option_map SameSpan) (span_alone c.args.layer.now c.args.id (sym (ap option_copied c.in-None.is) ∙ c.span_of.ensures)))
